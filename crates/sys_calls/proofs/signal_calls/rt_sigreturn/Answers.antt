-- A handler returns where its frame can be read, and else the process is killed.
use Rattle.sys_calls.proofs.Common.{◌≡◌, ℕ, true, false, List, [], Option, Some, None, is_some, refl, sym, ap, subst, ◌∙◌, false≢true, frame_read, HasPages, Here, HoldsTables, IsCaller, IsMade, IsRead, Kernel, Map, Saved, Signalling, Threads, byte_in, memory, running_on, runs, Killed, SIGSEGV, resumed, killed_in_call}
use Rattle.mach_types.specs.Kernel.SignalFrames.{restored, returned, saved_after_return}
use Rattle.sys_calls.specs.declared.calling.CallEnd.TheVariants as over
use Rattle.sys_calls.proofs.Laws.{holds_signals}
use Rattle.sys_calls.proofs.CallAnswers.{kept_own, own_first, made_ended}
use Rattle.sys_calls.proofs.ThreadSignals.{caller_signalled}
use Rattle.sys_calls.proofs.CallerTables.{caller_runs}
use Rattle.sys_calls.proofs.signal_calls.rt_sigreturn.Goals as goal
use Rattle.sys_calls.proofs.KernelWrites.{entered_none}

-- the tables with other signals
abbrev turned : Kernel → Signalling → Kernel
turned k g = record k { signals = g }

-- the words of the frame, as a rule reads them
frame_there : (h : Here) (m : Map) (t : ℕ) (saved : Saved) → IsRead h m t saved → frame_read (byte_in m) saved ≡ frame_read (memory h) (h.file t)
frame_there h m t saved read = ap (λ (byte : ℕ → Option ℕ). frame_read byte saved) read.bytes ∙ ap (frame_read (memory h)) read.file

made_resumed : (h : Here) (t here : ℕ) (k : Kernel) (g : Signalling) (m : Map) (saved saved' : Saved) (o : Option (List ℕ)) → h.hart ≡ here → HoldsTables k h.kernel → HasPages h m → saved ≡ h.file t
    → IsCaller k here t → g ≡ returned t o k.signals → saved' ≡ saved_after_return o saved → is_some o ≡ true → IsMade h t k m (turned k g) m saved' over.Resume (resumed h t o)
made_resumed h t here k g m saved saved' None hart told has file caller signals after some = absurd (false≢true some)
made_resumed h t here k g m saved saved' (Some words) hart told has file caller signals after some = record {
  tables = holds_signals told g (returned t (Some words) h.kernel.signals) (signals ∙ ap (returned t (Some words)) told.signals);
  ids = refl;
  kept = λ all. kept_own t (restored words) h.file [] k.threads caller.quiet all;
  own = after ∙ sym (own_first t (restored words) (h.file t) []);
  pages = has;
  code = λ a. refl;
  hart = ap (λ n. running_on n h.kernel.threads) hart ∙ ap (running_on here) (sym told.threads) ∙ caller.runs;
  stands = subst (λ (ts : Threads). runs ts t) told.threads (caller_runs k here t caller);
  barrier = refl;
  ended = refl;
  answer = tt;
}

made_lost : (h : Here) (t here : ℕ) (k : Kernel) (g : Signalling) (m : Map) (saved saved' : Saved) (o : Option (List ℕ)) → h.hart ≡ here → HoldsTables k h.kernel → HasPages h m → saved ≡ h.file t
    → IsCaller k here t → g ≡ returned t o k.signals → saved' ≡ saved_after_return o saved → is_some o ≡ false
    → IsMade h t k m (turned k g) m saved' (over.ProcessEnd (Killed SIGSEGV)) (resumed h t o)
made_lost h t here k g m saved saved' (Some words) hart told has file caller signals after none = absurd (false≢true (sym none))
made_lost h t here k g m saved saved' None hart told has file caller signals after none =
    subst (λ (s : Signalling). IsMade h t k m (turned k s) m saved' (over.ProcessEnd (Killed SIGSEGV)) (killed_in_call h)) (sym signals)
    (made_ended h t here k m m saved' [] [] (Killed SIGSEGV) (Killed SIGSEGV) hart told (after ∙ file) caller has (entered_none m) refl refl)

pub pop_frame-requires : goal.pop_frame-requires
pop_frame-requires c = record { held = caller_signalled c.args.kernel.now c.args.here.0 c.args.tid.0 c.requires }

pub returns-then-pop_frame : goal.returns-then-pop_frame
returns-then-pop_frame c = record {
  made = λ h hart told has read.
      let t = c.args.tid.0 in
      let saved = c.args.saved.now in
      let is = c.pop_frame.ensures in
      subst (λ (o : Option (List ℕ)). IsMade h t c.args.kernel.now c.args.pages.now (turned c.args.kernel.now c.pop_frame.new.self) c.args.pages.now c.pop_frame.new.saved over.Resume (resumed h t o))
      (frame_there h c.args.pages.now t saved read)
      (made_resumed h t c.args.here.0 c.args.kernel.now c.pop_frame.new.self c.args.pages.now saved c.pop_frame.new.saved (frame_read (byte_in c.args.pages.now) saved) hart told has read.file c.requires is.signals is.file (sym is.answer ∙ c.if-pop_frame.true));
}

pub returns-else-pop_frame : goal.returns-else-pop_frame
returns-else-pop_frame c = record {
  made = λ h hart told has read.
      let t = c.args.tid.0 in
      let k = c.args.kernel.now in
      let m = c.args.pages.now in
      subst (λ (o : Option (List ℕ)). IsMade h t k m (turned k c.pop_frame.new.self) m c.pop_frame.new.saved (over.ProcessEnd (Killed SIGSEGV)) (resumed h t o)) (frame_there h m t c.args.saved.now read)
      (made_lost h t c.args.here.0 k c.pop_frame.new.self m c.args.saved.now c.pop_frame.new.saved (frame_read (byte_in m) c.args.saved.now) hart told has read.file c.requires c.pop_frame.ensures.signals c.pop_frame.ensures.file
      (sym c.pop_frame.ensures.answer ∙ c.if-pop_frame.false));
}
