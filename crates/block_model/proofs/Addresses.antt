-- What each event leaves, whether it was allowed or not: files whose pc is below 2^64 and handlers that lie there where it was so
-- before, an end that isn't the end of a script, and a live thread where it didn't end the process.
use Rattle.block_model.proofs.Common.{◌≡◌, ℕ, ◌+◌, ◌<◌, ◌&&◌, ◌||◌, length, refl, sym, ◌∙◌, arith, Bool, true, false, not, cond, eqb, leb, Option, Some, None, Area, BadWhy, CallDone, Done, Entry, Here, IsSound, Killed, Kind, Named, Outcome, Ready, Running, SIGSEGV, Seq, USER_END, area_here, by_call, called, can_read_area, can_read_descriptor, choice_with, descriptor_at, done_of, fetched, files_interrupted, has_flags, interruption, interruption_here, is_clearable, is_inside, is_out_of_range, is_signed, is_writable, killed_by, leb-false, length-map, memory, named, named_by, pointer_of, sequence_of, signals_taken, state_if, view_of_all, Descriptor}
use Rattle.mach_types.specs.declared.sequences.BadWhy.TheVariants as bad
use Rattle.mach_types.specs.declared.sequences.Named.TheVariants as names
use Rattle.mach_types.specs.declared.sequences.Outcome.TheVariants as comes_to
use Rattle.mach_types.specs.Kernel.Areas as areas
use Rattle.block_model.proofs.EventEffects.{CallKills, Calls, EventDeed, Executes, FaultKills, Handles, Preempts, Restarts, Returns, RunKills, Runs, SignalKills, deed_of}
use Rattle.block_model.proofs.Pcs.{outcome_stands}
use Rattle.block_model.proofs.AddressesOfCalls.{AllStand, FilesStand, IsProperCall, NotOpen, SomeLive, not_ended, proper_called}
use Rattle.block_model.proofs.SignalTables.{HandlersStand, action_stands, handled_stand, same_stand}

pub record IsProper (here : Here) (d : Done) : Type 0 where
  pub files : AllStand here → FilesStand d.files
  pub handlers : AllStand here → HandlersStand d.kernel.signals
  pub ended : NotOpen d.ended
  pub live : IsSound here.setting here.kernel → SomeLive here.kernel → d.ended ≡ None → SomeLive d.kernel

-- the abort handler of a good sequence lies below the end of addresses
abbrev HasLowAbort : Named → Type 0
HasLowAbort names.Nothing = Unit {0}
HasLowAbort (names.Good sequence) = sequence.abort < USER_END
HasLowAbort (names.Bad why) = Unit {0}

bad_or : (b : Bool) (why : BadWhy) (n : Named) → HasLowAbort n → HasLowAbort (cond b (names.Bad why) n)
bad_or true why n low = tt
bad_or false why n low = low

nothing_or : (b : Bool) (n : Named) → HasLowAbort n → HasLowAbort (cond b names.Nothing n)
nothing_or true n low = tt
nothing_or false n low = low

middle : (a b c : Bool) → (a || b || c) ≡ false → b ≡ false
middle a false c is = refl
middle true true c is = cc
middle false true c is = cc

in_range : (sequence : Seq) (n : Named) (b : Bool) → is_out_of_range sequence ≡ b → (sequence.abort < USER_END → HasLowAbort n)
    → HasLowAbort (cond b (names.Bad bad.Range) n)
in_range sequence n true is low = tt
in_range sequence n false is low =
    low (leb-false USER_END sequence.abort (middle (leb USER_END sequence.start) (leb USER_END sequence.abort) (leb USER_END (sequence.start + sequence.length)) is))

named_by_low : (byte : ℕ → Option ℕ) (area : Area) (pc : ℕ) (d : Descriptor) → HasLowAbort (named_by byte area pc d)
named_by_low byte area pc d =
    let sequence = sequence_of d in
    bad_or (not (eqb d.version 0)) bad.Version _
    (in_range sequence _ (is_out_of_range sequence) refl (λ low.
    bad_or (is_inside sequence sequence.abort) bad.AbortInside _
    (bad_or (not (is_signed byte area sequence)) bad.Signature _
    (bad_or (is_inside sequence pc && has_flags byte area d) bad.SeqFlags _ low))))

named_low : (byte : ℕ → Option ℕ) (area : Area) (pc : ℕ) → HasLowAbort (named byte area pc)
named_low byte area pc =
    let pointer = pointer_of byte area in
    bad_or (not (can_read_area byte area)) bad.AreaBytes _
    (nothing_or (eqb pointer 0) _
    (bad_or (leb USER_END pointer) bad.Pointer _
    (bad_or (not (can_read_descriptor byte pointer)) bad.Descriptor _
    (named_by_low byte area pc (descriptor_at byte pointer)))))

-- so an interruption sends its thread there
abbrev GoesLow : Outcome → Type 0
GoesLow comes_to.Nothing = Unit {0}
GoesLow comes_to.Cleared = Unit {0}
GoesLow (comes_to.Aborted at) = at < USER_END
GoesLow (comes_to.Killed why) = Unit {0}

aborted_low : (b c : Bool) (at : ℕ) → at < USER_END → GoesLow (cond b (comes_to.Killed bad.AreaBytes) (cond c (comes_to.Aborted at) comes_to.Cleared))
aborted_low false true at low = low
aborted_low b c at low = tt

outcome_low : (can_write : ℕ → Bool) (area : Area) (pc : ℕ) (n : Named) → HasLowAbort n → GoesLow (areas.outcome_of can_write area pc n)
outcome_low can_write area pc (names.Good sequence) low = aborted_low (not (is_clearable can_write area)) (is_inside sequence pc) sequence.abort low
outcome_low can_write area pc other low = tt

interruption_low : (byte : ℕ → Option ℕ) (can_write : ℕ → Bool) (o : Option Area) (pc : ℕ) → GoesLow (interruption byte can_write o pc)
interruption_low byte can_write None pc = tt
interruption_low byte can_write (Some area) pc = outcome_low can_write area pc (named byte area pc) (named_low byte area pc)

interrupted_stand : (here : Here) (t : ℕ) (o : Outcome) → GoesLow o → FilesStand (files_interrupted here t o)
interrupted_stand here t (comes_to.Aborted at) low = (omega arith, tt)
interrupted_stand here t outcome low = tt

-- a hart takes requests
take_ends : (o : Outcome) → NotOpen (killed_by o)
take_ends (comes_to.Killed why) = ((λ is. absurd cc), (λ is. absurd cc))
take_ends outcome = not_ended

-- a call is proper; so is an event that sets no file, leaves handlers and threads as they are, and ends nothing; and one that kills
by_proper_call : (here : Here) (c : CallDone) → IsProperCall here c → IsProper here (by_call here c)
by_proper_call here c proper = record { files = proper.files; handlers = proper.handlers; ended = proper.ended; live = proper.live }

quiet : (here : Here) (d : Done) → (AllStand here → FilesStand d.files) → here.kernel.signals.actions ≡ d.kernel.signals.actions → d.ended ≡ None
    → length d.kernel.threads.live ≡ length here.kernel.threads.live → IsProper here d
quiet here d files actions ended same = record {
  files = files;
  handlers = λ stand. same_stand here.kernel.signals d.kernel.signals actions stand.handlers;
  ended = rw ended not_ended;
  live = λ sound some goes. rw same some;
}

ending : (here : Here) (d : Done) (signal : ℕ) → (AllStand here → FilesStand d.files) → here.kernel.signals.actions ≡ d.kernel.signals.actions → d.ended ≡ Some (Killed signal)
    → IsProper here d
ending here d signal files actions ended = record {
  files = files;
  handlers = λ stand. same_stand here.kernel.signals d.kernel.signals actions stand.handlers;
  ended = rw ended ((λ is. absurd cc), (λ is. absurd cc));
  live = λ sound some goes. let no : Some (Killed signal) ≡ None = sym ended ∙ goes in absurd cc;
}

module _ (here : Here) (tid : ℕ) where
  stands_after : (t : ℕ) → FilesStand (files_interrupted here t (interruption_here here t))
  stands_after t =
      interrupted_stand here t (interruption_here here t) (interruption_low (memory here) (is_writable here) (area_here here t) (here.file t).pc)

  proper_deed : {k : Kind} {d : Done} → EventDeed here tid k d → IsProper here d
  proper_deed (FaultKills t signal fault) = ending here _ signal (λ stand. tt) refl refl
  proper_deed (CallKills t e next calls) = ending here _ SIGSEGV (λ stand. tt) refl refl
  proper_deed (Calls t e next calls outside) = by_proper_call here (called here t) (proper_called here t)
  proper_deed (Executes t e next) =
      let word = fetched here.setting.program.pages (here.file t).pc in
      quiet here _ (λ stand. (outcome_stands (view_of_all here) (here.file t) here.reserved e (stand.threads t) word next.is, tt)) refl refl refl
  proper_deed (Restarts t at) = record {
    files = λ stand. stands_after t;
    handlers = λ stand. stand.handlers;
    ended = take_ends (interruption_here here t);
    live = λ sound some goes. some;
  }
  proper_deed (Returns t at) = quiet here _ (λ stand. (stand.threads t, tt)) refl refl refl
  proper_deed (Preempts k t leaves at) = quiet here _ (λ stand. tt) refl refl (length-map here.kernel.threads.live (state_if t Ready))
  proper_deed Runs = quiet here _ (λ stand. stands_after tid) refl refl (length-map here.kernel.threads.live (state_if tid (Running (record { 0 = here.hart }))))
  proper_deed RunKills = ending here _ SIGSEGV (λ stand. stands_after tid) refl refl
  proper_deed (Handles t signal at) = record {
    files = λ stand. (action_stands signal here.kernel.signals stand.handlers, tt);
    handlers = λ stand. handled_stand t signal (signals_taken here t signal) stand.handlers;
    ended = not_ended;
    live = λ sound some goes. some;
  }
  proper_deed (SignalKills t signal killer at) = ending here _ killer (λ stand. stands_after t) refl refl
  proper_deed deed = quiet here _ (λ stand. tt) refl refl refl

pub proper_of : (here : Here) (k : Kind) (x : Entry) → IsProper here (done_of (choice_with k x) here)
proper_of here k x = proper_deed here x.tid.0 (deed_of here k x)
