-- One event at a time: a thread goes on to stand where it would stand if it ran alone.
use Rattle.std.proofs.Common.{◌≡◌, ℕ, zero, suc, ◌+◌, List, [], ◌∷◌, ◌++◌, refl, sym, ap, ◌∙◌, subst, Bool}
use Rattle.std.proofs.Common.{true, false, ◌&&◌, Option, Some, None, is_some, unwrap_or, drop, cond, eqb}
use Rattle.std.proofs.Common.{append-nil, append_assoc}
use Rattle.std.specs.Option.{option_map, option_map_or}
use Rattle.mach_types.specs.Bytes.{all_stored, byte_over, each_byte, joined, overlay, word_at, written}
use Rattle.mach_types.specs.Events.{choice_of}
use Rattle.mach_types.specs.Kernel.Areas.{are_readable}
use Rattle.mach_types.specs.Kernel.Pages.{can_read, permission_at}
use Rattle.mach_types.specs.Kernel.Threads.{running_on}
use Rattle.mach_types.specs.declared.events.Choice.TheVariants as asked
use Rattle.mach_types.specs.Registers.{with_register}
use Rattle.mach_types.specs.declared.registers.Regs.{Regs}
use Rattle.mach_types.specs.declared.threads.Saved.{Saved}
use Rattle.mach_types.specs.declared.user_memory.Store.{Store}
use Rattle.mach_types.specs.declared.user_memory.Write.{Write}
use Rattle.mach_types.proofs.Laws.{eqb_same, is_some-word_at}
use Rattle.rv_inst.specs.Class.{is_call}
use Rattle.rv_inst.specs.Execution.{Outcome, fault_in, outcome, seen_byte, unless_allowed, word_seen}
use Rattle.rv_inst.specs.Memory.{loaded}
use Rattle.rv_inst.specs.declared.effects.Effect.{Effect}
use Rattle.rv_inst.specs.declared.effects.Effect.TheVariants as effect
use Rattle.alone.specs.Alone.{IsWithin, Stand, effect_at, next_stand, outcome_at, stand_after}
use Rattle.block_model.specs.Events.{done_of}
use Rattle.block_model.specs.Events.Drain.{done_drain_of}
use Rattle.block_model.specs.Events.Exec.{by_call, by_effect, by_outcome, called_here, done_exec_by}
use Rattle.block_model.specs.Events.Exec.{next_effect, next_fault, outcome_of}
use Rattle.block_model.specs.Events.Take.{done_take, done_take_by, only_took}
use Rattle.block_model.specs.Here.{Done, Here, is_writable, memory, runs, view, waiting_here}
use Rattle.block_model.specs.History.{Event, History, byte, file, file_among, here_in_history, kernel}
use Rattle.block_model.specs.History.{running, stores, waiting}
use Rattle.block_model.specs.Instruction.{fault_by, fetched}
use Rattle.block_model.specs.Record.{Kernel}
use Rattle.block_model.specs.Setting.{Setting}
use Rattle.block_model.proofs.Laws.{IsStep, file_apart, runs_apart, waits_apart}
use Rattle.alone_laws.specs.Spans.{IsStanding, IsUsable, Leaves, alone_from, code_of, seen_at, sees}

-- WORDS

both : (a b : Bool) → a && b ≡ true → (a ≡ true) × (b ≡ true)
both true true is = (refl, refl)
both true false is = cc
both false b is = cc

-- bytes of an access that have something have what follows from it
pub each_implies : (test other : ℕ → Bool) → ((a : ℕ) → test a ≡ true → other a ≡ true) → (at n : ℕ)
    → each_byte test at n ≡ true → each_byte other at n ≡ true
each_implies test other follows at zero all = refl
each_implies test other follows at (suc n) all =
    let p = both (test at) (each_byte test (at + 1) n) all in
    ap (λ b. b && each_byte other (at + 1) n) (follows at p.0)
    ∙ each_implies test other follows (at + 1) n p.1

-- a word whose bytes are the same
pub word_same : (words : ℕ → Bool) (f g : ℕ → Option ℕ) → ((a : ℕ) → words a ≡ true → f a ≡ g a) → (at n : ℕ)
    → each_byte words at n ≡ true
    → word_at f at n ≡ word_at g at n
word_same words f g same at zero all = refl
word_same words f g same at (suc n) all =
    let p = both (words at) (each_byte words (at + 1) n) all in
    ap (λ o. joined o (word_at f (at + 1) n)) (same at p.0)
    ∙ ap (joined (g at)) (word_same words f g same (at + 1) n p.1)

-- stores over stores
pub overlay_append : (xs ys : List Store) (a b : ℕ) → overlay (xs ++ ys) a b ≡ overlay ys a (overlay xs a b)
overlay_append [] ys a b = refl
overlay_append (x ∷ xs) ys a b = overlay_append xs ys a (byte_over x a b)

-- WHAT A HART SEES

-- a byte that can be read is seen
pub view_is : (s : Setting) (h : ℕ) (before : History) (a : ℕ)
    → can_read (permission_at (kernel s before).pages a) ≡ true
    → view (here_in_history s before h) a ≡ seen_at s h before a
view_is s h before a can =
    ap (λ b. option_map (overlay (waiting h before) a) (cond b (Some (byte s before a)) None)) can

-- after an event of another hart that leaves it; and after one of its own from which no store enters memory
pub sees_apart : (s : Setting) (h : ℕ) (e : Event) (before : History) (a : ℕ) → eqb e.entry.hart.0 h ≡ false
    → written e.done.entered a (byte s before a) ≡ byte s before a
    → sees s h (e ∷ before) a ≡ sees s h before a
sees_apart s h e before a apart left =
    ap (λ (ws : List Store). overlay ws a (written e.done.entered a (byte s before a)))
    (waits_apart h e before apart)
    ∙ ap (overlay (waiting h before) a) left

pub sees_own : (s : Setting) (e : Event) (before : History) (a : ℕ) → IsStep s e before → e.done.drained ≡ 0
    → e.done.entered ≡ []
    → sees s e.entry.hart.0 (e ∷ before) a ≡ overlay e.done.executed a (sees s e.entry.hart.0 before a)
sees_own s e before a step none nothing =
    let h = e.entry.hart.0 in
    let waits : waiting h (e ∷ before) ≡ waiting h before ++ e.done.executed =
    step.waits ∙ ap (λ n. drop n (waiting h before ++ e.done.executed)) none in
    ap (λ (ws : List Store). overlay ws a (written e.done.entered a (byte s before a))) waits
    ∙ ap (λ (ws : List Write). overlay (waiting h before ++ e.done.executed) a
    (written ws a (byte s before a))) nothing
    ∙ overlay_append (waiting h before) e.done.executed a (byte s before a)

-- OUTCOMES

-- two outcomes that differ in the reservation alone, from which nothing enters memory
record IsSame (o other : Outcome) : Type 0 where
  regs : o.regs ≡ other.regs
  pc : o.pc ≡ other.pc
  executed : o.executed ≡ other.executed
  entered : o.entered ≡ []

-- they are those of an instruction that accesses some bytes alone, where these are seen to be the same
same_outcome : (words : ℕ → Bool) (f g : ℕ → Option ℕ) → ((a : ℕ) → words a ≡ true → f a ≡ g a)
    → (regs : Regs) (pc : ℕ) (r : Option ℕ)
    → (e : Effect) → IsWithin words e → IsSame (outcome f regs pc r e) (outcome g regs pc None e)
same_outcome words f g same regs pc r (effect.Next rd value to) within = record
    { regs = refl; pc = refl; executed = refl; entered = refl }
same_outcome words f g same regs pc r (effect.Load at size is_signed rd) within =
    let word : word_seen f at size ≡ word_seen g at size = ap (λ o. unwrap_or o 0)
    (word_same words f g same at size within) in
    record {
      regs = ap (λ n. with_register regs rd (loaded n size is_signed)) word;
      pc = refl;
      executed = refl;
      entered = refl;
    }
same_outcome words f g same regs pc r (effect.Store at size value) within = record
    { regs = refl; pc = refl; executed = refl; entered = refl }
same_outcome words f g same regs pc r other within = absurd within

readable : (words : ℕ → Bool) (f : ℕ → Option ℕ) → ((a : ℕ) → words a ≡ true → is_some (f a) ≡ true)
    → (at size : ℕ) → each_byte words at size ≡ true → are_readable f at size ≡ true
unfolding are_readable
readable words f reads at size within = each_implies words (λ a. is_some (f a)) reads at size within

-- it makes no fault where these bytes can be read and written
no_fault : (words : ℕ → Bool) (f : ℕ → Option ℕ) (can : ℕ → Bool)
    → ((a : ℕ) → words a ≡ true → is_some (f a) ≡ true) → ((a : ℕ) → words a ≡ true → can a ≡ true)
    → (e : Effect) → IsWithin words e → fault_in f can e ≡ None
no_fault words f can reads writes (effect.Next rd value to) within = refl
no_fault words f can reads writes (effect.Load at size is_signed rd) within =
    ap (λ b. unless_allowed b) (is_some-word_at f at size ∙ readable words f reads at size within)
no_fault words f can reads writes (effect.Store at size value) within = ap (λ b. unless_allowed b)
    (each_implies words can writes at size within)
no_fault words f can reads writes other within = absurd within

-- and is no call
no_call : (words : ℕ → Bool) (e : Effect) → IsWithin words e → is_call e ≡ false
no_call words (effect.Next rd value to) within = refl
no_call words (effect.Load at size is_signed rd) within = refl
no_call words (effect.Store at size value) within = refl
no_call words other within = absurd within

-- GOING ON

-- at its start a thread stands where it stands
pub standing_start : (s : Setting) (words : ℕ → Bool) (h t : ℕ) (begun : History) → running s h begun ≡ Some t
    → IsStanding s words h t begun begun (alone_from s h t begun 0)
standing_start s words h t begun runs = record
    { runs = runs; file = refl; stores = sym (append-nil (stores h begun)); sees = λ a is. refl }

-- after an event of another hart that leaves the bytes
pub standing_apart : (s : Setting) (words : ℕ → Bool) (h t : ℕ) (begun : History) (e : Event)
    (before : History) (x : Stand) → IsStep s e before
    → eqb e.entry.hart.0 h ≡ false → Leaves words e.done.entered → IsStanding s words h t begun before x
    → IsStanding s words h t begun (e ∷ before) x
standing_apart s words h t begun e before x step apart left was = record {
  runs = runs_apart s h e before step apart ∙ was.runs;
  file = file_apart s h t e before step apart was.runs ∙ was.file;
  stores = ap (λ b. cond b (stores h before ++ e.done.executed) (stores h before)) apart ∙ was.stores;
  sees = λ a is. sees_apart s h e before a apart (left a (byte s before a) is) ∙ was.sees a is;
}

-- what an event of the hart itself does that makes no instruction: a store of it may enter memory
pub record IsIdle (here : Here) (d : Done) : Type 0 where
  pub files : d.files ≡ []
  pub executed : d.executed ≡ []
  pub kernel : d.kernel ≡ here.kernel
  pub enters : (a : ℕ) → overlay (drop d.drained (waiting_here here ++ [])) a
      (written d.entered a (here.byte a)) ≡ overlay (waiting_here here) a (here.byte a)

pub drain_idle : (here : Here) (ws : List Store) → waiting_here here ≡ ws
    → IsIdle here (done_drain_of here ws)
drain_idle here [] is = record {
  files = refl;
  executed = refl;
  kernel = refl;
  enters = λ a. ap
      (λ (x : List Store). overlay x a (here.byte a)) (append-nil (waiting_here here));
}
drain_idle here (w ∷ ws) is = record {
  files = refl;
  executed = refl;
  kernel = refl;
  enters = λ a. ap (λ (x : List Store). overlay (drop 1 x) a (byte_over w a (here.byte a)))
      (append-nil (waiting_here here) ∙ is)
      ∙ ap (λ (x : List Store). overlay x a (here.byte a)) (sym is);
}

took_idle : (here : Here) → IsIdle here (only_took here)
took_idle here = record {
  files = refl;
  executed = refl;
  kernel = refl;
  enters = λ a. ap
      (λ (x : List Store). overlay x a (here.byte a)) (append-nil (waiting_here here));
}

pub take_idle : (here : Here) (restarts : Bool) (at : Option ℕ)
    → (done_take_by here restarts at).interrupted ≡ None → IsIdle here (done_take_by here restarts at)
take_idle here false at quiet = took_idle here
take_idle here true None quiet = took_idle here
take_idle here true (Some t) quiet = absurd cc

-- what the hart sees after such an event
pub sees_idle : (s : Setting) (e : Event) (before : History) (a : ℕ) → IsStep s e before
    → IsIdle (here_in_history s before e.entry.hart.0) e.done
    → sees s e.entry.hart.0 (e ∷ before) a ≡ sees s e.entry.hart.0 before a
sees_idle s e before a step idle =
    ap (λ (ws : List Store). overlay ws a (written e.done.entered a (byte s before a)))
    (step.waits ∙ ap (λ (es : List Store). drop e.done.drained (waiting e.entry.hart.0 before ++ es))
    idle.executed)
    ∙ idle.enters a

-- after such an event of the hart itself
standing_idle : (s : Setting) (words : ℕ → Bool) (h t : ℕ) (begun : History) (e : Event) (before : History)
    (x : Stand) → IsStep s e before
    → e.entry.hart.0 ≡ h → IsIdle (here_in_history s before e.entry.hart.0) e.done
    → IsStanding s words h t begun before x
    → IsStanding s words h t begun (e ∷ before) x
standing_idle s words h t begun e before x step own idle was =
    let here = here_in_history s before e.entry.hart.0 in
    let is : eqb e.entry.hart.0 h ≡ true = ap (λ n. eqb n h) own ∙ eqb_same h in
    record {
      runs = ap (λ (k : Kernel). running_on h k.threads) idle.kernel ∙ was.runs;
      file = ap (λ (fs : List (ℕ × Saved)). file_among fs t (file s t before)) idle.files ∙ was.file;
      stores = ap (λ b. cond b (stores h before ++ e.done.executed) (stores h before)) is
          ∙ ap (λ (es : List Store). stores h before ++ es) idle.executed ∙ append-nil (stores h before)
          ∙ was.stores;
      sees = λ a words_has. same a ∙ was.sees a words_has;
    }
  where
    same : (a : ℕ) → sees s h (e ∷ before) a ≡ sees s h before a
    same a =
        let w : waiting e.entry.hart.0 (e ∷ before) ≡ drop e.done.drained
        (waiting e.entry.hart.0 before ++ []) =
        step.waits ∙ ap (λ (es : List Store). drop e.done.drained (waiting e.entry.hart.0 before ++ es))
        idle.executed in
        subst (λ k. sees s k (e ∷ before) a ≡ sees s k before a) own
        (ap (λ (ws : List Store). overlay ws a (written e.done.entered a (byte s before a))) w
        ∙ idle.enters a)

pub standing_drain : (s : Setting) (words : ℕ → Bool) (h t : ℕ) (begun : History) (e : Event)
    (before : History) (x : Stand) → IsStep s e before
    → e.entry.hart.0 ≡ h → choice_of e.entry ≡ asked.Drain → IsStanding s words h t begun before x
    → IsStanding s words h t begun (e ∷ before) x
standing_drain s words h t begun e before x step own is was =
    let here = here_in_history s before e.entry.hart.0 in
    let did : e.done ≡ done_drain_of here (waiting_here here) = step.did ∙ ap (λ c. done_of c here) is in
    standing_idle s words h t begun e before x step own
    (subst (IsIdle here) (sym did) (drain_idle here (waiting_here here) refl)) was

pub standing_take : (s : Setting) (words : ℕ → Bool) (h t : ℕ) (begun : History) (e : Event)
    (before : History) (x : Stand) → IsStep s e before
    → e.entry.hart.0 ≡ h → choice_of e.entry ≡ asked.Take → e.done.interrupted ≡ None
    → IsStanding s words h t begun before x
    → IsStanding s words h t begun (e ∷ before) x
standing_take s words h t begun e before x step own is quiet was =
    let here = here_in_history s before e.entry.hart.0 in
    let did : e.done ≡ done_take here = step.did ∙ ap (λ c. done_of c here) is in
    let none : (done_take here).interrupted ≡ None = sym (ap (λ (d : Done). d.interrupted) did) ∙ quiet in
    standing_idle s words h t begun e before x step own
    (subst (IsIdle here) (sym did) (take_idle here here.restart (runs here) none)) was

-- an instruction that accesses some bytes alone makes neither a fault nor a call
pub did_exec : (s : Setting) (words : ℕ → Bool) (h t : ℕ) (begun : History) (e : Event) (before : History)
    (x : Stand) (does : Effect) → IsStep s e before
    → e.entry.hart.0 ≡ h → choice_of e.entry ≡ asked.Exec → IsUsable s words before
    → effect_at (code_of s.program.pages) x.file ≡ Some does → IsWithin words does
    → IsStanding s words h t begun before x
    → e.done ≡ by_outcome (here_in_history s before h) t (outcome_of (here_in_history s before h) t does)
did_exec s words h t begun e before x does step own is usable next within was =
    let here = here_in_history s before h in
    let ready : next_effect here t ≡ Some does = ap (effect_at (code_of s.program.pages)) was.file ∙ next in
    let readable : (a : ℕ) → words a ≡ true → is_some (memory here a) ≡ true =
    λ a has. ap (λ b. is_some (cond b (Some (here.byte a)) None)) (usable.read a has) in
    let fine : next_fault here t ≡ None =
    ap (fault_by (memory here) (is_writable here) (here.file t).pc (fetched s.program.pages (here.file t).pc))
    ready
    ∙ no_fault words (memory here) (is_writable here) readable usable.write does within in
    let o = outcome_of here t does in
    step.did ∙ ap (λ k. done_of (choice_of e.entry) (here_in_history s before k)) own
    ∙ ap (λ c. done_of c here) is
    ∙ ap (λ r. done_exec_by here r) was.runs ∙ ap (λ f. by_effect here t f (next_effect here t)) fine
    ∙ ap (λ d. by_effect here t None d) ready
    ∙ ap (λ b. cond b (by_call here (called_here here t)) (by_outcome here t o)) (no_call words does within)

-- after an instruction that accesses some bytes alone
pub standing_exec : (s : Setting) (words : ℕ → Bool) (h t : ℕ) (begun : History) (e : Event)
    (before : History) (x : Stand) (does : Effect) → IsStep s e before
    → e.entry.hart.0 ≡ h → choice_of e.entry ≡ asked.Exec → IsUsable s words before
    → effect_at (code_of s.program.pages) x.file ≡ Some does → IsWithin words does
    → IsStanding s words h t begun before x
    → IsStanding s words h t begun (e ∷ before) (next_stand (code_of s.program.pages) (seen_at s h begun) x)
standing_exec s words h t begun e before x does step own is usable next within was =
    let here = here_in_history s before h in
    let seen = seen_at s h begun in
    let same : (a : ℕ) → words a ≡ true → view here a ≡ seen_byte x.executed seen a =
    λ a has. view_is s h before a (usable.read a has) ∙ ap Some (was.sees a has) in
    let o = outcome_of here t does in
    let did = did_exec s words h t begun e before x does step own is usable next within was in
    let out : IsSame o (outcome_at seen x does) =
    subst (λ (f : Saved). IsSame (outcome (view here) f.file f.pc here.reserved does)
    (outcome_at seen x does)) (sym was.file)
    (same_outcome words (view here) (seen_byte x.executed seen) same x.file.file x.file.pc here.reserved does
    within) in
    let goes : next_stand (code_of s.program.pages) seen x ≡ stand_after x (outcome_at seen x does) =
    ap (λ d. option_map_or (λ y. stand_after x (outcome_at seen x y)) d x) next in
    let other = outcome_at seen x does in
    let of_hart : eqb e.entry.hart.0 h ≡ true = ap (λ n. eqb n h) own ∙ eqb_same h in
    let executed : e.done.executed ≡ other.executed = ap (λ (d : Done). d.executed) did ∙ out.executed in
    let after : Saved = record { file = o.regs; pc = o.pc } in
    subst (IsStanding s words h t begun (e ∷ before)) (sym goes) (record {
      runs = ap (λ (d : Done). running_on h d.kernel.threads) did ∙ was.runs;
      file = ap (λ (d : Done). file_among d.files t (file s t before)) did
          ∙ ap (λ b. cond b after (file s t before)) (eqb_same t)
          ∙ ap (λ (r : Regs). record after { file = r }) out.regs
          ∙ ap (λ n. record (stand_after x other).file { pc = n }) out.pc;
      stores = ap (λ b. cond b (stores h before ++ e.done.executed) (stores h before)) of_hart
          ∙ ap (λ (es : List Store). stores h before ++ es) executed
          ∙ ap (λ (es : List Store). es ++ other.executed) was.stores
          ∙ append_assoc (stores h begun) x.executed other.executed;
      sees = λ a has.
          subst (λ k. sees s k (e ∷ before) a ≡ overlay e.done.executed a (sees s k before a)) own
          (sees_own s e before a step (ap (λ (d : Done). d.drained) did)
          (ap (λ (d : Done). d.entered) did ∙ ap all_stored out.entered))
          ∙ ap (λ (es : List Store). overlay es a (sees s h before a)) executed
          ∙ ap (overlay other.executed a) (was.sees a has)
          ∙ sym (overlay_append x.executed other.executed a (sees s h begun a));
    })
