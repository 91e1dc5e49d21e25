-- A sequence of a block begins at the start of the block's range.
use Rattle.std.proofs.Common.{◌≡◌, ◌≢◌, ℕ, List, [], ◌∷◌, refl, sym, ap, ◌∙◌, Bool, true, false, not}
use Rattle.std.proofs.Common.{cond, eqb, Option, Some, None}
use Rattle.std.specs.Option.{option_map_or, option_or}
use Rattle.std.proofs.lemmas.Bool.{eqb-true, eqb-false, false≢true}
use Rattle.mach_types.specs.Events.{choice_of, choice_with, is_instruction}
use Rattle.mach_types.specs.Kernel.Areas.{is_inside, is_inside_named}
use Rattle.mach_types.specs.declared.limits.End.{End}
use Rattle.mach_types.specs.declared.sequences.Named.{Named}
use Rattle.mach_types.specs.declared.sequences.Named.TheVariants as names
use Rattle.mach_types.specs.declared.sequences.Seq.{Seq}
use Rattle.mach_types.specs.declared.threads.Saved.{Saved}
use Rattle.block_model.specs.Acts.{Sequence, begun_with, is_inside_at, is_taken_in, named_at}
use Rattle.block_model.specs.Acts.{sequence_on, taken_up, with_event}
use Rattle.block_model.specs.History.{Event, History, ended, file, file_among, here_in_history, running}
use Rattle.mach_types.specs.declared.events.Kind.{Kind}
use Rattle.mach_types.specs.declared.events.Kind.TheVariants as kind
use Rattle.block_model.specs.Events.{done_of}
use Rattle.block_model.specs.Events.Drain.{done_drain_of}
use Rattle.block_model.specs.Events.Take.{done_take}
use Rattle.block_model.specs.Here.{Done, runs, waiting_here}
use Rattle.block_model.specs.Run.{IsRunHistory}
use Rattle.block_model.specs.Sequences.{is_inside_here, named_here}
use Rattle.block_model.specs.Setting.{Setting}
use Rattle.block_model.proofs.Laws.{Begins, Elsewhere, IsOf, IsStep, Own, SequenceStep, TakesIn, allowed_at}
use Rattle.block_model.proofs.Laws.{file_apart, runs_apart, sequence_step, step_of}
use Rattle.alone_laws.specs.Entering.{AreEntered, IsIn}
use Rattle.alone_laws.proofs.OpenSequences.{still_open}
use Rattle.alone_laws.proofs.Sequences.{is_none_true}
use Rattle.alone_laws.proofs.Steps.{drain_idle, take_idle}

pub first_none : (a b : Option End) → option_or a b ≡ None → (a ≡ None) × (b ≡ None)
first_none None b is = (refl, is)
first_none (Some x) b is = cc

never_runs : (t : ℕ) → None ≡ Some t → ⊥
never_runs t is = cc

never_one : (q : Sequence) → None ≡ Some q → ⊥
never_one q is = cc

-- an event that a sequence takes in, and that executes nothing, leaves each file
quiet_file : (s : Setting) (t : ℕ) (e : Event) (before : History) → IsStep s e before → (k : Kind)
    → e.entry.kind ≡ k → is_instruction k ≡ false
    → is_taken_in k e.done.interrupted ≡ true → file s t (e ∷ before) ≡ file s t before
quiet_file s t e before step kind.Exec is none takes = absurd (false≢true (sym none))
quiet_file s t e before step kind.Drain is none takes =
    let here = here_in_history s before e.entry.hart.0 in
    let did : e.done ≡ done_drain_of here (waiting_here here) = step.did
    ∙ ap (λ k. done_of (choice_with k e.entry) here) is in
    ap (λ (d : Done). file_among d.files t (file s t before)) did
    ∙ ap (λ (fs : List (ℕ × Saved)). file_among fs t (file s t before))
    (drain_idle here (waiting_here here) refl).files
quiet_file s t e before step kind.Take is none takes =
    let here = here_in_history s before e.entry.hart.0 in
    let did : e.done ≡ done_take here = step.did ∙ ap (λ k. done_of (choice_with k e.entry) here) is in
    let quiet : (done_take here).interrupted ≡ None = sym (ap (λ (d : Done). d.interrupted) did)
    ∙ is_none_true e.done.interrupted takes in
    ap (λ (d : Done). file_among d.files t (file s t before)) did
    ∙ ap (λ (fs : List (ℕ × Saved)). file_among fs t (file s t before))
    (take_idle here here.restart (runs here) quiet).files
quiet_file s t e before step other is none takes = absurd (false≢true takes)

module _ (s : Setting) (range : Seq) (t h : ℕ) where
  -- a sequence is open on the hart
  abbrev HasOpen : History → Type 0
  HasOpen before = (q : Sequence) × (sequence_on s h before ≡ Some q)

  pub inside_there : (before : History) → running s h before ≡ Some t → IsIn s range t before
      → named_at s h before ≡ names.Good range → is_inside_at s h before ≡ true
  inside_there before runs here named_it =
      let place = here_in_history s before h in
      let one : named_here place t ≡ names.Good range = sym
      (ap (λ (r : Option ℕ). option_map_or (named_here place) r names.Nothing) runs) ∙ named_it in
      ap (λ (r : Option ℕ). option_map_or (is_inside_here place) r false) runs
      ∙ ap (λ (n : Named). is_inside_named n (file s t before).pc) one ∙ here

  -- an event that a sequence takes in, of an open one or as its first instruction
  goes_on : (e : Event) (before : History) → (o : Option Sequence) → sequence_on s h before ≡ o
      → eqb e.entry.hart.0 h ≡ true → is_inside_at s h before ≡ true
      → is_taken_in e.entry.kind e.done.interrupted ≡ true → (o ≡ None → is_instruction e.entry.kind ≡ true)
      → HasOpen (e ∷ before)
  goes_on e before (Some q) was own inside takes starts = (with_event e before q, on_it)
    where
      on_it : sequence_on s h (e ∷ before) ≡ Some (with_event e before q)
      on_it = ap (λ b. cond (not b) (sequence_on s h before)
          (cond (is_inside_at s h before) (taken_up h e before (sequence_on s h before)) None)) own
          ∙ ap (λ b. cond b (taken_up h e before (sequence_on s h before)) None) inside
          ∙ ap (taken_up h e before) was ∙ ap (λ b. cond b (Some (with_event e before q)) None) takes
  goes_on e before None was own inside takes starts = (begun_with h e before, on_it)
    where
      on_it : sequence_on s h (e ∷ before) ≡ Some (begun_with h e before)
      on_it = ap (λ b. cond (not b) (sequence_on s h before)
          (cond (is_inside_at s h before) (taken_up h e before (sequence_on s h before)) None)) own
          ∙ ap (λ b. cond b (taken_up h e before (sequence_on s h before)) None) inside
          ∙ ap (taken_up h e before) was ∙ ap (λ b. cond b (Some (begun_with h e before)) None) (starts refl)

  -- where the thread is inside, and not at the start, a sequence is open
  pub is_open : (before : History) → IsRunHistory s before → AreEntered s range t before → ended before ≡ None
      → running s h before ≡ Some t → IsIn s range t before
      → (file s t before).pc ≢ range.start → HasOpen before
  is_open [] run entered goes runs here past = absurd (never_runs t runs)
  is_open (e ∷ before) run entered goes runs here past =
      by_hart (λ r i p. is_open before run.0 entered.0 (first_none e.done.ended (ended before) goes).1 r i p)
      (eqb e.entry.hart.0 h) refl
    where
      by_hart : (running s h before ≡ Some t → IsIn s range t before → (file s t before).pc ≢ range.start →
          HasOpen before) → (b : Bool) → eqb e.entry.hart.0 h ≡ b → HasOpen (e ∷ before)
      by_hart earlier false apart =
          let step = step_of s e before run in
          let there : running s h before ≡ Some t = sym (runs_apart s h e before step apart) ∙ runs in
          let same = file_apart s h t e before step apart there in
          let q = earlier there (sym (ap (λ (f : Saved). is_inside range f.pc) same) ∙ here)
          (λ is. past (ap (λ (f : Saved). f.pc) same ∙ is)) in (
            q.0,
            still_open s h e before apart ∙ q.1,
          )
      by_hart earlier true own =
          let is = eqb-true e.entry.hart.0 h own in
          let was = entered.1.enters (ap (λ k. running s k (e ∷ before)) is ∙ runs) here past
          (first_none e.done.ended (ended before) goes).0 in
          let there : running s h before ≡ Some t = sym (ap (λ k. running s k before) is) ∙ was.0 in
          let inside = inside_there before there was.1 (entered.1.names h there was.1) in
          goes_on e before (sequence_on s h before) refl own inside was.2
          (λ none. by_kind none earlier is was.0 there was.1 was.2 (is_instruction e.entry.kind) refl)
        where
          by_kind : sequence_on s h before ≡ None → (running s h before ≡ Some t → IsIn s range t before →
              (file s t before).pc ≢ range.start → HasOpen before)
              → e.entry.hart.0 ≡ h → running s e.entry.hart.0 before ≡ Some t → running s h before ≡ Some t
              → IsIn s range t before
              → is_taken_in e.entry.kind e.done.interrupted ≡ true → (b : Bool)
              → is_instruction e.entry.kind ≡ b → is_instruction e.entry.kind ≡ true
          by_kind none earlier same at there inside takes true k = k
          by_kind none earlier same at there inside takes false k =
              let q = earlier there inside (λ is. past
              (ap (λ (f : Saved). f.pc) (quiet_file s t e before (step_of s e before run) e.entry.kind
              refl k takes) ∙ is)) in
              let no : None ≡ Some q.0 = sym none ∙ q.1 in
              absurd (never_one q.0 no)

  -- where a sequence began none was open, and the process went on
  record IsBegun (q : Sequence) : Type 0 where
    none : sequence_on s h q.begun ≡ None
    goes : ended q.begun ≡ None
    run : IsRunHistory s q.begun
    entered : AreEntered s range t q.begun

  pub goes_there : (e : Event) (before : History) → IsRunHistory s (e ∷ before) → ended before ≡ None
  goes_there e before run = (first_none (ended before) _
      (allowed_at s before e.entry.hart.0 (choice_of e.entry) e.entry run.1).goes).0

  abbrev Earlier : History → Type 0
  Earlier before = (r : Sequence) → sequence_on s h before ≡ Some r → IsBegun r

  begun_at : (before : History) (q : Sequence) → IsRunHistory s before → AreEntered s range t before
      → sequence_on s h before ≡ Some q → IsBegun q
  begun_at [] q run entered is = absurd cc
  begun_at (e ∷ before) q run entered is =
      by_step (λ r was. begun_at before r run.0 entered.0 was) (sequence_step s e before h q is)
    where
      of_own : Earlier before → {r : Sequence} → IsOf s e before h r → IsBegun r
      of_own earlier (Begins none first) =
          record { none = none; goes = goes_there e before run; run = run.0; entered = entered.0 }
      of_own earlier (TakesIn r was takes) =
          let begun = earlier r was in
          record { none = begun.none; goes = begun.goes; run = begun.run; entered = begun.entered }

      by_step : Earlier before → SequenceStep s e before h q → IsBegun q
      by_step earlier (Elsewhere apart was) = earlier q was
      by_step earlier (Own own inside its) = of_own earlier its

  -- a sequence that begins inside the range begins at its start
  pub begins_at_start : (before : History) (q : Sequence) → IsRunHistory s before
      → AreEntered s range t before → sequence_on s h before ≡ Some q
      → running s h q.begun ≡ Some t → IsIn s range t q.begun → (file s t q.begun).pc ≡ range.start
  begins_at_start before q run entered is runs here = by_pc (eqb (file s t q.begun).pc range.start) refl
    where
      by_pc : (b : Bool) → eqb (file s t q.begun).pc range.start ≡ b → (file s t q.begun).pc ≡ range.start
      by_pc true same = eqb-true (file s t q.begun).pc range.start same
      by_pc false differs =
          let begun = begun_at before q run entered is in
          let open_there = is_open q.begun begun.run begun.entered begun.goes runs here
          (eqb-false (file s t q.begun).pc range.start differs) in
          absurd (never_one open_there.0 (sym begun.none ∙ open_there.1))
