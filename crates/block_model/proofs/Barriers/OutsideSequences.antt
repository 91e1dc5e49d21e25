-- A hart whose thread waits in a barrier is in no sequence: the call of the barrier is outside, and no instruction is executed until the
-- barrier returns.
use Rattle.block_model.proofs.Common.{◌≡◌, ℕ, ◌∷◌, refl, sym, ap, ◌∙◌, Bool, true, false, cond, eq-eqb, Option, Some, None, Barrier, Done, Entry, Event, Here, History, IsRunHistory, Kind, Outcome, Sequence, Setting, awaits, awaits_of_own, choice_with, done_of, false≢true, is_inside_at, is_inside_here, is_instruction, is_of_hart, is_taken_in, option_map, option_map_or, option_or, refusal_exec_by, refusal_of, runs, sequence_on, without_hart}
use Rattle.mach_types.specs.declared.events.Kind.TheVariants as kind
use Rattle.block_model.proofs.Invariants.Events.{out_of_barrier}
use Rattle.block_model.proofs.Sequences.{Begins, Elsewhere, IsOf, Own, SequenceStep, TakesIn, is_taken, by_sequence}
use Rattle.block_model.proofs.WholeEvents.{did, is_free, place}
use Rattle.block_model.proofs.EventEffects.{Calls, EventDeed, deed_of}

-- a thread that waits in a barrier executes no instruction
exec_free : (here : Here) (r : Option ℕ) → refusal_exec_by here r ≡ None → here.awaits ≡ None
exec_free here None free = absurd cc
exec_free here (Some t) free = (out_of_barrier here.awaits _ free).0

instruction_free : (k : Kind) (x : Entry) (here : Here) → is_instruction k ≡ true → refusal_of (choice_with k x) here ≡ None → here.awaits ≡ None
instruction_free kind.Exec x here is free = exec_free here (runs here) free
instruction_free k x here is free = absurd (false≢true is)

-- WHAT A SEQUENCE TAKES IN BEGINS NO BARRIER

begins_deed : (here : Here) (tid : ℕ) (o : Option Outcome) {k : Kind} {d : Done} → EventDeed here tid k d → option_map_or (is_inside_here here) (runs here) false ≡ true
    → d.barrier ≡ None
begins_deed here tid o (Calls t e next calls outside) inside =
    absurd (false≢true (sym outside ∙ sym (ap (λ r. option_map_or (is_inside_here here) r false) next.at) ∙ inside))
begins_deed here tid o deed inside = refl

begins_none : (k : Kind) (x : Entry) (o : Option Outcome) (here : Here) → is_taken_in k o ≡ true
    → option_map_or (is_inside_here here) (runs here) false ≡ true → (done_of (choice_with k x) here).barrier ≡ None
begins_none k x o here taken inside = begins_deed here x.tid.0 o (deed_of here k x) inside

-- ONE EVENT

-- its own hart: it waits as it did, where no barrier begins
own_awaits : (d : Done) (b : Bool) (waits : Option ℕ) → d.barrier ≡ None → waits ≡ None
    → cond b None (option_or (option_map (λ (x : Barrier). x.targets) d.barrier) waits) ≡ None
own_awaits d true waits none out = refl
own_awaits d false waits none out =
    ap (λ (o : Option Barrier). option_or (option_map (λ (x : Barrier). x.targets) o) waits) none ∙ out

-- another one
other_awaits : (b : Bool) (k : ℕ) (waits : Option ℕ) → waits ≡ None → cond b (option_map (without_hart k) waits) waits ≡ None
other_awaits true k waits out = ap (option_map (without_hart k)) out
other_awaits false k waits out = out

module _ (s : Setting) (e : Event) (before : History) (h : ℕ) (run : IsRunHistory s (e ∷ before))
    (rest : (r : Sequence) → sequence_on s h before ≡ Some r → awaits h before ≡ None) where
  was_out : {q : Sequence} → e.entry.hart.0 ≡ h → IsOf s e before h q → awaits h before ≡ None
  was_out own (Begins none first) =
      ap (λ k. awaits k before) (sym own) ∙ instruction_free e.entry.kind e.entry (place s e before run) first (is_free s e before run e.entry.kind refl)
  was_out own (TakesIn r was taken) = rest r was

  no_barrier : is_taken_in e.entry.kind e.done.interrupted ≡ true → is_inside_at s h before ≡ true → e.entry.hart.0 ≡ h → e.done.barrier ≡ None
  no_barrier taken inside own =
      ap (λ (d : Done). d.barrier) (did s e before run e.entry.kind refl)
      ∙ begins_none e.entry.kind e.entry e.done.interrupted (place s e before run) taken (ap (λ k. is_inside_at s k before) own ∙ inside)

  abbrev awaits_by : Bool → Option ℕ
  awaits_by own = cond own (awaits_of_own e.done (awaits h before)) (cond e.done.took (option_map (without_hart e.entry.hart.0) (awaits h before)) (awaits h before))

  is_out : (q : Sequence) → SequenceStep s e before h q → awaits_by (is_of_hart h e) ≡ None
  is_out q (Own own inside its) =
      ap awaits_by (eq-eqb e.entry.hart.0 h own)
      ∙ own_awaits e.done e.done.returned (awaits h before) (no_barrier (is_taken s e before h its) inside own) (was_out own its)
  is_out q (Elsewhere other is) = ap awaits_by other ∙ other_awaits e.done.took e.entry.hart.0 (awaits h before) (rest q is)

-- LOGS

pub in_no_barrier : (s : Setting) (before : History) (h : ℕ) (q : Sequence) → IsRunHistory s before → sequence_on s h before ≡ Some q
    → awaits h before ≡ None
in_no_barrier s before h =
    by_sequence s h (λ b r. awaits h b ≡ None) (λ e b r run rest is step. is_out s e b h run rest r step) before
