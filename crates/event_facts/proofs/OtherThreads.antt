-- What an event made of the registers of other threads: by those that were kept before it; and nothing, where the threads are the same.
use Rattle.std.proofs.Common.{◌≡◌, ℕ, ◌+◌, ◌-◌, false, List, [], ◌++◌, Option, Some, None, is_some, refl, ap, ◌∙◌, arith}
use Rattle.std.specs.List.{flat_map, range_with_len}
use Rattle.std.specs.Option.{IsSome, option_map}
use Rattle.mach_types.specs.Kernel.Threads.{Thread, Threads, is_running_state}
use Rattle.mach_types.specs.declared.events.Hart.{Hart}
use Rattle.mach_types.specs.declared.registers.Regs.{Regs}
use Rattle.mach_types.specs.declared.threads.Saved.{Saved}
use Rattle.mach_types.specs.declared.threads.ThreadState.{ThreadState}
use Rattle.mach_types.specs.declared.threads.ThreadState.TheVariants.{Ready, Running, Waiting}
use Rattle.fact_types.specs.declared.facts.Fact.{Fact}
use Rattle.event_facts.specs.OtherRegisters.{all_waiting, child_fact, other_registers, ready_behind, registers_of, waiting_behind, where_off, where_ready, where_waiting, woken_fact, woken_from, woken_registers}
use Rattle.event_facts.specs.Threads.{state_behind}
use Rattle.event_facts.proofs.CallAnswers.{nothing_saved}
use Rattle.event_facts.proofs.KeptPieces.{kept_pieces}
use Rattle.event_facts.proofs.Lists.{nothing_in_all, two_pieces}

-- THE REGISTERS THAT ARE SAVED

pub none_live : (o : Option Thread) → option_map (λ th. th.state) o ≡ None → is_some o ≡ false
none_live None none = refl
none_live (Some th) none = let no : ⊥ = cc in absurd no

saved_there : (o : Option Saved) (x : Saved) → IsSome o → ((y : Saved) → o ≡ Some y → y ≡ x) → registers_of o ≡ Some x.file
saved_there None x has is = absurd (nothing_saved None refl has)
saved_there (Some y) x has is = ap (λ (z : Saved). Some z.file) (is y refl)

-- those of a thread in this state, where something is saved of a live one that doesn't run, and of no other
pub saved_off : (o : Option ThreadState) (kept : Option Saved) (x : Saved)
    → ((st : ThreadState) → o ≡ Some st → is_running_state st ≡ false → IsSome kept)
    → ((h : Hart) → o ≡ Some (Running h) → kept ≡ None)
    → (o ≡ None → kept ≡ None)
    → ((y : Saved) → kept ≡ Some y → y ≡ x)
    → registers_of kept ≡ where_off o x
saved_off None kept x off runs gone is = ap registers_of (gone refl)
saved_off (Some Ready) kept x off runs gone is = saved_there kept x (off Ready refl refl) is
saved_off (Some (Running h)) kept x off runs gone is = ap registers_of (runs h refl)
saved_off (Some (Waiting at)) kept x off runs gone is = saved_there kept x (off (Waiting at) refl refl) is

-- THE REGISTERS THAT WERE KEPT

kept_woken : (had : ℕ → Saved) (before : Threads) (has : ℕ → Saved) (after : Threads)
    → flat_map (woken_from (all_waiting had before) has after) (range_with_len 0 before.given) ≡ flat_map (woken_fact had before has after) (range_with_len 0 before.given)
kept_woken had before has after =
    kept_pieces (waiting_behind had before) (λ k (o : Option Regs). woken_registers (k + 1) o (ready_behind has after k)) before.given

pub all_others : (had : ℕ → Saved) (before : Threads) (own : Regs) (has : ℕ → Saved) (after : Threads) (kept : List (Option Regs)) (given : ℕ) (parent : Regs) (f0 f1 f2 : List Fact)
    → kept ≡ all_waiting had before → given ≡ before.given → parent ≡ own
    → f1 ≡ f0 ++ flat_map (woken_from kept has after) (range_with_len 0 given)
    → f2 ≡ f1 ++ flat_map (child_fact given parent has after) (range_with_len 0 (after.given - given))
    → f2 ≡ f0 ++ other_registers had before own has after
unfolding other_registers
all_others had before own has after kept given parent f0 f1 f2 waited count same p q =
    two_pieces f0 f1 f2 _ _
    (p
    ∙ (λ i. f0 ++ flat_map (woken_from (waited i) has after) (range_with_len 0 (count i)))
    ∙ ap (λ (l : List Fact). f0 ++ l) (kept_woken had before has after))
    (q ∙ (λ i. f1 ++ flat_map (child_fact (count i) (same i) has after) (range_with_len 0 (after.given - count i))))

-- THREADS THAT ARE THE SAME

none_woken : (o : Option ThreadState) (t : ℕ) (x y : Saved) → woken_registers t (where_waiting o x) (where_ready o y) ≡ []
none_woken None t x y = refl
none_woken (Some Ready) t x y = refl
none_woken (Some (Running h)) t x y = refl
none_woken (Some (Waiting at)) t x y = refl

pub none_of_others : (had has : ℕ → Saved) (ts : Threads) (own : Regs) → other_registers had ts own has ts ≡ []
unfolding other_registers
none_of_others had has ts own =
    let none : ts.given - ts.given ≡ 0 = omega arith in
    let same = nothing_in_all (woken_fact had ts has ts) (range_with_len 0 ts.given) (λ k. none_woken (state_behind ts k) (k + 1) (had (k + 1)) (has (k + 1))) in
    (λ i. same i ++ flat_map (child_fact ts.given own has ts) (range_with_len 0 (none i)))
