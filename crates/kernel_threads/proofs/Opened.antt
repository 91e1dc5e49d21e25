-- The table that the fields stand for, where they were borrowed; and what a thread's state says of what is saved of it.
use Rattle.std.proofs.Common.{ℕ, ◌<◌, ◌≤◌, ◌≡◌, ◌&&◌, Bool, true, false, cond, eqb, List, [], ◌∷◌, length, map, find, Option, Some, None, refl, sym, ap, ◌∙◌, subst, arith}
use Rattle.std.specs.List.Sorted.{IsStrictlyIncreasing}
use Rattle.std.specs.Option.{option_map, option_and_then}
use Rattle.std.proofs.lemmas.Bool.{and_parts, false≢true}
use Rattle.std.proofs.lemmas.Bool.Decides.{nat_tests}
use Rattle.std.proofs.lemmas.List.{length-map}
use Rattle.kernel_threads.specs.Rows.{are_rising, state_at, kept_at, thread_in, threads_in, all_saved_in, is_row, table_in}
use Rattle.kernel_threads.specs.Table.{Table, IsTable, saved_of}
use Rattle.kernel_threads.specs.declared.rows.Row.{Row}
use Rattle.kernel_threads.specs.declared.rows.Stage.{Stage}
use Rattle.kernel_threads.specs.declared.rows.Stage.TheVariants as stage
use Rattle.kernel_threads.specs.declared.table.Slots.{Slots}
use Rattle.kernel_threads.specs.declared.waiters.Waiter.{Waiter}
use Rattle.kernel_threads.specs.Waits.{IsKept, numbers_of, stand_once}
use Rattle.kernel_threads.proofs.RowsRead.{state_of_rows, saved_of_rows}
use Rattle.kernel_threads.proofs.Stuck.{waiters_distinct}
use Rattle.kernel_threads.proofs.Viewed.{of_live}
use Rattle.mach_types.proofs.Laws.{room_for_waiter}
use Rattle.mach_types.specs.Kernel.Threads.{Threads, numbers, is_running_state, state_of, is_full, longest_waiter, is_waiting_at, waits}
use Rattle.mach_types.specs.declared.events.Hart.{Hart}
use Rattle.mach_types.specs.declared.threads.Saved.{Saved}
use Rattle.mach_types.specs.declared.threads.ThreadState.{ThreadState}
use Rattle.mach_types.specs.declared.threads.ThreadState.TheVariants.{Ready, Running, Waiting}

abbrev pub slots_table : Slots → ℕ → Table
slots_table s given = table_in s.rows.items given (numbers_of s.waiters.items)

pub same_table : (s lent : Slots) (given : ℕ) (t : Table) → lent ≡ s → slots_table s given ≡ t → slots_table lent given ≡ t
same_table s lent given t e v = ap (λ (q : Slots). slots_table q given) e ∙ v

-- the numbers of the rows rise
same_numbers : (rows : List Row) → numbers (threads_in rows) ≡ map (λ row. row.number) rows
same_numbers [] = refl
same_numbers (row ∷ rows) = ap (λ ns. row.number ∷ ns) (same_numbers rows)

pub rising : (s lent : Slots) (given : ℕ) → lent ≡ s → IsTable (slots_table s given) → are_rising lent.rows.items
rising s lent given e h =
    let rises : are_rising s.rows.items = subst IsStrictlyIncreasing (same_numbers s.rows.items) h.threads.rising in
    subst (λ (q : Slots). are_rising q.rows.items) (sym e) rises

-- something is saved of a live thread that doesn't run
kept_there : (st : Stage) (s : ThreadState) → Some (state_at st) ≡ Some s → is_running_state s ≡ false → kept_at st ≡ None → ⊥
kept_there (stage.Ready kept) s e r k = cc
kept_there (stage.Running h) s e r k =
    let same : s ≡ Running h = cc in
    false≢true (sym r ∙ ap is_running_state same)
kept_there (stage.Waiting at kept) s e r k = cc

row_there : (o : Option Row) (s : ThreadState) → option_map (λ row. state_at row.stage) o ≡ Some s → is_running_state s ≡ false → option_and_then (λ row. kept_at row.stage) o ≡ None → ⊥
row_there None s e r k = cc
row_there (Some row) s e r k = kept_there row.stage s e r k

pub saved_there : (n : ℕ) (s lent : Slots) (given : ℕ) (t : Table) (st : ThreadState) → lent ≡ s → slots_table s given ≡ t → state_of n t.threads ≡ Some st → is_running_state st ≡ false
    → (o : Option Saved) → o ≡ saved_of n (all_saved_in lent.rows.items) → o ≡ None → ⊥
saved_there n s lent given t st e v was r o read none =
    row_there (find (is_row n) lent.rows.items) st
    (sym (state_of_rows n lent.rows.items) ∙ ap (λ (u : Table). state_of n u.threads) (same_table s lent given t e v) ∙ was)
    r
    (sym (saved_of_rows n lent.rows.items) ∙ sym read ∙ none)

-- whether no more rows fit is whether no more threads may live
pub not_full : (rows : List Row) (given : ℕ) (waiters : List ℕ) → eqb (length rows) 64 ≡ false → length rows ≤ 64 → is_full (of_live (threads_in rows) given waiters) ≡ false
not_full rows given waiters other within = let long = length-map rows thread_in in grind (arith, nat_tests)

-- where a thread runs, one more waiter fits
pub room : (n : ℕ) (s : Slots) (given : ℕ) (t : Table) (hart : Hart) → slots_table s given ≡ t → IsTable (slots_table s given) → state_of n t.threads ≡ Some (Running hart) → length s.waiters.items < 64
room n s given t hart v h was =
    omega (
      arith,
      room_for_waiter n (slots_table s given).threads hart h.threads (ap (λ (u : Table). state_of n u.threads) v ∙ was),
      length-map s.waiters.items (λ (w : Waiter). w.number),
    )

-- the thread that waits longest at an address, of those that listen, waits
found_step : {X : Type 0} (p : X → Bool) (y : X) (ys : List X) (x : X) (b : Bool) → p y ≡ b → (find p ys ≡ Some x → p x ≡ true) → cond b (Some y) (find p ys) ≡ Some x → p x ≡ true
found_step p y ys x true h rest e = let same : x ≡ y = cc in ap p same ∙ h
found_step p y ys x false h rest e = rest e

found_passes : {X : Type 0} (p : X → Bool) (xs : List X) (x : X) → find p xs ≡ Some x → p x ≡ true
found_passes p [] x e = cc
found_passes p (y ∷ ys) x e = found_step p y ys x (p y) refl (found_passes p ys x) e

waits_there : (o : Option ThreadState) (at : ℕ) → is_waiting_at at o ≡ true → (b : ℕ) × (o ≡ Some (Waiting b))
waits_there None at e = absurd (false≢true e)
waits_there (Some Ready) at e = absurd (false≢true e)
waits_there (Some (Running h)) at e = absurd (false≢true e)
waits_there (Some (Waiting b)) at e = (b, refl)

pub longest_waits : (at : ℕ) (listens : ℕ → Bool) (n : ℕ) (ts : Threads) → Some n ≡ longest_waiter at listens ts → waits ts n
longest_waits at listens n ts e =
    let both = found_passes (λ t. is_waiting_at at (state_of t ts) && listens t) ts.waiters n (sym e) in
    waits_there (state_of n ts) at (and_parts (is_waiting_at at (state_of n ts)) (listens n) both).0

-- no waiter stands twice
pub waiters_once : (s : Slots) (given : ℕ) (waiters : List Waiter) → waiters ≡ s.waiters.items → IsTable (slots_table s given) → stand_once waiters
waiters_once s given waiters e h = subst stand_once (sym e) (waiters_distinct (slots_table s given).threads h.threads)

-- what holds of the fields, where they were borrowed
pub same_kept : (s lent : Slots) (given : ℕ) → lent ≡ s → IsKept s.rows.items given s.waiters.items → IsKept lent.rows.items given lent.waiters.items
same_kept s lent given e kept = subst (λ (q : Slots). IsKept q.rows.items given q.waiters.items) (sym e) kept

-- the state of a thread, read where they were borrowed
pub same_state : (n : ℕ) (s lent : Slots) (given : ℕ) (t : Table) (st : ThreadState) → lent ≡ s → slots_table s given ≡ t → state_of n t.threads ≡ Some st
    → state_of n (slots_table lent given).threads ≡ Some st
same_state n s lent given t st e v was = ap (λ (u : Table). state_of n u.threads) (same_table s lent given t e v) ∙ was
