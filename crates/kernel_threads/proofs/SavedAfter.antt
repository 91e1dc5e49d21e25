-- What is saved of a thread after each change of the table.
use Rattle.std.proofs.Common.{ℕ, ◌+◌, ◌≡◌, ◌≢◌, true, false, List, find, Option, Some, None, is_some, refl, sym, ap, ◌∙◌}
use Rattle.std.specs.Option.{option_map, option_and_then}
use Rattle.kernel_threads.specs.Table.{Table, IsTable, is_of, saved_of, with_saved, with_start, with_answer, answering, forget}
use Rattle.mach_types.proofs.Laws.{changed_same, changed_other, filtered_same, filtered_other, found_at_end, not_at_end, eqb_same, eqb_other, next_is_new}
use Rattle.kernel_threads.proofs.SavedThere.{entry_of_live, entry_of_dead}
use Rattle.std.proofs.lemmas.Bool.{false≢true}
use Rattle.mach_types.specs.Kernel.Threads.{is_live}
use Rattle.mach_types.specs.declared.threads.Saved.{Saved}

abbrev Pair : Type 0
Pair = ℕ × Option Saved

abbrev keeping : Option Saved → Pair → Pair
keeping kept pair = (pair.0, kept)

abbrev its_saved : Option Pair → Option Saved
its_saved o = option_and_then (λ pair. pair.1) o

kept_instead : (kept : Option Saved) (o : Option Pair) → its_saved (option_map (keeping kept) o) ≡ option_and_then (λ pair. kept) o
kept_instead kept None = refl
kept_instead kept (Some pair) = refl

-- what was saved of a live thread is replaced, and nothing else
pub saved_of-with_saved_same : (t : ℕ) (kept : Option Saved) (saved : List Pair) → saved_of t (with_saved t kept saved) ≡ option_and_then (λ pair. kept) (find (is_of t) saved)
saved_of-with_saved_same t kept saved =
    ap its_saved (changed_same (λ pair. pair.0) (keeping kept) (λ pair. refl) t saved) ∙ kept_instead kept (find (is_of t) saved)

pub saved_of-with_saved_other : (t u : ℕ) → u ≢ t → (kept : Option Saved) (saved : List Pair) → saved_of u (with_saved t kept saved) ≡ saved_of u saved
saved_of-with_saved_other t u other kept saved = ap its_saved (changed_other (λ pair. pair.0) (keeping kept) (λ pair. refl) t u other saved)

-- a thread that ended has nothing saved, and the others have what they had
pub saved_of-forget_same : (t : ℕ) (saved : List Pair) → saved_of t (forget t saved) ≡ None
saved_of-forget_same t saved = ap its_saved (filtered_same (λ (pair : Pair). pair.0) t saved)

pub saved_of-forget_other : (t u : ℕ) → u ≢ t → (saved : List Pair) → saved_of u (forget t saved) ≡ saved_of u saved
saved_of-forget_other t u other saved = ap its_saved (filtered_other (λ (pair : Pair). pair.0) t u other saved)

-- a new thread has what it starts with
pub saved_of-with_start_same : (t : ℕ) (start : Saved) (saved : List Pair) → find (is_of t) saved ≡ None → saved_of t (with_start t start saved) ≡ Some start
saved_of-with_start_same t start saved none = ap its_saved (found_at_end (is_of t) saved (t, Some start) none (eqb_same t))

pub saved_of-with_start_other : (t u : ℕ) → u ≢ t → (start : Saved) (saved : List Pair) → saved_of u (with_start t start saved) ≡ saved_of u saved
saved_of-with_start_other t u other start saved = ap its_saved (not_at_end (is_of u) saved (t, Some start) (eqb_other t u other))

-- what a live thread is saved with; nothing, once it runs; and the answer of its wait
replaced : (kept : Option Saved) (o : Option Pair) → is_some o ≡ true → option_and_then (λ pair. kept) o ≡ kept
replaced kept None there = absurd (false≢true there)
replaced kept (Some pair) there = refl

pub saved_of-saved : (t : ℕ) (kept : Saved) (table : Table) → IsTable table → is_live t table.threads ≡ true → saved_of t (with_saved t (Some kept) table.saved) ≡ Some kept
saved_of-saved t kept table holds live =
    saved_of-with_saved_same t (Some kept) table.saved ∙ replaced (Some kept) (find (is_of t) table.saved) (entry_of_live t table holds live)

emptied : (o : Option Pair) → option_and_then {U = Saved} (λ pair. None) o ≡ None
emptied None = refl
emptied (Some pair) = refl

pub saved_of-emptied : (t : ℕ) (saved : List Pair) → saved_of t (with_saved t None saved) ≡ None
saved_of-emptied t saved = saved_of-with_saved_same t None saved ∙ emptied (find (is_of t) saved)

answered : (value : ℕ) (o : Option Pair) → option_and_then (λ pair. option_map (answering value) (its_saved o)) o ≡ option_map (answering value) (its_saved o)
answered value None = refl
answered value (Some pair) = refl

pub saved_of-answered : (t value : ℕ) (saved : List Pair) → saved_of t (with_answer t value saved) ≡ option_map (answering value) (saved_of t saved)
saved_of-answered t value saved =
    saved_of-with_saved_same t (option_map (answering value) (saved_of t saved)) saved ∙ answered value (find (is_of t) saved)

pub saved_of-child : (start : Saved) (table : Table) → IsTable table → saved_of (table.threads.given + 1) (with_start (table.threads.given + 1) start table.saved) ≡ Some start
saved_of-child start table holds =
    saved_of-with_start_same (table.threads.given + 1) start table.saved
    (no_pair (find (is_of (table.threads.given + 1)) table.saved) (entry_of_dead (table.threads.given + 1) table holds (next_is_new table.threads holds.threads)))
  where
    no_pair : (o : Option Pair) → is_some o ≡ false → o ≡ None
    no_pair None e = refl
    no_pair (Some pair) e = absurd (false≢true (sym e))

pub saved_of-with_answer_other : (t u : ℕ) → u ≢ t → (value : ℕ) (saved : List Pair) → saved_of u (with_answer t value saved) ≡ saved_of u saved
saved_of-with_answer_other t u other value saved = saved_of-with_saved_other t u other (option_map (answering value) (saved_of t saved)) saved
