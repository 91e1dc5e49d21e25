-- Threads that rest are those of which the table keeps a file.
use Rattle.std.proofs.Common.{◌≡◌, ℕ, Bool, true, false, not, eqb, List, find, Option, Some, None, is_some, refl, sym, ap, ◌∙◌}
use Rattle.std.specs.Option.{option_map, option_map_or, option_and_then}
use Rattle.kernel_threads.specs.Table.{Table, IsTable, is_of, saved_of, has_saved, wants_saved}
use Rattle.mach_types.proofs.Laws.{map_finds}
use Rattle.mach_types.specs.Kernel.Threads.{Thread, is_thread, thread_of, is_running_state}
use Rattle.mach_types.specs.declared.threads.Saved.{Saved}
use Rattle.same_places.specs.Places.{rests}

abbrev Pair : Type 0
Pair = ℕ × Option Saved

abbrev marked : ℕ → ℕ × Bool → Bool
marked t mark = eqb mark.0 t

same_found : (t : ℕ) (table : Table) → IsTable table → option_map has_saved (find (is_of t) table.saved) ≡ option_map wants_saved (find (is_thread t) table.threads.live)
same_found t table holds =
    sym (map_finds has_saved (marked t) table.saved) ∙ ap (λ (marks : List (ℕ × Bool)). find (marked t) marks) holds.saved
    ∙ map_finds wants_saved (marked t) table.threads.live

-- a file is kept exactly of those
kept_by : (o : Option Pair) (p : Option Thread) → option_map has_saved o ≡ option_map wants_saved p
    → is_some (option_and_then (λ (pair : Pair). pair.1) o) ≡ option_map_or (λ st. not (is_running_state st)) (option_map (λ (th : Thread). th.state) p) false
kept_by None None e = refl
kept_by None (Some th) e = let no : ⊥ = cc in absurd no
kept_by (Some pair) None e = let no : ⊥ = cc in absurd no
kept_by (Some pair) (Some th) e = let marks : has_saved pair ≡ wants_saved th = cc in ap (λ (mark : ℕ × Bool). mark.1) marks

pub kept : (t : ℕ) (table : Table) → IsTable table → is_some (saved_of t table.saved) ≡ rests t table.threads
kept t table holds = kept_by (find (is_of t) table.saved) (thread_of t table.threads) (same_found t table holds)

pub rests_kept : (t : ℕ) (x : Saved) (table : Table) → IsTable table → saved_of t table.saved ≡ Some x → rests t table.threads ≡ true
rests_kept t x table holds at = sym (kept t table holds) ∙ ap (λ (o : Option Saved). is_some o) at

-- a file that is kept
pub record HasKept (t : ℕ) (table : Table) : Type 0 where
  pub file : Saved
  pub at : saved_of t table.saved ≡ Some file

found : (t : ℕ) (table : Table) (o : Option Saved) → saved_of t table.saved ≡ o → is_some o ≡ true → HasKept t table
found t table None at some = cc
found t table (Some x) at some = record { file = x; at = at }

pub has_kept : (t : ℕ) (table : Table) → IsTable table → rests t table.threads ≡ true → HasKept t table
has_kept t table holds at = found t table (saved_of t table.saved) refl (kept t table holds ∙ at)
