-- What holds of the table says of which threads something is saved.
use Rattle.std.proofs.Common.{ℕ, ◌≡◌, Bool, true, false, not, eqb, List, find, Option, Some, None, is_some, refl, sym, ap, ◌∙◌}
use Rattle.std.specs.Option.{option_map, option_and_then, IsSome}
use Rattle.std.proofs.lemmas.Bool.{false≢true}
use Rattle.kernel_threads.specs.Table.{Table, IsTable, is_of, saved_of, has_saved, wants_saved}
use Rattle.mach_types.proofs.Laws.{map_finds}
use Rattle.mach_types.specs.Kernel.Threads.{Thread, is_thread, thread_of, is_live, state_of, is_running_state}
use Rattle.mach_types.specs.declared.events.Hart.{Hart}
use Rattle.mach_types.specs.declared.threads.Saved.{Saved}
use Rattle.mach_types.specs.declared.threads.ThreadState.{ThreadState}
use Rattle.mach_types.specs.declared.threads.ThreadState.TheVariants.{Running}

abbrev Pair : Type 0
Pair = ℕ × Option Saved

abbrev marked : ℕ → ℕ × Bool → Bool
marked t mark = eqb mark.0 t

-- what is found of a thread in what is saved, and in the live ones
same_found : (t : ℕ) (table : Table) → IsTable table → option_map has_saved (find (is_of t) table.saved) ≡ option_map wants_saved (find (is_thread t) table.threads.live)
same_found t table holds =
    sym (map_finds has_saved (marked t) table.saved) ∙ ap (λ (marks : List (ℕ × Bool)). find (marked t) marks) holds.saved
    ∙ map_finds wants_saved (marked t) table.threads.live

-- where a thread is live, there is an entry of it, which has something where the thread doesn't run
entry_there : (o : Option Pair) (p : Option Thread) → option_map has_saved o ≡ option_map wants_saved p → is_some p ≡ true → is_some o ≡ true
entry_there None None e live = live
entry_there None (Some th) e live = let no : ⊥ = cc in absurd no
entry_there (Some pair) p e live = refl

pub entry_of_live : (t : ℕ) (table : Table) → IsTable table → is_live t table.threads ≡ true → is_some (find (is_of t) table.saved) ≡ true
entry_of_live t table holds live = entry_there (find (is_of t) table.saved) (thread_of t table.threads) (same_found t table holds) live

no_entry_there : (o : Option Pair) (p : Option Thread) → option_map has_saved o ≡ option_map wants_saved p → p ≡ None → is_some o ≡ false
no_entry_there None p e gone = refl
no_entry_there (Some pair) None e gone = let no : ⊥ = cc in absurd no
no_entry_there (Some pair) (Some th) e gone = let no : ⊥ = cc in absurd no

pub entry_of_dead : (t : ℕ) (table : Table) → IsTable table → thread_of t table.threads ≡ None → is_some (find (is_of t) table.saved) ≡ false
entry_of_dead t table holds gone = no_entry_there (find (is_of t) table.saved) (thread_of t table.threads) (same_found t table holds) gone

kept_as_wanted : (o : Option Pair) (p : Option Thread) (st : ThreadState) → option_map has_saved o ≡ option_map wants_saved p → option_map (λ th. th.state) p ≡ Some st
    → is_some (option_and_then (λ pair. pair.1) o) ≡ not (is_running_state st)
kept_as_wanted o None st e was = let no : ⊥ = cc in absurd no
kept_as_wanted None (Some th) st e was = let no : ⊥ = cc in absurd no
kept_as_wanted (Some pair) (Some th) st e was =
    let marks : has_saved pair ≡ wants_saved th = cc in
    let state : th.state ≡ st = cc in
    ap (λ (mark : ℕ × Bool). mark.1) marks ∙ ap (λ s. not (is_running_state s)) state

saved_as_wanted : (t : ℕ) (st : ThreadState) (table : Table) → IsTable table → state_of t table.threads ≡ Some st → is_some (saved_of t table.saved) ≡ not (is_running_state st)
saved_as_wanted t st table holds was = kept_as_wanted (find (is_of t) table.saved) (thread_of t table.threads) st (same_found t table holds) was

there : (o : Option Saved) → is_some o ≡ true → IsSome o
there None e = absurd (false≢true e)
there (Some kept) e = refl

missing : (o : Option Saved) → is_some o ≡ false → o ≡ None
missing None e = refl
missing (Some kept) e = absurd (false≢true (sym e))

pub saved_of-not_running : (t : ℕ) (st : ThreadState) (table : Table) → IsTable table → state_of t table.threads ≡ Some st → is_running_state st ≡ false → IsSome (saved_of t table.saved)
saved_of-not_running t st table holds was stands = there (saved_of t table.saved) (saved_as_wanted t st table holds was ∙ ap not stands)

pub saved_of-running : (t : ℕ) (h : Hart) (table : Table) → IsTable table → state_of t table.threads ≡ Some (Running h) → saved_of t table.saved ≡ None
saved_of-running t h table holds was = missing (saved_of t table.saved) (saved_as_wanted t (Running h) table holds was)

no_entry : (o : Option Pair) (p : Option Thread) → option_map has_saved o ≡ option_map wants_saved p → is_some p ≡ false → option_and_then (λ pair. pair.1) o ≡ None
no_entry None p e gone = refl
no_entry (Some pair) None e gone = let no : ⊥ = cc in absurd no
no_entry (Some pair) (Some th) e gone = absurd (false≢true (sym gone))

pub saved_of-not_live : (t : ℕ) (table : Table) → IsTable table → is_live t table.threads ≡ false → saved_of t table.saved ≡ None
saved_of-not_live t table holds gone = no_entry (find (is_of t) table.saved) (thread_of t table.threads) (same_found t table holds) gone
