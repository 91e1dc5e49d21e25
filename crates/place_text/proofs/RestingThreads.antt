-- Where each live thread goes on that runs nowhere: what is saved of it is its file.
use Rattle.std.proofs.Common.{◌≡◌, ℕ, ◌<◌, Bool, true, false, not, eqb, List, [], ◌∷◌, map, find, Option, Some, None, is_some, refl, sym, ap, ◌∙◌, arith}
use Rattle.std.specs.List.{AllByRecursion}
use Rattle.std.specs.Option.{option_and_then, option_map}
use Rattle.std.proofs.lemmas.Bool.Decides.{nat_tests}
use Rattle.kernel_threads.specs.Table.{IsTable, Table, has_saved, is_of, saved_of, wants_saved}
use Rattle.mach_types.proofs.Laws.{map_finds}
use Rattle.mach_types.specs.Kernel.Threads.{Thread, is_running_state, is_thread, state_of, thread_of}
use Rattle.mach_types.specs.declared.threads.Saved.{Saved}
use Rattle.mach_types.specs.declared.threads.ThreadState.{ThreadState}
use Rattle.mach_types.specs.declared.threads.ThreadState.TheVariants.{Ready, Running, Waiting}
use Rattle.sys_calls.specs.Made.{AreSaved}
use Rattle.place_text.specs.Live.{saved_pc, told_of}
use Rattle.place_text.specs.Threads.{resting_pc, told_at}
use Rattle.place_text.proofs.LiveThreads.{Rises, rises}

-- something is saved of a live thread exactly where it doesn't run
as_wanted : (o : Option (ℕ × Option Saved)) (p : Option Thread) (st : ThreadState) → option_map has_saved o ≡ option_map wants_saved p
    → option_map (λ th. th.state) p ≡ Some st → is_some (option_and_then (λ pair. pair.1) o) ≡ not (is_running_state st)
as_wanted o None st e was = let none : ⊥ = cc in absurd none
as_wanted None (Some th) st e was = let none : ⊥ = cc in absurd none
as_wanted (Some pair) (Some th) st e was =
    let marks : has_saved pair ≡ wants_saved th = cc in
    let state : th.state ≡ st = cc in
    ap (λ (mark : ℕ × Bool). mark.1) marks ∙ ap (λ s. not (is_running_state s)) state

saved_as_wanted : (t : ℕ) (st : ThreadState) (table : Table) → IsTable table → state_of t table.threads ≡ Some st
    → is_some (saved_of t table.saved) ≡ not (is_running_state st)
saved_as_wanted t st table holds was =
    let marked : ℕ × Bool → Bool = λ mark. eqb mark.0 t in
    as_wanted (find (is_of t) table.saved) (thread_of t table.threads) st
    (sym (map_finds has_saved marked table.saved) ∙ ap (λ (marks : List (ℕ × Bool)). find marked marks) holds.saved
    ∙ map_finds wants_saved marked table.threads.live) was

-- so where it goes on is what its file says
kept_pc : (o : Option Saved) (f : Saved) → is_some o ≡ true → ((x : Saved) → o ≡ Some x → x ≡ f)
    → option_map (λ kept. kept.pc) o ≡ Some f.pc
kept_pc None f some is = absurd (cc some)
kept_pc (Some x) f some is = ap (λ (y : Saved). Some y.pc) (is x refl)

no_pc : (o : Option Saved) → is_some o ≡ false → option_map (λ kept. kept.pc) o ≡ None
no_pc None none = refl
no_pc (Some x) none = absurd (cc none)

pc_in_state : (t : ℕ) (st : ThreadState) (file : ℕ → Saved) (table : Table) → IsTable table → AreSaved file table
    → state_of t table.threads ≡ Some st → saved_pc table.saved t ≡ resting_pc st (file t).pc
pc_in_state t Ready file table holds saved was =
    kept_pc (saved_of t table.saved) (file t) (saved_as_wanted t Ready table holds was) (saved t)
pc_in_state t (Running hart) file table holds saved was =
    no_pc (saved_of t table.saved) (saved_as_wanted t (Running hart) table holds was)
pc_in_state t (Waiting at) file table holds saved was =
    kept_pc (saved_of t table.saved) (file t) (saved_as_wanted t (Waiting at) table holds was) (saved t)

-- each thread of a list whose numbers rise is the one of its number
found_behind : (x : Thread) (whole ys : List Thread) → AllByRecursion (λ th. x.tid < th.tid) ys
    → AllByRecursion (λ th. find (is_thread th.tid) whole ≡ Some th) ys
    → AllByRecursion (λ th. find (is_thread th.tid) (x ∷ whole) ≡ Some th) ys
found_behind x whole [] up was = tt
found_behind x whole (y ∷ ys) up was =
    let other : is_thread y.tid x ≡ false = (let less : x.tid < y.tid = up.0 in grind (arith, nat_tests)) in
    (rw other was.0, found_behind x whole ys up.1 was.1)

each_found : (xs : List Thread) → Rises xs → AllByRecursion (λ th. find (is_thread th.tid) xs ≡ Some th) xs
each_found [] up = tt
each_found (x ∷ xs) up =
    let same : is_thread x.tid x ≡ true = grind (arith, nat_tests) in
    (rw same refl, found_behind x xs xs up.0 (each_found xs up.1))

-- what is told of each
told_alike : (file : ℕ → Saved) (table : Table) → IsTable table → AreSaved file table → (ys : List Thread)
    → AllByRecursion (λ th. find (is_thread th.tid) table.threads.live ≡ Some th) ys
    → map (told_of table.saved) ys ≡ map (told_at file) ys
told_alike file table holds saved [] found = refl
told_alike file table holds saved (y ∷ ys) found =
    let state : state_of y.tid table.threads ≡ Some y.state = ap (option_map (λ (th : Thread). th.state)) found.0 in
    let pc = pc_in_state y.tid y.state file table holds saved state in
    λ i. record { tid = y.tid; state = y.state; pc = pc i } ∷ told_alike file table holds saved ys found.1 i

pub all_alike : (file : ℕ → Saved) (table : Table) → IsTable table → AreSaved file table
    → map (told_of table.saved) table.threads.live ≡ map (told_at file) table.threads.live
all_alike file table holds saved =
    told_alike file table holds saved table.threads.live (each_found table.threads.live (rises table.threads.live holds.threads.rising))
