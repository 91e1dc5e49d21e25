-- What is read in the rows is read in the threads, and in what is saved of them.
use Rattle.std.proofs.Common.{ℕ, ◌≡◌, List, find, Option, Some, None, refl, ap, ◌∙◌}
use Rattle.std.specs.Option.{option_map, option_map_or, option_and_then}
use Rattle.kernel_threads.specs.Rows.{state_at, kept_at, thread_in, saved_in, threads_in, all_saved_in, is_row}
use Rattle.kernel_threads.specs.Table.{saved_of, is_of}
use Rattle.kernel_threads.specs.declared.rows.Row.{Row}
use Rattle.mach_types.proofs.Laws.{map_finds}
use Rattle.mach_types.specs.Kernel.Threads as process
use Rattle.mach_types.specs.declared.threads.Saved.{Saved}
use Rattle.mach_types.specs.declared.threads.ThreadState.{ThreadState}

state_of_found : (o : Option Row) → option_map (λ th. th.state) (option_map thread_in o) ≡ option_map (λ row. state_at row.stage) o
state_of_found None = refl
state_of_found (Some row) = refl

pub state_of_rows : (n : ℕ) (rows : List Row)
    → option_map {U = ThreadState} (λ th. th.state) (find (process.is_thread n) (threads_in rows)) ≡ option_map (λ row. state_at row.stage) (find (is_row n) rows)
state_of_rows n rows =
    ap (option_map {U = ThreadState} (λ th. th.state)) (map_finds thread_in (process.is_thread n) rows) ∙ state_of_found (find (is_row n) rows)

saved_of_found : (o : Option Row) → option_and_then {U = Saved} (λ pair. pair.1) (option_map saved_in o) ≡ option_and_then (λ row. kept_at row.stage) o
saved_of_found None = refl
saved_of_found (Some row) = refl

pub saved_of_rows : (n : ℕ) (rows : List Row) → saved_of n (all_saved_in rows) ≡ option_and_then (λ row. kept_at row.stage) (find (is_row n) rows)
saved_of_rows n rows =
    ap (option_and_then {U = Saved} (λ pair. pair.1)) (map_finds saved_in (is_of n) rows) ∙ saved_of_found (find (is_row n) rows)

clear_of_found : (o : Option Row) → option_map_or {U = ℕ} (λ th. th.clear_at) (option_map thread_in o) 0 ≡ option_map_or (λ row. row.clear_at) o 0
clear_of_found None = refl
clear_of_found (Some row) = refl

pub clear_of_rows : (n : ℕ) (rows : List Row)
    → option_map_or {U = ℕ} (λ th. th.clear_at) (find (process.is_thread n) (threads_in rows)) 0 ≡ option_map_or (λ row. row.clear_at) (find (is_row n) rows) 0
clear_of_rows n rows =
    ap (λ o. option_map_or {U = ℕ} (λ th. th.clear_at) o 0) (map_finds thread_in (process.is_thread n) rows) ∙ clear_of_found (find (is_row n) rows)
