-- What the tables say of a thread that calls, and of the others.
use Rattle.sys_calls.proofs.Common.{◌≡◌, ℕ, true, false, eqb, Option, Some, None, is_some, refl, ap, ◌∙◌, list_any, option_map, option_map_or, is_of, Thread, Threads, is_live, is_ready_state, running_on, runs, state_of, with_clear, Table, IsTable, saved_of, AreTables, IsCaller, Kernel, on, running_is, ready_listed, clear_if}
use Rattle.mach_types.proofs.Laws.{keeps_clear, running_on-with_rows}
use Rattle.mach_types.specs.declared.threads.ThreadState.{ThreadState}
use Rattle.kernel_threads.proofs.Laws.{running_saves_nothing}

-- a thread in a state is live
live_step : (o : Option Thread) (st : ThreadState) → option_map (λ th. th.state) o ≡ Some st → is_some o ≡ true
live_step None st e = cc
live_step (Some th) st e = refl

pub live_in : (t : ℕ) (ts : Threads) (st : ThreadState) → state_of t ts ≡ Some st → is_live t ts ≡ true
live_in t ts st e = live_step _ st e

pub runs_there : (k : Kernel) (here t : ℕ) → IsCaller k here t → state_of t k.threads.threads ≡ Some (on here)
runs_there k here t caller = running_is caller.tables.0 here t k.threads.threads k.ready caller.tables.1 caller.runs

pub caller_runs : (k : Kernel) (here t : ℕ) → IsCaller k here t → runs k.threads.threads t
caller_runs k here t caller = (record { 0 = here }, runs_there k here t caller)

pub caller_lives : (k : Kernel) (here t : ℕ) → IsCaller k here t → is_live t k.threads.threads ≡ true
caller_lives k here t caller = live_in t k.threads.threads (on here) (runs_there k here t caller)

-- a live thread is held
pub held_live : (t : ℕ) (k : Kernel) → AreTables k → is_live t k.threads.threads ≡ true → list_any (is_of t) k.ready.affinities ≡ true
held_live t k tables live = tables.1.held t ∙ live

pub caller_held : (k : Kernel) (here t : ℕ) → IsCaller k here t → list_any (is_of t) k.ready.affinities ≡ true
caller_held k here t caller = held_live t k caller.tables (caller_lives k here t caller)

-- one that isn't ready isn't in the ready list
pub unlisted : (t : ℕ) (k : Kernel) (st : ThreadState) → AreTables k → state_of t k.threads.threads ≡ Some st → is_ready_state st ≡ false
    → list_any (λ u. eqb u t) k.ready.order ≡ false
unlisted t k st tables at isnt =
    ready_listed tables.0 t k.threads.threads k.ready tables.1 ∙ ap (λ (o : Option ThreadState). option_map_or is_ready_state o false) at ∙ isnt

pub caller_unlisted : (k : Kernel) (here t : ℕ) → IsCaller k here t → list_any (λ u. eqb u t) k.ready.order ≡ false
caller_unlisted k here t caller = unlisted t k (on here) caller.tables (runs_there k here t caller) refl

-- nothing is saved of a thread that runs
pub runs_quiet : (t : ℕ) (table : Table) → IsTable table → runs table.threads t → saved_of t table.saved ≡ None
runs_quiet t table holds run = running_saves_nothing t run.0 table holds run.1

-- an address to clear changes nothing of who runs where
pub cleared_runs : (j t at : ℕ) (ts : Threads) → running_on j (with_clear t at ts) ≡ running_on j ts
cleared_runs j t at ts = running_on-with_rows (clear_if t at) (keeps_clear t at) j ts
