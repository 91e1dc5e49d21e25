-- The facts of threads (clone(2), exit(2), futex(2)): which thread was created, ended, began to run or to wait, was woken, or became ready.
-- They are read off the threads before an event and after it. Threads have numbers from 1 on, which aren't used again.
use Rattle.std.specs.Prelude.{ℕ, ◌≡◌, ◌+◌, ◌-◌, ◌==◌, List, [], ◌∷◌, ◌++◌, map, if◌then◌else◌, slice_get, unwrap_or, Option, Some, None}
use Rattle.std.specs.List.{flat_map, range_with_len}
use Rattle.std.specs.Option.{option_map, option_to_list}
use Rattle.mach_types.specs.Kernel.Threads.{Threads, state_of}
use Rattle.mach_types.specs.declared.threads.ThreadState.{ThreadState}
use Rattle.mach_types.specs.declared.threads.ThreadState.TheVariants.{Ready, Running, Waiting}
use Rattle.block_model.specs.Sights.{thread}
use Rattle.fact_types.specs.declared.facts.Fact.{Fact}
use Rattle.fact_types.specs.declared.facts.Fact.TheVariants.{ThreadChanged}
use Rattle.fact_types.specs.declared.threads.ThreadChange.{ThreadChange}
use Rattle.fact_types.specs.declared.threads.ThreadChange.TheVariants.{Created, Ended, Runs, MadeReady, Sleeps, Woken}
use Rattle.event_facts.specs.declared.threads.ThreadsBefore.{ThreadsBefore}

-- WHAT BECAME OF A THREAD

-- of one that was in this state, and is ready, runs, or waits at an address
abbrev pub ready_from : ThreadState → Option ThreadChange
ready_from Ready = None
ready_from (Running h) = Some MadeReady
ready_from (Waiting at) = Some Woken

abbrev pub runs_from : ThreadState → Option ThreadChange
runs_from Ready = Some Runs
runs_from (Running h) = None
runs_from (Waiting at) = Some Runs

abbrev pub waits_from : ℕ → ThreadState → Option ThreadChange
waits_from at Ready = Some (Sleeps at)
waits_from at (Running h) = Some (Sleeps at)
waits_from at (Waiting b) = if b == at then None else Some (Sleeps at)

-- of one that was in this state, and is in that one or gone
abbrev pub changed_from : ThreadState → Option ThreadState → Option ThreadChange
changed_from st None = Some Ended
changed_from st (Some Ready) = ready_from st
changed_from st (Some (Running h)) = runs_from st
changed_from st (Some (Waiting at)) = waits_from at st

-- of one that was gone: nothing
abbrev pub change_of : Option ThreadState → Option ThreadState → Option ThreadChange
change_of None after = None
change_of (Some st) after = changed_from st after

-- the fact of thread t, which was in this state and is in that one
abbrev pub change_facts : ℕ → Option ThreadState → Option ThreadState → List Fact
change_facts t before after = option_to_list (option_map (λ change. ThreadChanged (thread t) change) (change_of before after))

-- and of thread t, whose number was given since, where it is in this state or gone
abbrev pub created_facts : ℕ → Option ThreadState → List Fact
created_facts t None = []
created_facts t (Some st) = ThreadChanged (thread t) Created ∷ []

-- OF ALL THREADS, BY THEIR NUMBERS

-- the state of the thread that has a number behind so many
abbrev pub state_behind : Threads → ℕ → Option ThreadState
state_behind ts k = state_of (k + 1) ts

-- of one whose number was given before the event; and of one that has a number behind those
abbrev pub changed_fact : Threads → Threads → ℕ → List Fact
changed_fact before after k = change_facts (k + 1) (state_behind before k) (state_behind after k)

abbrev pub created_fact : ℕ → Threads → ℕ → List Fact
created_fact given after k = created_facts (given + k + 1) (state_behind after (given + k))

unfoldable pub thread_facts : Threads → Threads → List Fact
thread_facts before after =
    flat_map (changed_fact before after) (range_with_len 0 before.given)
    ++ flat_map (created_fact before.given after) (range_with_len 0 (after.given - before.given))

-- AS CODE KEEPS THEM

-- the states of the threads to which numbers were given
abbrev pub states_of : Threads → List (Option ThreadState)
states_of ts = map (state_behind ts) (range_with_len 0 ts.given)

-- they are those of these threads
pub record AreBefore (ts : Threads) (x : ThreadsBefore) : Type 0 where
  pub states : x.states.items ≡ states_of ts
  pub given : x.given ≡ ts.given

-- of the thread with a number behind so many, where these were the states
abbrev pub told_from : List (Option ThreadState) → Threads → ℕ → List Fact
told_from states after k = change_facts (k + 1) (unwrap_or (slice_get states k) None) (state_behind after k)
