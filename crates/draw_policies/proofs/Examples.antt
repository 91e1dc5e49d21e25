-- Worked examples: what is done in a turn by each rule, which digits of a word decide it, and which stay a new stretch has.
use Rattle.std.proofs.Common.{◌≡◌, ℕ, [], ◌∷◌, Option, Some, None, true, false, refl}
use Rattle.mach_types.specs.declared.events.Choice.{Choice}
use Rattle.mach_types.specs.declared.events.Choice.TheVariants as asked
use Rattle.mach_types.specs.declared.events.Sight.{Sight}
use Rattle.mach_types.specs.declared.events.Tid.{Tid}
use Rattle.chooser.proofs.Sights.{idle}
use Rattle.draw_policies.specs.Acting.{can_act}
use Rattle.draw_policies.specs.Beginning.{thread_to_run}
use Rattle.draw_policies.specs.Policies.{weights_of}
use Rattle.draw_policies.specs.Turns.{turn}
use Rattle.draw_policies.specs.Words.{hart_place, stretch_of, thread_place}
use Rattle.draw_policies.specs.declared.aims.Aim.{Aim}
use Rattle.draw_policies.specs.declared.aims.Aim.TheVariants as means
use Rattle.draw_policies.specs.declared.policies.Policy.{Policy}
use Rattle.draw_policies.specs.declared.policies.Policy.TheVariants as policy
use Rattle.draw_policies.specs.declared.turns.Turn.{Turn}

abbrev thread : ℕ → Tid
thread t = record { 0 = t }

-- a hart whose thread may execute, and the same hart while one of its stores waits
abbrev running : Sight
running = record idle { idle = false; exec_enabled = true }

abbrev storing : Sight
storing = record running { stores = 1 }

-- what a hart does that is no idle one, whose thread's next instruction doesn't trap, or does
abbrev turn_of : Policy → Sight → Option Aim → ℕ → Option Turn
turn_of p seen held w = turn (weights_of p) seen false [] None held w

abbrev trapping : Policy → Sight → Option Aim → ℕ → Option Turn
trapping p seen held w = turn (weights_of p) seen true [] None held w

abbrev done : Choice → Option Aim → ℕ → Option Turn
done c a credit = Some (record { choice = c; aim = a; credit = credit })

-- an event behind which a signal is delivered first, if one can be
abbrev returned : Choice → ℕ → Option Turn
returned c credit = done c (Some means.Signal) credit

-- which thread begins: the word 2 · 840 · 10^12 names place 2 of three, and place 0 of two
abbrev two_times : ℕ
two_times = 1680000000000000

pub place_of_a_thread : thread_place two_times 3 ≡ 2
place_of_a_thread = refl

pub place_of_a_hart : hart_place two_times 8 ≡ 0
place_of_a_hart = refl

pub third_of_three : thread_to_run (4 ∷ 5 ∷ 6 ∷ []) None two_times ≡ Some (thread 6)
third_of_three = refl

pub last_one_is_left_out : thread_to_run (4 ∷ 5 ∷ 6 ∷ []) (Some (thread 4)) two_times ≡ Some (thread 5)
last_one_is_left_out = refl

pub last_one_alone_runs_again : thread_to_run (4 ∷ []) (Some (thread 4)) two_times ≡ Some (thread 4)
last_one_alone_runs_again = refl

pub idle_hart_takes_first : turn (weights_of policy.Stretch) (record idle { requested = true }) false (4 ∷ []) None None 0
    ≡ returned asked.Take 256
idle_hart_takes_first = refl

-- how often 60,480 times 10^12 is in a word says which of the four stays a new stretch has
pub stay_is_the_first : stretch_of two_times ≡ 0
stay_is_the_first = refl

pub stay_is_the_second : stretch_of 60480000000000000 ≡ 1
stay_is_the_second = refl

pub stay_is_the_last : stretch_of 241919999999999999 ≡ 3
stay_is_the_last = refl

pub stay_begins_again : stretch_of 241920000000000000 ≡ 0
stay_begins_again = refl

-- the digits of 7 and those of 8 decide for a thread and for a store: below 30 in 1,000 the one, below 20 the other
pub thread_means_to_leave : turn_of policy.Stretch storing None 19029999 ≡ done asked.Drain (Some means.Preempt) 0
thread_means_to_leave = refl

pub then_it_leaves : turn_of policy.Stretch running (Some means.Preempt) 999999999999 ≡ returned asked.Preempt 0
then_it_leaves = refl

pub store_enters : turn_of policy.Stretch storing None 19030000 ≡ done asked.Drain None 0
store_enters = refl

pub store_goes_on_waiting : turn_of policy.Stretch storing None 20030000 ≡ returned asked.Exec 256
store_goes_on_waiting = refl

pub one_gives_no_credit : turn_of policy.One storing None 250015000 ≡ returned asked.Exec 0
one_gives_no_credit = refl

-- a hart that must wait for its stores means no thread to leave, and lets the oldest one enter
pub held_up_hart_drains : turn_of policy.Stretch (record storing { exec_enabled = false }) None 999000000
    ≡ done asked.Drain None 0
held_up_hart_drains = refl

-- a request comes before a signal, and at once but for the stores that still wait, also where the word lets nothing else happen
pub request_comes_first : turn_of policy.Stretch (record storing { requested = true; deliverable = true }) None 49999999999
    ≡ done asked.Drain (Some means.Take) 0
request_comes_first = refl

pub signal_alone : turn_of policy.Stretch (record running { deliverable = true }) None 49999999999
    ≡ returned asked.Signal 0
signal_alone = refl

pub request_is_taken_at_once : turn_of policy.Stall (record running { requested = true }) None 999999999999
    ≡ returned asked.Take 0
request_is_taken_at_once = refl

pub request_waits_by_the_word : turn_of policy.Short (record running { requested = true }) None 50999999999
    ≡ returned asked.Exec 256
request_waits_by_the_word = refl

-- by the rule a store waits until the next event needs that none does, and a request is taken and a signal delivered at once
pub rule_lets_stores_wait : turn_of policy.Rule storing None 0 ≡ returned asked.Exec 0
rule_lets_stores_wait = refl

pub rule_drains_where_it_must : turn_of policy.Rule (record storing { exec_enabled = false }) None 0 ≡ done asked.Drain None 0
rule_drains_where_it_must = refl

pub rule_takes_requests : turn_of policy.Rule (record running { requested = true; deliverable = true }) None 0
    ≡ returned asked.Take 0
rule_takes_requests = refl

pub rule_delivers_signals : turn_of policy.Rule (record storing { deliverable = true }) None 0
    ≡ done asked.Drain (Some means.Signal) 0
rule_delivers_signals = refl

-- an aim that can't be done any more is none, also while a store waits
pub aim_is_given_up : turn_of policy.Stretch storing (Some means.Signal) 999999999999 ≡ returned asked.Exec 256
aim_is_given_up = refl

-- a signal that can be delivered already waits for a word behind an instruction, but not behind a call or a fault
pub signal_waits_by_the_word : turn_of policy.Stretch (record running { deliverable = true }) None 999999999999
    ≡ done asked.Exec None 256
signal_waits_by_the_word = refl

pub signal_comes_behind_a_trap : trapping policy.Stretch (record running { deliverable = true }) None 999999999999
    ≡ returned asked.Exec 256
signal_comes_behind_a_trap = refl

-- then it is delivered whatever the word is, once no store waits
pub trapped_hart_drains : turn_of policy.Stretch (record storing { deliverable = true }) (Some means.Signal) 999999999999
    ≡ done asked.Drain (Some means.Signal) 0
trapped_hart_drains = refl

pub trapped_hart_delivers : turn_of policy.Stretch (record running { deliverable = true }) (Some means.Signal) 999999999999
    ≡ returned asked.Signal 0
trapped_hart_delivers = refl

-- a hart held up by the stores of others alone can't act
pub held_up_by_others : can_act (record running { exec_enabled = false }) true ≡ false
held_up_by_others = refl

pub barrier_waits_for_others : can_act (record running { in_barrier = true; exec_enabled = false }) true ≡ false
barrier_waits_for_others = refl
