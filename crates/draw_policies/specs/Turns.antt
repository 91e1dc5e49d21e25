-- What a hart does in its turn (own), by what is seen of it, by its aim, and by one word: the first rule that applies.
use Rattle.std.specs.Prelude.{ℕ, ◌&&◌, Bool, not, List, Option, Some, None, if◌then◌else◌, nat_lt}
use Rattle.std.specs.Option.{option_map, option_or}
use Rattle.mach_types.specs.declared.events.Choice.{Choice}
use Rattle.mach_types.specs.declared.events.Choice.TheVariants as asked
use Rattle.mach_types.specs.declared.events.Sight.{Sight}
use Rattle.mach_types.specs.declared.events.Tid.{Tid}
use Rattle.chooser.specs.Cases.{has_stores}
use Rattle.draw_policies.specs.Aims.{choice_of_aim, still_due}
use Rattle.draw_policies.specs.Beginning.{thread_to_run}
use Rattle.draw_policies.specs.Words.{drain_of, interrupt_of, preempt_of}
use Rattle.draw_policies.specs.declared.aims.Aim.{Aim}
use Rattle.draw_policies.specs.declared.aims.Aim.TheVariants as means
use Rattle.draw_policies.specs.declared.policies.Weights.{Weights}
use Rattle.draw_policies.specs.declared.turns.Turn.{Turn}

-- an event of the hart's kernel: before it goes back to the thread it delivers a signal that can be delivered (signal(7)), so that is
-- what the hart means then; and register-only instructions may follow without a word
abbrev pub freely : Weights → Choice → Turn
freely weights c = record { choice = c; aim = Some means.Signal; credit = weights.credit }

-- the thread's next instruction, which traps or not: a signal that could be delivered before it waits on for a word, unless the thread
-- goes to the kernel by it
abbrev pub executing : Weights → Sight → Bool → Turn
executing weights seen traps = record {
  choice = asked.Exec;
  aim = if seen.deliverable && not traps then None else Some means.Signal;
  credit = weights.credit;
}

-- the oldest waiting store enters memory, and no credit is left
abbrev pub draining : Option Aim → Turn
draining a = record { choice = asked.Drain; aim = a; credit = 0 }

-- an idle hart takes its requests; where none is pending, this thread begins to run
abbrev pub idle_turn : Weights → Sight → Option Tid → Option Turn
idle_turn weights seen next =
    if seen.requested then Some (freely weights asked.Take) else option_map (λ t. freely weights (asked.Run t)) next

-- a hart whose thread waits in a barrier takes its requests; where none is pending, the barrier returns
abbrev pub barrier_turn : Weights → Sight → Turn
barrier_turn weights seen = if seen.requested then freely weights asked.Take else freely weights asked.Done

-- whether the hart means to take its requests by this word
abbrev pub takes_by : ℕ → Weights → Sight → Bool
takes_by w weights seen = seen.requested && nat_lt (interrupt_of w) weights.take

-- whether it means to let a signal be delivered
abbrev pub delivers_by : ℕ → Weights → Sight → Bool
delivers_by w weights seen = seen.deliverable && nat_lt (interrupt_of w) weights.signal

-- whether it means to let its thread leave: only a thread that need not wait for stores
abbrev pub leaves_by : ℕ → Weights → Sight → Bool
leaves_by w weights seen = seen.exec_enabled && nat_lt (preempt_of w) weights.preempt

-- what a running hart begins to mean
abbrev pub new_aim : Weights → Sight → ℕ → Option Aim
new_aim weights seen w =
    if takes_by w weights seen then Some means.Take
    else if delivers_by w weights seen then Some means.Signal
    else if leaves_by w weights seen then Some means.Preempt
    else None

-- what it means: its aim that can still be done, or else what it begins to mean
abbrev pub meant : Weights → Sight → Option Aim → ℕ → Option Aim
meant weights seen held w = option_or (still_due seen held) (new_aim weights seen w)

-- a hart that means something does it where no store waits; else its oldest store enters memory
abbrev pub aimed : Sight → Aim → Turn
aimed seen a =
    if has_stores seen then draining (Some a) else record { choice = choice_of_aim a; aim = Some means.Signal; credit = 0 }

-- whether the oldest store enters memory by this word
abbrev pub drains_by : ℕ → Weights → Sight → Bool
drains_by w weights seen = has_stores seen && nat_lt (drain_of w) weights.drain

-- a hart that means nothing executes an instruction, where it may and no store enters memory by the word; else its oldest store
-- enters memory
abbrev pub aimless : Weights → Sight → Bool → ℕ → Turn
aimless weights seen traps w =
    if seen.exec_enabled && not (drains_by w weights seen) then executing weights seen traps else draining None

abbrev pub turn_meaning : Weights → Sight → Bool → ℕ → Option Aim → Turn
turn_meaning weights seen traps w None = aimless weights seen traps w
turn_meaning weights seen traps w (Some a) = aimed seen a

-- a hart whose thread runs, and waits in no barrier
abbrev pub running_turn : Weights → Sight → Bool → Option Aim → ℕ → Turn
running_turn weights seen traps held w = turn_meaning weights seen traps w (meant weights seen held w)

-- any hart, whose thread's next instruction traps or not, where these threads may begin to run there, and that one ran there last; none
-- on an idle hart that has nothing to do
abbrev pub turn : Weights → Sight → Bool → List ℕ → Option Tid → Option Aim → ℕ → Option Turn
turn weights seen traps threads last held w =
    if seen.idle then idle_turn weights seen (thread_to_run threads last w)
    else if seen.in_barrier then Some (barrier_turn weights seen)
    else Some (running_turn weights seen traps held w)
