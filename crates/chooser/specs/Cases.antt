-- What `run` lets a hart do next (own): the first of seven cases that applies, by what a scheduler sees of the hart. In
-- the last case a word of the hart's generator decides.
use Rattle.std.specs.Prelude.{ℕ, ◌-◌, ◌/◌, ◌%◌, ◌==◌, ◌&&◌, Bool, true, false, Option, Some, None, if◌then◌else◌, nat_lt, nat_le, is_some}
use Rattle.std.specs.Option.{option_map}
use Rattle.mach_types.specs.declared.events.Choice.{Choice}
use Rattle.mach_types.specs.declared.events.Choice.TheVariants as asked
use Rattle.mach_types.specs.declared.events.Sight.{Sight}
use Rattle.chooser.specs.declared.cases.Case.{Case}
use Rattle.chooser.specs.declared.cases.Case.TheVariants.{Settled, Open}
use Rattle.chooser.specs.declared.chooser.Pick.{Pick}

-- this event, and no credit after it
abbrev pub plainly : Choice → Pick
plainly c = record { choice = c; credit = 0 }

-- whether a store of the hart waits
abbrev pub has_stores : Sight → Bool
has_stores seen = nat_lt 0 seen.stores

-- the hart's oldest waiting store enters memory where one waits; else this event
abbrev pub emptied_before : Sight → Choice → Choice
emptied_before seen c = if has_stores seen then asked.Drain else c

-- an idle hart takes its requests; where none is pending, it runs the first ready thread that may run on it
abbrev pub when_idle : Sight → Option Choice
when_idle seen = if seen.requested then Some asked.Take else option_map asked.Run seen.first_ready

-- a hart whose thread waits in a barrier takes its requests; where none is pending, the barrier returns once all its
-- targets have acknowledged
abbrev pub when_in_barrier : Sight → Option Choice
when_in_barrier seen =
    if seen.requested then Some asked.Take else if seen.all_taken then Some asked.Done else None

-- a register-only instruction is executed on credit
abbrev pub has_credit : Sight → Bool
has_credit seen = nat_lt 0 seen.credit && seen.local

abbrev pub on_credit : Sight → Pick
on_credit seen = record { choice = asked.Exec; credit = seen.credit - 1 }

-- a hart that may not execute lets its oldest waiting store enter memory, where one waits
abbrev pub when_held_up : Sight → Option Choice
when_held_up seen = if has_stores seen then Some asked.Drain else None

-- by one word in eight the thread leaves the hart, where it has executed 16 instructions there, no store waits, and another
-- thread is ready that may run there
abbrev pub leaves_by : ℕ → Sight → Bool
leaves_by word seen =
    (word % 8 == 0) && nat_le 16 seen.ran && (seen.stores == 0) && is_some seen.first_ready

-- by one word in four the oldest waiting store enters memory, where one waits
abbrev pub drains_by : ℕ → Sight → Bool
drains_by word seen = (word % 4 == 1) && has_stores seen

-- the credit that a word gives
abbrev pub credit_of : ℕ → ℕ
credit_of word = word / 16 % 8

-- what a word decides
abbrev pub by_word : ℕ → Sight → Pick
by_word word seen =
    if leaves_by word seen then plainly asked.Preempt
    else if drains_by word seen then plainly asked.Drain
    else record { choice = asked.Exec; credit = credit_of word }

-- the first case that applies: what is done next, or nothing; or that a word decides
abbrev pub case_of : Sight → Case
case_of seen =
    if seen.idle then Settled (option_map plainly (when_idle seen))
    else if seen.in_barrier then Settled (option_map plainly (when_in_barrier seen))
    else if has_credit seen then Settled (Some (on_credit seen))
    else if seen.requested then Settled (Some (plainly (emptied_before seen asked.Take)))
    else if seen.deliverable then Settled (Some (plainly (emptied_before seen asked.Signal)))
    else if seen.exec_enabled then Open
    else Settled (option_map plainly (when_held_up seen))

-- whether a case draws a word
abbrev pub is_open : Case → Bool
is_open (Settled pick) = false
is_open Open = true

abbrev pub draws : Sight → Bool
draws seen = is_open (case_of seen)

-- what a hart does in a case, where this is the next word of its generator
abbrev pub pick_in : Case → ℕ → Sight → Option Pick
pick_in (Settled pick) word seen = pick
pick_in Open word seen = Some (by_word word seen)

-- what a hart does of which this is seen, and of whose generator this is the next word
unfoldable pub pick : Sight → ℕ → Option Pick
pick seen word = pick_in (case_of seen) word seen
