-- How long stores wait (own): how many instructions a hart executes behind one of its plain stores until that enters memory. The
-- instruction of the store itself isn't counted.
use Rattle.std.specs.Prelude.{ℕ, ◌+◌, ◌-◌, List, [], ◌∷◌, ◌++◌, drop, length, map, min, replicate, slice_index, slice_set, take, if◌then◌else◌}
use Rattle.mach_types.specs.Events.{nature_of}
use Rattle.mach_types.specs.declared.events.Kind.{Kind}
use Rattle.mach_types.specs.declared.events.Maker.{Maker}
use Rattle.mach_types.specs.declared.events.Maker.TheVariants.{Thread, Buffer, Kernel}
use Rattle.block_model.specs.Deciding.{history}
use Rattle.block_model.specs.Here.{Done}
use Rattle.block_model.specs.History.{Event, History, is_of_hart}
use Rattle.block_model.specs.Setting.{Seen}
use Rattle.drawn_machine.specs.declared.hart_clock.Mark.{Mark}
use Rattle.drawn_machine.specs.declared.store_waits.TheConstants.{LONG_WAIT}

-- what is counted of a hart: how many instructions it executed; and of each of its waiting stores, the oldest first, how many it had
-- executed when that one was, with it, and the pc of that one's instruction
pub record Clock : Type 0 where
  pub instructions : ℕ
  pub marks : List Mark

abbrev pub first_clock : Clock
first_clock = record { instructions = 0; marks = [] }

-- after so many instructions, stores that entered memory, and stores that were executed by the instruction at a pc
abbrev pub clock_by : ℕ → ℕ → ℕ → ℕ → Clock → Clock
clock_by instructions drained stores pc c =
    let now = c.instructions + instructions in
    record { instructions = now; marks = drop drained (c.marks ++ replicate stores (record { instructions = now; pc = pc })) }

-- after an event of the hart
abbrev pub clock_after : Event → Clock → Clock
clock_after e c = clock_by e.done.instructions e.done.drained (length e.done.executed) e.entry.pc c

-- of hart h
abbrev pub clock : ℕ → History → Clock
clock h [] = first_clock
clock h (e ∷ before) = if is_of_hart h e then clock_after e (clock h before) else clock h before

-- how long the oldest stores waited, so many
abbrev pub oldest_waits : ℕ → Clock → List ℕ
oldest_waits drained c = map (λ (mark : Mark). c.instructions - mark.instructions) (take drained c.marks)

-- those that enter memory by an event of the hart: one at most
abbrev pub waits_by : Done → Clock → List ℕ
waits_by d c = oldest_waits d.drained c

-- of all stores that entered memory, the last one first
abbrev pub waits : History → List ℕ
waits [] = []
waits (e ∷ before) = waits_by e.done (clock e.entry.hart.0 before) ++ waits before

-- HOW MANY STORES WAITED HOW LONG

-- by the number of instructions, from 0 on, how many stores waited for so many: the last number, LONG_WAIT, stands for itself and for
-- each greater one
unfoldable pub no_waits : List ℕ
no_waits = replicate (LONG_WAIT + 1) 0

abbrev pub with_wait : ℕ → List ℕ → List ℕ
with_wait wait counts =
    let told = min wait LONG_WAIT in
    slice_set counts told (slice_index counts told + 1)

abbrev pub with_waits : List ℕ → List ℕ → List ℕ
with_waits [] counts = counts
with_waits (wait ∷ more) counts = with_wait wait (with_waits more counts)

abbrev pub counts_of : List ℕ → List ℕ
counts_of all = with_waits all no_waits

-- in a run
abbrev pub wait_counts : History → List ℕ
wait_counts before = counts_of (waits before)

-- in the log of a machine
abbrev pub wait_counts_in : Seen → List ℕ
wait_counts_in m = wait_counts (history m.setting m.log)

-- WHAT IS SEEN OF AN EVENT FROM OUTSIDE

-- a clock after an event of its hart, by who makes it, of the instruction at a pc, and behind which so many stores of the hart wait
abbrev pub clock_made : Maker → ℕ → ℕ → Clock → Clock
clock_made Thread pc waiting c = clock_by 1 0 (waiting - length c.marks) pc c
clock_made Buffer pc waiting c = clock_by 0 1 0 pc c
clock_made Kernel pc waiting c = c

abbrev pub clock_behind : Kind → ℕ → ℕ → Clock → Clock
clock_behind k pc waiting c = clock_made (nature_of k).maker pc waiting c

-- how long the stores waited that enter memory by it
abbrev pub waits_made : Maker → Clock → List ℕ
waits_made Thread c = []
waits_made Buffer c = oldest_waits 1 c
waits_made Kernel c = []

abbrev pub waits_behind : Kind → Clock → List ℕ
waits_behind k c = waits_made (nature_of k).maker c
