-- The facts of an event that isn't plain, as code finds them: by what the kernel wrote in it, by the reservations before it, and by its
-- hart and the registers of its thread before it and after it.
use Rattle.std.specs.Prelude.{ℕ, ◌==◌, ◌||◌, Bool, List, [], ◌++◌, map, slice_get, unwrap_or, if◌then◌else◌, Option, Some, None}
use Rattle.std.specs.List.{flat_map, range_with_len}
use Rattle.mach_types.specs.Events.{choice_of, is_instruction, is_return, kind_of}
use Rattle.mach_types.specs.Kernel.Threads.{state_of}
use Rattle.mach_types.specs.declared.events.Choice.{Choice}
use Rattle.mach_types.specs.declared.events.Entry.{Entry}
use Rattle.mach_types.specs.declared.events.Kind.{Kind}
use Rattle.mach_types.specs.declared.registers.Regs.{Regs}
use Rattle.mach_types.specs.declared.user_memory.Write.{Write}
use Rattle.mach_types.specs.declared.user_memory.Write.TheVariants.{Stored, Zeroed}
use Rattle.rv_inst.specs.Execution.{has_reserved}
use Rattle.block_model.specs.Here.{Here, runs}
use Rattle.block_model.specs.History.{History, reservation}
use Rattle.block_model.specs.Setting.{Seen}
use Rattle.fact_types.specs.declared.facts.Fact.{Fact}
use Rattle.event_facts.specs.Facts.{changed_registers, kernel_fact, registers_seen}
use Rattle.event_facts.specs.Reservations.{ended_facts, lost_facts}
use Rattle.event_facts.specs.Telling.{here_on}
use Rattle.event_facts.specs.Pending.{is_signal}

-- RESERVATIONS

-- those of so many harts, in the order of the harts; and that of hart k among them
abbrev pub all_reservations : History → ℕ → List (Option ℕ)
all_reservations before harts = map (λ k. reservation k before) (range_with_len 0 harts)

abbrev pub reservation_in : List (Option ℕ) → ℕ → Option ℕ
reservation_in kept k = unwrap_or (slice_get kept k) None

-- the address, where one of so many bytes from there on is one of the 8 that are reserved from r on; and that of a write
abbrev pub at_if_taken : ℕ → ℕ → ℕ → Option ℕ
at_if_taken r at n = if has_reserved r at n then Some at else None

abbrev pub taken_by : ℕ → Write → Option ℕ
taken_by r (Stored w) = at_if_taken r w.at w.size
taken_by r (Zeroed at n) = at_if_taken r at n

-- what these writes of an event of hart h make of the reservation of hart k, where these were the reservations before it
abbrev pub lost_from : ℕ → List (Option ℕ) → List Write → ℕ → List Fact
lost_from h kept ws k = if h == k then [] else lost_facts k (reservation_in kept k) ws

-- REGISTERS

-- those of thread t at the place after an event of its hart, unless it is gone
abbrev pub registers_after : Here → ℕ → Option Regs
registers_after after t = registers_seen (runs after) (state_of t after.kernel.threads) t (after.file t)

-- whether an event sets registers of the thread that runs on its hart: an instruction, a barrier that
-- returns and the delivery of a signal do; and what else isn't plain sets none
abbrev pub sets_own : Kind → Bool
sets_own k = is_instruction k || is_return k || is_signal k

-- of an event of this choice, whose hart had these registers before it, and whose thread has those after it
abbrev pub changed_own : Choice → Regs → Option Regs → List Fact
changed_own c before after = if sets_own (kind_of c) then changed_registers before after else []

-- ALL

-- of an entry that a machine has made, in this line: its hart had these registers before it, the harts had these reservations, and the kernel
-- made these writes
abbrev pub kernel_facts : Seen → Entry → Regs → List (Option ℕ) → List Write → ℕ → List Fact
kernel_facts m entry registers reserved written line =
    let after = here_on m entry.hart.0 in
    map (kernel_fact line) written
    ++ ended_facts (reservation_in reserved entry.hart.0) after.reserved
    ++ flat_map (lost_from entry.hart.0 reserved written) (range_with_len 0 m.setting.limits.harts)
    ++ changed_own (choice_of entry) registers (registers_after after entry.tid.0)
