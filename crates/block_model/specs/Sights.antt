-- What is read of one hart at a place of a log: its next instruction, and what a scheduler sees of it.
use Rattle.std.specs.Prelude.{ℕ, ◌==◌, Bool, false, not, ◌&&◌, length, Option, Some, None, is_none, is_some}
use Rattle.std.specs.Option.{option_map, option_map_or}
use Rattle.mach_types.specs.declared.events.Sight.{Sight}
use Rattle.mach_types.specs.declared.events.Tid.{Tid}
use Rattle.mach_types.specs.Kernel.Scheduling as scheduling
use Rattle.mach_types.specs.Kernel.Signals.{next_for}
use Rattle.rv_inst.specs.Local.{is_register_only}
use Rattle.rv_inst.specs.declared.effects.Effect.{Effect}
use Rattle.block_model.specs.Instruction.{next_instruction}
use Rattle.block_model.specs.Here.{Here, runs, waiting_here}
use Rattle.block_model.specs.Events.Exec.{next_effect, next_fault, refusal_exec}

-- what the next instruction of the thread on the hart asks for, where a word is fetched and has a row; nothing on an idle hart
abbrev pub effect_on : Here → Option ℕ → Option Effect
effect_on here None = None
effect_on here (Some t) = next_effect here t

abbrev pub effect_here : Here → Option Effect
effect_here here = effect_on here (runs here)

-- the signal of its fault; nothing on an idle hart
abbrev pub fault_on : Here → Option ℕ → Option ℕ
fault_on here None = None
fault_on here (Some t) = next_fault here t

abbrev pub fault_here : Here → Option ℕ
fault_here here = fault_on here (runs here)

-- whether the next instruction of the thread on the hart touches registers and the pc alone, and doesn't fault
abbrev pub is_local_on : Here → Option ℕ → Bool
is_local_on here None = false
is_local_on here (Some t) =
    option_map_or is_register_only (next_instruction here.setting.program.pages (here.file t)) false && is_none (next_fault here t)

-- the thread with a number
abbrev pub thread : ℕ → Tid
thread t = record { 0 = t }

-- the first ready thread that may run on the hart
abbrev pub first_ready : Here → Option Tid
first_ready here = option_map thread (scheduling.first_for here.hart here.kernel.scheduling)

-- whether a signal can be delivered to the thread on the hart
abbrev pub is_deliverable_on : Here → Option ℕ → Bool
is_deliverable_on here None = false
is_deliverable_on here (Some t) = is_some (next_for t here.kernel.signals)

-- whether the barrier of the hart's thread can return, since no hart is left that has to take its request
abbrev pub is_all_taken : Option ℕ → Bool
is_all_taken awaits = option_map_or (λ left. left == 0) awaits false

-- what a scheduler sees of the hart, which executed so many instructions since a thread began to run there, and which has this
-- credit
abbrev pub sight_in : Here → ℕ → ℕ → Sight
sight_in here ran credit = record {
  idle = is_none (runs here);
  first_ready = first_ready here;
  in_barrier = is_some here.awaits;
  all_taken = is_all_taken here.awaits;
  requested = not (here.requests == 0);
  stores = length (waiting_here here);
  deliverable = is_deliverable_on here (runs here);
  exec_enabled = is_none (refusal_exec here);
  local = is_local_on here (runs here);
  ran = ran;
  credit = credit;
}
