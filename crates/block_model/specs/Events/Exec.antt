-- exec: the thread on the hart executes its next instruction, makes its fault, or makes its call.
use Rattle.std.specs.Prelude.{ℕ, [], ◌∷◌, ◌&&◌, Bool, false, not, length, if◌then◌else◌, Option, Some, None, is_some}
use Rattle.std.specs.Option.{option_map_or, option_or}
use Rattle.mach_types.specs.Bytes.{all_stored}
use Rattle.mach_types.specs.Kernel.Pages.{permission_at}
use Rattle.mach_types.specs.Kernel.Signals.{action_of, has_signal, is_handler, mask_of, with_fault}
use Rattle.mach_types.specs.declared.events.Why.{Why}
use Rattle.mach_types.specs.declared.events.Why.TheVariants.{Idle, Others}
use Rattle.mach_types.specs.declared.limits.End.TheVariants.{Killed}
use Rattle.mach_types.specs.declared.signal_words.Fault.{Fault}
use Rattle.rv_inst.specs.declared.effects.Effect.{Effect}
use Rattle.rv_inst.specs.Execution.{Outcome, outcome, instruction_gate}
use Rattle.rv_inst.specs.Class.{is_call}
use Rattle.block_model.specs.Here.{Here, Done, nothing, reached, is_storable, view_of_all, runs, waiting_here}
use Rattle.block_model.specs.Instruction as instruction
use Rattle.block_model.specs.Kernel.{signalled}
use Rattle.block_model.specs.Calls.{called}
use Rattle.block_model.specs.Calls.Answers.{CallDone, call_number, killed_in_call}
use Rattle.block_model.specs.Calls.Memory.{lies_waiting_on, taken_by}
use Rattle.block_model.specs.Sequences.{is_inside_here}
use Rattle.block_model.specs.Events.Preempt.{unless_in_barrier}

-- the next instruction of thread t, and its fault
abbrev pub next_effect : Here → ℕ → Option Effect
next_effect here t = instruction.next_effect here.setting.program.pages (here.file t)

abbrev pub next_fault : Here → ℕ → Option ℕ
next_fault here t = instruction.next_fault here.setting.program.pages (reached here) (is_storable here) (here.file t)

-- what a fault with this signal of thread t says of itself
abbrev pub fault_told : Here → ℕ → ℕ → Fault
fault_told here t signal = instruction.told_by (permission_at here.kernel.pages) (here.file t).pc (next_effect here t) signal

-- whether a byte of a store that waits on some hart of the machine lies on a page that the call of thread t would take (own: so
-- a store that was executed can always enter memory). A call inside a sequence takes none
abbrev pub is_held : Here → ℕ → Bool
is_held here t =
    not (is_inside_here here t)
    && lies_waiting_on here.beside (taken_by (call_number here t) here t) here.waiting here.setting.limits.harts

-- a call waits until no such store does
abbrev pub others_gate : Bool → Option Effect → Option Why
others_gate held effect = if option_map_or is_call effect false && held then Some Others else None

-- the condition that fails: a thread runs, it waits in no barrier, and its next instruction's conditions hold
abbrev pub refusal_exec_by : Here → Option ℕ → Option Why
refusal_exec_by here None = Some Idle
refusal_exec_by here (Some t) =
    unless_in_barrier here.awaits
    (option_or
    (instruction_gate (length (waiting_here here)) (next_effect here t) (is_some (next_fault here t)))
    (others_gate (is_held here t) (next_effect here t)))

abbrev pub refusal_exec : Here → Option Why
refusal_exec here = refusal_exec_by here (runs here)

-- an instruction that changes nothing
abbrev pub one_instruction : Here → Done
one_instruction here = record (nothing here) { instructions = 1 }

-- whether a thread has a handler for the signal of its fault: it doesn't mask the signal, whose action is a handler
abbrev pub has_handler : Here → ℕ → ℕ → Bool
has_handler here t signal =
    not (has_signal (mask_of t here.kernel.signals) signal) && is_handler (action_of signal here.kernel.signals)

-- a fault: registers and pc stay as they are. The signal becomes pending for the thread, which keeps what the fault says, where it
-- has a handler (signal(7); that the thread stays at its instruction until the signal is delivered is own), and else the process is
-- killed by it
abbrev pub by_fault : Here → ℕ → ℕ → Done
by_fault here t signal =
    if has_handler here t signal
    then record (one_instruction here) { kernel = signalled (with_fault t (fault_told here t signal) here.kernel.signals) here.kernel }
    else record (one_instruction here) { ended = Some (Killed signal) }

-- a call, which ends its hart's reservation
abbrev pub by_call : Here → CallDone → Done
by_call here c = record (one_instruction here) {
  files = c.files;
  entered = c.entered;
  reserved = None;
  barrier = c.barrier;
  kernel = c.kernel;
  ended = c.ended;
}

-- another instruction
abbrev pub by_outcome : Here → ℕ → Outcome → Done
by_outcome here t o = record (one_instruction here) {
  files = (t, record { file = o.regs; pc = o.pc }) ∷ [];
  executed = o.executed;
  entered = all_stored o.entered;
  reserved = o.reserved;
}

abbrev pub outcome_of : Here → ℕ → Effect → Outcome
outcome_of here t e = outcome (view_of_all here) (here.file t).file (here.file t).pc here.reserved e

-- no call may be made inside a restartable sequence: the process is killed (own; Linux does so where it checks, CONFIG_DEBUG_RSEQ)
abbrev pub called_here : Here → ℕ → CallDone
called_here here t = if is_inside_here here t then killed_in_call here else called here t

abbrev pub by_effect : Here → ℕ → Option ℕ → Option Effect → Done
by_effect here t (Some signal) e = by_fault here t signal
by_effect here t None None = one_instruction here
by_effect here t None (Some e) = if is_call e then by_call here (called_here here t) else by_outcome here t (outcome_of here t e)

abbrev pub done_exec_by : Here → Option ℕ → Done
done_exec_by here None = nothing here
done_exec_by here (Some t) = by_effect here t (next_fault here t) (next_effect here t)

abbrev pub done_exec : Here → Done
done_exec here = done_exec_by here (runs here)
