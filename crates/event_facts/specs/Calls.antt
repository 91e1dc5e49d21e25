-- The facts of a system call (Linux for RISC-V): which call it is, with its arguments, and how it was answered. They are read at the place
-- before the event and at the place after it.
use Rattle.std.specs.Prelude.{ℕ, ◌-◌, ◌^◌, ◌==◌, ◌&&◌, ◌||◌, nat_le, Bool, true, false, List, [], ◌∷◌, if◌then◌else◌, Option, Some, None, is_none, is_some}
use Rattle.std.specs.Option.{option_map_or}
use Rattle.mach_types.specs.Kernel.Threads.{state_of}
use Rattle.mach_types.specs.Registers.{register}
use Rattle.mach_types.specs.Events.{is_instruction, kind_of}
use Rattle.mach_types.specs.declared.events.Choice.{Choice}
use Rattle.mach_types.specs.declared.events.Entry.{Entry}
use Rattle.mach_types.specs.declared.limits.End.{End}
use Rattle.mach_types.specs.declared.limits.End.TheVariants.{Exit, Killed, Stuck, Limit, Unended}
use Rattle.mach_types.specs.declared.registers.Regs.{Regs}
use Rattle.mach_types.specs.declared.threads.ThreadState.{ThreadState}
use Rattle.mach_types.specs.declared.threads.ThreadState.TheVariants.{Ready, Running, Waiting}
use Rattle.rv_inst.specs.Class.{is_call}
use Rattle.rv_inst.specs.declared.effects.Effect.{Effect}
use Rattle.block_model.specs.Deciding.{end_of}
use Rattle.block_model.specs.Events.Exec.{next_effect, next_fault}
use Rattle.block_model.specs.Here.{Here, runs}
use Rattle.block_model.specs.History.{History, here_in_history}
use Rattle.block_model.specs.Setting.{Setting}
use Rattle.fact_types.specs.declared.calls.SystemCall.{SystemCall}
use Rattle.fact_types.specs.declared.facts.Fact.{Fact}
use Rattle.fact_types.specs.declared.facts.Fact.TheVariants.{Called, Answered, Refused, AnsweredLater, NoAnswer}

-- THE CALL

-- that of a thread with these registers: the number is in a7 (x17), and arguments are in a0 to a5 (x10 to x15)
abbrev pub call_in : Regs → SystemCall
call_in r = record {
  number = register r 17;
  arguments = register r 10 ∷ register r 11 ∷ register r 12 ∷ register r 13 ∷ register r 14 ∷ register r 15 ∷ [];
}

-- whether an instruction with this effect, which makes this fault or none, is a call
abbrev pub is_calling : Option ℕ → Option Effect → Bool
is_calling fault None = false
is_calling fault (Some e) = is_none fault && is_call e

-- the call of the thread that runs on a hart, where its next instruction is one
abbrev pub call_on : Here → Option ℕ → Option SystemCall
call_on here None = None
call_on here (Some t) = if is_calling (next_fault here t) (next_effect here t) then Some (call_in (here.file t).file) else None

-- the call that an event is, if it is one
abbrev pub call_by : Choice → Here → Option SystemCall
call_by c here = if is_instruction (kind_of c) then call_on here (runs here) else None

abbrev pub call_facts : Option SystemCall → List Fact
call_facts None = []
call_facts (Some c) = Called c ∷ []

-- ITS ANSWER

-- the greatest error number (Linux, MAX_ERRNO)
abbrev pub last_errno : ℕ
last_errno = 4095

-- what stands in a0 after a call: the negative of an error number, or else its value
abbrev pub answer_told : ℕ → Fact
answer_told value = if nat_le (2 ^ 64 - last_errno) value then Refused (2 ^ 64 - value) else Answered value

-- of a thread that runs on its hart still: a barrier that it began answers later
abbrev pub answer_unless : Bool → ℕ → Fact
answer_unless waits value = if waits then AnsweredLater else answer_told value

-- of a thread that runs there no more, by its state: it is gone, or has its answer, or waits. It runs on no other hart
abbrev pub answer_off : Option ThreadState → ℕ → Fact
answer_off None value = NoAnswer
answer_off (Some Ready) value = answer_told value
answer_off (Some (Running h)) value = NoAnswer
answer_off (Some (Waiting at)) value = AnsweredLater

-- whether thread t is this one
abbrev pub is_it : ℕ → Option ℕ → Bool
is_it t running = option_map_or (λ u. u == t) running false

-- of thread t, at the place after its call
abbrev pub answer_of : Here → ℕ → Fact
answer_of after t =
    let value = register (after.file t).file 10 in
    if is_it t (runs after) then answer_unless (is_some after.awaits) value else answer_off (state_of t after.kernel.threads) value

-- whether a process has ended
abbrev pub is_process_end : End → Bool
is_process_end (Exit status) = true
is_process_end (Killed signal) = true
is_process_end Stuck = false
is_process_end Limit = false
is_process_end Unended = false

-- whether a call of a number has no answer where the run is at this end: rt_sigreturn(2), number 139, goes on with what stands in a
-- signal frame; and nobody gets an answer once the process has ended
abbrev pub has_no_answer : ℕ → End → Bool
has_no_answer number end = (number == 139) || is_process_end end

-- how a call of thread t on hart h was answered after which this happened
abbrev pub answer_at : Setting → History → ℕ → ℕ → SystemCall → Fact
answer_at s past h t c =
    if has_no_answer c.number (end_of s past) then NoAnswer else answer_of (here_in_history s past h) t

abbrev pub answer_facts : Setting → History → Entry → Option SystemCall → List Fact
answer_facts s past entry None = []
answer_facts s past entry (Some c) = answer_at s past entry.hart.0 entry.tid.0 c ∷ []
