-- The exit status of a reason, the fault that is told of it, and how many bytes a file may have (own).
use Rattle.std.specs.Prelude.{ℕ, Option, Some, None}
use Rattle.call_reasons.specs.declared.faults.Fault.{Fault}
use Rattle.call_reasons.specs.declared.faults.Fault.TheVariants as told
use Rattle.call_reasons.specs.declared.reasons.FileRole.{FileRole}
use Rattle.call_reasons.specs.declared.reasons.FileRole.TheVariants as role
use Rattle.call_reasons.specs.declared.reasons.Reason.{Reason}
use Rattle.call_reasons.specs.declared.reasons.Reason.TheVariants.{Words, Unread, NoMemory, TooBig, Elf, Script, Guest, EndedOtherwise, Unwritten}

-- how many bytes a program's file may have, and a script's (own)
abbrev pub most_program_bytes : ℕ
most_program_bytes = 8388608

abbrev pub most_script_bytes : ℕ
most_script_bytes = 67108864

-- how many bytes a file of this role may have
abbrev pub most_bytes : FileRole → ℕ
most_bytes role.Program = most_program_bytes
most_bytes role.SecondProgram = most_program_bytes
most_bytes role.Script = most_script_bytes

-- the exit status that goes with a reason
abbrev pub reason_status : Reason → ℕ
reason_status (EndedOtherwise other) = 1
reason_status (Words fault) = 2
reason_status (Elf file fault about) = 3
reason_status (Script number fault) = 4
reason_status (Unread file trouble) = 5
reason_status (Unwritten trouble) = 6
reason_status NoMemory = 7
reason_status (TooBig file) = 8
reason_status (Guest number) = 9

-- the fault whose line is written; none where no line is: the output was written, or nothing could be
abbrev pub fault_told : Reason → Option Fault
fault_told (Words fault) = Some told.Usage
fault_told (Unread file trouble) = Some told.Read
fault_told NoMemory = Some told.Memory
fault_told (TooBig file) = Some told.Big
fault_told (Elf file fault about) = Some (told.Elf fault)
fault_told (Script number fault) = Some (told.Script number)
fault_told (Guest number) = Some (told.Guest number)
fault_told (EndedOtherwise other) = None
fault_told (Unwritten trouble) = None
