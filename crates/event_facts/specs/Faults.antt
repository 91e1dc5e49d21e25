-- The fact of a fault (RISC-V Unprivileged ISA; which signal a fault is: own, as Linux has it): its signal, why it comes, and at which
-- address. It is read at the place before the event.
use Rattle.std.specs.Prelude.{ℕ, ◌==◌, List, [], if◌then◌else◌, Option, Some, None}
use Rattle.std.specs.Option.{option_map, option_to_list}
use Rattle.mach_types.specs.Events.{is_instruction, kind_of}
use Rattle.mach_types.specs.declared.events.Choice.{Choice}
use Rattle.mach_types.specs.declared.signals.TheConstants.{SIGBUS, SIGSEGV, SIGTRAP}
use Rattle.rv_inst.specs.Class.{asks}
use Rattle.rv_inst.specs.declared.class.Access.{Access}
use Rattle.rv_inst.specs.declared.effects.Effect.{Effect}
use Rattle.block_model.specs.Events.Exec.{next_effect, next_fault}
use Rattle.block_model.specs.Here.{Here, runs}
use Rattle.fact_types.specs.declared.facts.Fact.{Fact}
use Rattle.fact_types.specs.declared.facts.Fact.TheVariants.{Faulted}
use Rattle.fact_types.specs.declared.faults.FaultWhy.{FaultWhy}
use Rattle.fact_types.specs.declared.faults.FaultWhy.TheVariants.{NotAligned, NotExecutable, NoInstruction, Breakpoint, MisalignedJump, MisalignedAccess, NotReadable, NotWritable}

-- where no instruction is fetched, or the word has none: by the signal
abbrev pub fetch_why : ℕ → FaultWhy
fetch_why signal = if signal == SIGBUS then NotAligned else if signal == SIGSEGV then NotExecutable else NoInstruction

-- of an instruction that accesses no memory: EBREAK, or a jump or a branch to an address that isn't a multiple of 4
abbrev pub trap_why : ℕ → FaultWhy
trap_why signal = if signal == SIGTRAP then Breakpoint else MisalignedJump

-- of an access: an atomic one whose address isn't a multiple of its size; or a byte that can't be written, or read
abbrev pub access_why : ℕ → Access → FaultWhy
access_why signal a = if signal == SIGBUS then MisalignedAccess else if a.is_write then NotWritable else NotReadable

-- an access faults at its address, another instruction at the pc
abbrev pub instruction_fault : ℕ → ℕ → Option Access → Fact
instruction_fault signal pc None = Faulted signal (trap_why signal) pc
instruction_fault signal pc (Some a) = Faulted signal (access_why signal a) a.at

-- the fault of this signal, at a pc, of an instruction with this effect, or where there is none
abbrev pub fault_told : Option Effect → ℕ → ℕ → Fact
fault_told None pc signal = Faulted signal (fetch_why signal) pc
fault_told (Some e) pc signal = instruction_fault signal pc (asks e).access

-- that of the thread that runs on a hart
abbrev pub fault_of : Here → Option ℕ → Option Fact
fault_of here None = None
fault_of here (Some t) = option_map (fault_told (next_effect here t) (here.file t).pc) (next_fault here t)

-- that of an event
abbrev pub fault_facts : Choice → Here → List Fact
fault_facts c here = if is_instruction (kind_of c) then option_to_list (fault_of here (runs here)) else []
