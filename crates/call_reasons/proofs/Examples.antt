-- Worked examples of the lines of faults, by computation.
use Rattle.std.proofs.Common.{◌≡◌, refl, codes}
use Rattle.std.specs.Fmt.{digits}
use Rattle.elf_load.specs.declared.fault.ElfFault.TheVariants.{Short, Flags}
use Rattle.call_reasons.specs.declared.faults.Fault.TheVariants.{Usage, Elf, Guest, Script}
use Rattle.call_reasons.specs.FaultLines.{fault_line}

usage_line : fault_line Usage ≡ codes "fault usage\n"
unfolding fault_line
usage_line = refl

elf_line_with_number : fault_line (Elf (Flags 1)) ≡ codes "fault elf 8 1\n"
unfolding fault_line digits
elf_line_with_number = refl

script_line : fault_line (Script 15) ≡ codes "fault script 15\n"
unfolding fault_line digits
script_line = refl

guest_line : fault_line (Guest 0) ≡ codes "fault guest 0\n"
unfolding fault_line digits
guest_line = refl

elf_line_alone : fault_line (Elf Short) ≡ codes "fault elf 1\n"
unfolding fault_line digits
elf_line_alone = refl
