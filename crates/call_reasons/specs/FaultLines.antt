-- The lines of faults (own). Characters are ASCII codes, and numbers are decimal.
use Rattle.std.specs.Prelude.{ℕ, List, [], ◌∷◌, ◌++◌, Option, Some, None, codes}
use Rattle.std.specs.Fmt.{decimal}
use Rattle.elf_load.specs.declared.fault.ElfFault.{ElfFault}
use Rattle.elf_load.specs.Numbers.{fault_number, fault_detail}
use Rattle.step_log.specs.Text.{newline, space}
use Rattle.call_reasons.specs.declared.faults.Fault.{Fault}
use Rattle.call_reasons.specs.declared.faults.Fault.TheVariants.{Usage, Read, Memory, Big, Elf, Script, Guest}

-- the number that goes with a fault, if it has one
abbrev pub detail_words : Option ℕ → List ℕ
detail_words None = []
detail_words (Some detail) = space ∷ decimal detail

-- the words of a refused file: the fault's number, and the number that goes with it
abbrev pub elf_words : ElfFault → List ℕ
elf_words fault = codes "elf " ++ decimal (fault_number fault) ++ detail_words (fault_detail fault)

abbrev pub fault_words : Fault → List ℕ
fault_words Usage = codes "usage"
fault_words Read = codes "read"
fault_words Memory = codes "memory"
fault_words Big = codes "big"
fault_words (Elf fault) = elf_words fault
fault_words (Script number) = codes "script " ++ decimal number
fault_words (Guest number) = codes "guest " ++ decimal number

-- the line of a fault
unfoldable pub fault_line : Fault → List ℕ
fault_line fault = codes "fault " ++ fault_words fault ++ newline ∷ []
