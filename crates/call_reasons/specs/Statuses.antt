-- The exit status of each fault.
use Rattle.std.specs.Prelude.{ℕ}
use Rattle.call_reasons.specs.declared.faults.Fault.{Fault}
use Rattle.call_reasons.specs.declared.faults.Fault.TheVariants.{Usage, Read, Memory, Big, Elf, Script, Guest}

-- the exit status of a fault (own); 0 is that of an output, 1 that of one in which a run ended otherwise than was expected, and 6 that
-- of a failed sink
abbrev pub fault_status : Fault → ℕ
fault_status Usage = 2
fault_status (Elf fault) = 3
fault_status (Script number) = 4
fault_status Read = 5
fault_status Memory = 7
fault_status Big = 8
fault_status (Guest number) = 9
