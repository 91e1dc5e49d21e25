-- The bytes at which the check of an area looks (rseq(2); uapi linux/rseq.h), as ranges of memory.
use Rattle.std.specs.Prelude.{ℕ, ◌+◌, List, [], ◌∷◌, ◌++◌, Option, Some, None}
use Rattle.mach_types.specs.declared.sequences.Area.{Area}
use Rattle.mach_types.specs.declared.sequences.TheConstants.{DESCRIPTOR_SIZE, FLAGS, RSEQ_CS}
use Rattle.rseq_area.specs.Lookups.{looked_at}
use Rattle.rseq_area.specs.declared.lookups.Lookups.{Lookups}
use Rattle.rv_inst.specs.Accesses.{Bytes, bytes}

-- so many bytes from an address on, if there is one
abbrev pub bytes_if : Option ℕ → ℕ → List Bytes
bytes_if None n = []
bytes_if (Some at) n = bytes at n ∷ []

-- the pointer and the flags of an area; its descriptor and the word before its abort handler, where the check comes to them
abbrev pub bytes_looked_at : Lookups → List Bytes
bytes_looked_at l =
    bytes (l.area + RSEQ_CS) 8 ∷ bytes (l.area + FLAGS) 4 ∷ (bytes_if l.descriptor DESCRIPTOR_SIZE ++ bytes_if l.signature 4)

abbrev pub looked_over : (ℕ → Option ℕ) → Area → List Bytes
looked_over byte area = bytes_looked_at (looked_at byte area)
