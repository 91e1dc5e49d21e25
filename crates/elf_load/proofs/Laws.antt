-- The laws that crates above cite.
pub use Rattle.elf_load.proofs.Lists.{rises}
pub use Rattle.elf_load.proofs.NoFault.{AreNone, HasNoFault, are_none, fault-of_frames, has_no_fault}
pub use Rattle.elf_load.proofs.Positions.{first_overlap-none, position-at, position-never, position-none}
