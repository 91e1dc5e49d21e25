-- The laws that crates above cite: at each place of a pair run each process that goes on stands, and the numbers of its entries fit
-- the types that they have in the program.
pub use Rattle.shared_procs.proofs.EntryWidths.{AreSmall, IsNarrow, all_narrow}
pub use Rattle.shared_procs.proofs.Settled.{AreStanding, IsDecided, decided as decided_two, settled, standing_of}
