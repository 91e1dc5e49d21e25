-- The laws that crates above cite: when two ends are one.
pub use Rattle.found_outcomes.proofs.SameEnds.{end_is, end_same}
