-- The laws that crates above cite.
pub use Rattle.process.proofs.Laws.{code_enough}
