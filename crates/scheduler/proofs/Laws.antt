-- The laws that crates above cite.
pub use Rattle.scheduler.proofs.OtherHarts.{affinity_of-changed}
