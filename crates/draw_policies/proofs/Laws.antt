-- The laws that crates above cite.
pub use Rattle.draw_policies.proofs.Allowed.{place_among-below, turn-allowed, turn-comes}
pub use Rattle.draw_policies.proofs.OwnSignals.{same-traps, signal-drains, signal-meant, signal-next}
