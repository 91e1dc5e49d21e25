-- The laws that crates above cite.
pub use Rattle.same_places.proofs.Carried.{free_answer}
pub use Rattle.same_places.proofs.Ends.{same_applied}
pub use Rattle.same_places.proofs.FreeSteps.{IsAllowed, allowed}
pub use Rattle.same_places.proofs.Kept.{has_kept}
pub use Rattle.same_places.proofs.Searched.{same_itself}
pub use Rattle.same_places.proofs.Transfers.{recounted, same_but_counts, same_recounted, same_same, same_tied}
