-- The laws that crates above cite.
pub use Rattle.chooser.proofs.Credits.{pick-small_credit, pick-credit_by_word, pick-lower_credit, pick-credit_executes}
pub use Rattle.chooser.proofs.Draws.{pick-same, after_pick-settled, after_pick-own, after_pick-other}
pub use Rattle.chooser.proofs.Picks.{each_pick, on_word}
