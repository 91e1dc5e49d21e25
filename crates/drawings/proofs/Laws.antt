-- The laws that crates above cite.
pub use Rattle.drawings.proofs.Draws.{draw-allowed, draw-comes, draw-ready}
pub use Rattle.drawings.proofs.OwnSignals.{draw-aims, draw-behind, draw-keeps, draw-signal, draw-within}
pub use Rattle.drawings.proofs.Shapes.{ByTurn, IsDrawnBy, OnCredit, draw-shape}
