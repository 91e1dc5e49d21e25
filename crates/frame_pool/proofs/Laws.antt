-- The laws that crates above cite.
pub use Rattle.frame_pool.proofs.Counting.{free_count-giving, free_count-taking, free_count-writing}
pub use Rattle.frame_pool.proofs.Fresh.{fresh-at, length-fresh}
pub use Rattle.frame_pool.proofs.Held.{AreHeld-apart, AreHeld-at, AreHeld-last, AreHeld-of, AreHeld-push, AreHeld-write}
pub use Rattle.frame_pool.proofs.Holding.{IsTaken-apart, IsTaken-here, IsTaken-other}
pub use Rattle.frame_pool.proofs.Places.{slice_get-append_left, slice_get-set_other, slice_get-set_same}
pub use Rattle.frame_pool.proofs.Zeroing.{AreHeld-zeroed, free_count-zeroed, zeroed-at}
