-- The laws that crates above cite.
pub use Rattle.drawn_runs.proofs.Able.{exec_free}
pub use Rattle.drawn_runs.proofs.Allowed.{drawing_is_for, drawn_is_allowed}
pub use Rattle.drawn_runs.proofs.Logs.{drawn_more, drawn_start}
pub use Rattle.drawn_runs.proofs.OneRun.{goes_on_alike}
pub use Rattle.drawn_runs.proofs.Work.{drawn_where_open}
