-- For crates above that answer a call themselves: what a command of membarrier(2) and a refusal come to, and what the registers ask.
pub use Rattle.sys_calls.proofs.Barriers.{begins_only_beside, made_answers}
pub use Rattle.sys_calls.proofs.CallAnswers.{made_refused}
pub use Rattle.sys_calls.proofs.GuestMemory.{argument_is, int_argument_is}
