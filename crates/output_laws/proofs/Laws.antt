-- The laws that crates above cite: an output has no cause of a fault beside it, a fault that is due has no other, and
-- an output is the plain machine's too; and each log of a run is one of a block run.
pub use Rattle.output_laws.proofs.Exclusions.{Leaves, fault_when_good, left_by_bad_line, left_by_big, left_by_faulty, left_by_outside, status_left, unused_when_bad_line, unused_when_big, unused_when_faulty, unused_when_outside, used_by_output}
pub use Rattle.output_laws.proofs.Judgements.{judged_output}
pub use Rattle.output_laws.proofs.PlainOutputs.{plain_output_of}
pub use Rattle.output_laws.proofs.Repeats.{block_run_of}
