-- A sink that never fails takes the whole line of want of memory, at its status.
use Rattle.std.proofs.Common.{◌≡◌, inl, inr, ℕ, List, Option, Err, arith}
use Rattle.std.proofs.lemmas.Option.{IfSome_then}
use Rattle.call_reasons.specs.declared.faults.Fault.TheVariants.{Memory}
use Rattle.outcomes.specs.Answers.{IsTold}
use Rattle.main_call.proofs.NeverFailing.{sure_of}
use Rattle.main_call.proofs.sure.sure_quiet.Goals as goal

seven : (old new : Option (List ℕ)) (status : ℕ) → IsTold old new 0 0 (Err Memory) status → status ≡ 7
seven old new status (inl written) = written.status
seven old new status (inr cut) = absurd (omega (arith, cut.rose (omega arith)))

pub returns-clause-run : goal.returns-clause-run
returns-clause-run c = λ is.
    IfSome_then c.rseq_quiet.result (c.rseq_quiet.ensures.run is) (λ status told. seven _ _ status told)

pub returns-clause-outcome : goal.returns-clause-outcome
returns-clause-outcome c =
    IfSome_then c.rseq_quiet.result c.rseq_quiet.ensures.outcome
    (λ status outcome. sure_of _ _ _ _ _ status outcome)
