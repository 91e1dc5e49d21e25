-- The call by its number.
use Rattle.shared_procs.proofs.Common.{inr, sym, ◌∙◌, here_at}
use Rattle.shared_procs.proofs.PairCalls.{number_read}
use Rattle.shared_procs.proofs.pair_calls.outside_call.Goals as goal

pub call_membarrier-requires-clause-number : goal.call_membarrier-requires-clause-number
call_membarrier-requires-clause-number c v t place at =
    let read = number_read (here_at v c.args.hart.0) t c.call_number-number.result c.saved_of.result c.call_number-number.ensures (c.saved_of.ensures v t place at) in
    (c.requires.outside v t place at, sym read ∙ c.if-number-eq-MEMBARRIER.true)

pub refuse_rseq-requires-clause-number : goal.refuse_rseq-requires-clause-number
refuse_rseq-requires-clause-number c v t place at =
    let read = number_read (here_at v c.args.hart.0) t c.call_number-number.result c.saved_of.result c.call_number-number.ensures (c.saved_of.ensures v t place at) in
    (c.requires.outside v t place at, sym read ∙ c.if-number-eq-RSEQ.true)

pub own_call-requires-clause-own : goal.own_call-requires-clause-own
own_call-requires-clause-own c v t place at =
    let read = number_read (here_at v c.args.hart.0) t c.call_number-number.result c.saved_of.result c.call_number-number.ensures (c.saved_of.ensures v t place at) in
    inr (c.requires.outside v t place at, λ is. c.if-number-eq-MEMBARRIER.false (read ∙ is), λ is. c.if-number-eq-RSEQ.false (read ∙ is))
