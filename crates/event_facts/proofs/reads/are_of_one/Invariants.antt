use Rattle.std.proofs.Common.{◌≡◌}
use Rattle.std.specs.List.{list_all, range_with_len}
use Rattle.rv_inst.specs.Words.{sum_64}
use Rattle.event_facts.specs.Sources.{same_source}
use Rattle.event_facts.specs.Tied.{kept_source}
use Rattle.event_facts.proofs.reads.are_of_one.Given as goal

-- whether those so far come from where the first does
abbrev pub invariant-loop-k : goal.invariant-loop-k
invariant-loop-k l = l.one ≡ list_all (λ k. same_source (kept_source l.lines l.hart.0 (sum_64 l.at k)) (kept_source l.lines l.hart.0 l.at)) (range_with_len 0 l.k)
