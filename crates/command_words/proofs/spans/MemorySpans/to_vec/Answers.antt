use Rattle.std.proofs.Common.{List, Some, sym, subst}
use Rattle.std.specs.List.{All}
use Rattle.std.proofs.lemmas.Result.{IfOk-weaker}
use Rattle.command_words.specs.declared.spans.MemorySpan.{MemorySpan}
use Rattle.command_words.proofs.SpanTexts.{EndsInTime, given_end}
use Rattle.command_words.proofs.spans.MemorySpans.to_vec.Goals as goal

pub returns-in-Some-clause-end : goal.returns-in-Some-clause-end
returns-in-Some-clause-end c =
    IfOk-weaker c.spans_in.result _ _
    (λ spans is. subst (λ (xs : List MemorySpan). All EndsInTime xs) (sym is) (given_end (Some c.in-Some.text.now)))
    c.spans_in.ensures
