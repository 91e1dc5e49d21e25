use Rattle.std.proofs.Common.{◌≡◌, true, false, lit<, is_some, rules}
use Rattle.std.proofs.lemmas.Iterator.{cases_from_all}
use Rattle.std.proofs.lemmas.Iterator.Splits.{YieldsList-from_str_split}
use Rattle.command_words.specs.Spans.{parts_of, span_of}
use Rattle.command_words.proofs.SpanTexts.{test_of_all}
use Rattle.command_words.proofs.spans.are_spans.Goals as goal

pub returns : goal.returns
returns c =
    let parts =
    YieldsList-from_str_split 44 c.args.text.now (lit< tt) c.split.ensures.text c.split.ensures.has_more c.split.ensures.pattern
    in
    test_of_all (λ part. is_some (span_of part)) (parts_of c.args.text.now) c.all.result
    (cases_from_all _ _ _ (λ part. is_some (span_of part) ≡ true) (λ part. is_some (span_of part) ≡ false) c.all.ensures.ran parts
    (λ x q k. search rules) (λ x q k. search rules))
