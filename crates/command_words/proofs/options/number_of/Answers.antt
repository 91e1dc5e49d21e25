use Rattle.std.proofs.Common.{◌≤◌, ◌∙◌, length, sym, arith}
use Rattle.std.proofs.lemmas.Bool.Decides.{nat_tests}
use Rattle.command_words.proofs.Numbers.{number_parsed}
use Rattle.command_words.proofs.options.number_of.Goals as goal

pub returns-then-is_decimal : goal.returns-then-is_decimal
returns-then-is_decimal c =
    let some : 1 ≤ length c.args.text.now = grind (arith, nat_tests) in
    c.ok.ensures.value
    ∙ number_parsed c.args.text.now c.parse.result c.parse.ensures.value.0 some (omega arith)
    (sym c.is_decimal.ensures ∙ c.if-is_decimal.true)
