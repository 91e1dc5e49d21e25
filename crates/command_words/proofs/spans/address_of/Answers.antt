use Rattle.std.proofs.Common.{◌≤◌, ◌∙◌, length, sym, arith}
use Rattle.std.proofs.lemmas.Bool.Decides.{nat_tests}
use Rattle.command_words.proofs.Addresses.{address_parsed}
use Rattle.command_words.proofs.spans.address_of.Goals as goal

pub returns-then-is_hexadecimal : goal.returns-then-is_hexadecimal
returns-then-is_hexadecimal c =
    let some : 1 ≤ length c.args.text.now = grind (arith, nat_tests) in
    c.ok.ensures.value
    ∙ address_parsed c.args.text.now c.from_str_radix.result c.from_str_radix.ensures.value some (omega arith)
    (sym c.is_hexadecimal.ensures ∙ c.if-is_hexadecimal.true)
