use Rattle.std.proofs.Common.{◌≡◌, ◌∙◌, ◌∷◌, ◌++◌, [], List, ℕ, ap, refl, take, arith}
use Rattle.log_lines.proofs.LineParts.{four_written}
use Rattle.log_lines.specs.LineParts.{tail_text}
use Rattle.log_lines.proofs.fronts.end_line.Goals as goal

pub returns-clause-items : goal.returns-clause-items
returns-clause-items c =
    let text = c.args.text.now.items in
    let tail : c.digit.result ∷ c.digit-2.result ∷ c.digit-3.result ∷ 10 ∷ [] ≡ tail_text c.args.pc = rw (c.digit.ensures, c.digit-2.ensures, c.digit-3.ensures) refl in
    c.truncate.ensures.items ∙ four_written text c.args.at c.digit.result c.digit-2.result c.digit-3.result 10 (omega (arith, c.requires, c.args.text.now.ok))
    ∙ ap (λ (more : List ℕ). take c.args.at text ++ more) tail
