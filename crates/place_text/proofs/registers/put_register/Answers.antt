use Rattle.std.proofs.Common.{List, ℕ, [], ◌∷◌, ◌++◌, ◌∙◌, ap, append_assoc, arith, get_or, sym}
use Rattle.std.proofs.lemmas.List.{get_or_past}
use Rattle.std.specs.Fmt.{decimal}
use Rattle.step_log.specs.Text.{space}
use Rattle.place_text.specs.Registers.{register_names}
use Rattle.place_text.proofs.registers.put_register.Goals as goal

pub returns-in-None-clause-text : goal.returns-in-None-clause-text
unfolding register_names
returns-in-None-clause-text c =
    let n = c.args.number in
    let line = c.args.line.now in
    let no_name = get_or_past register_names n [] (omega (arith, c.in-None.ensures.none)) in
    let name_is = c.put.ensures.text ∙ ap (λ (name : List ℕ). space ∷ (name ++ []) ++ line) (sym no_name) in
    let behind_x = c.put_decimal.ensures.text ∙ (λ i. decimal (c.from.ensures i) ++ name_is i) in
    let regroup = sym (append_assoc (decimal n) (space ∷ (get_or register_names n [] ++ [])) line) in
    c.put-in-None.ensures.text ∙ ap (λ (l : List ℕ). space ∷ 120 ∷ l) (behind_x ∙ regroup)
