use Rattle.std.proofs.Common.{ℕ, [], ◌∷◌, ◌++◌, ◌∙◌, ap, codes}
use Rattle.std.specs.Fmt.{decimal}
use Rattle.run_texts.specs.Summary.{form_fields}
use Rattle.place_text.specs.Fields.{behind}
use Rattle.step_log.specs.Text.{newline}
use Rattle.traced_runs.proofs.LineParts.{three_parts}
use Rattle.traced_runs.proofs.sequences.push_end.Goals as goal

pub returns : goal.returns
returns c =
    let act = c.args.act in
    three_parts c.args.text.now.items (codes "  sequence ends") (newline ∷ []) _ _ _ _ _ (form_fields act.form) (codes "first" ∷ decimal act.first ∷ [])
    (codes "last" ∷ decimal act.last ∷ []) c.in_ok-extend_from_slice.ensures.items c.in_ok-push_form.ensures
    (c.in_ok-push_named_number.ensures ∙ ap (λ (n : ℕ). c.push_form.new.text.items ++ behind (codes "first" ∷ decimal n ∷ [])) c.from.ensures)
    (c.in_ok-push_named_number-2.ensures ∙ ap (λ (n : ℕ). c.push_named_number.new.text.items ++ behind (codes "last" ∷ decimal n ∷ [])) c.from-2.ensures)
    c.in_ok-push.ensures.items
