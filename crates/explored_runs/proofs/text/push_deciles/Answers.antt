use Rattle.std.proofs.Common.{◌<◌, ℕ, List, ◌∷◌, ◌++◌, length, map, take, append_assoc, sym, ap, ◌∙◌, arith}
use Rattle.place_text.specs.Fields.{behind}
use Rattle.step_log.specs.Text.{space}
use Rattle.explored_runs.specs.Deciles.{decile}
use Rattle.explored_runs.specs.Text.{wait_field}
use Rattle.explored_runs.specs.declared.deciles.TheConstants.{TENTHS}
use Rattle.explored_runs.proofs.Fields.{fields_more}
use Rattle.explored_runs.proofs.text.push_deciles.Goals as goal

pub loop-tenths-preserved : goal.loop-tenths-preserved
loop-tenths-preserved c =
    let i = c.loop-tenths.tenths-index in
    let below : i < length TENTHS = omega (arith, c.loop-tenths-test.true) in
    let first = c.args.text.now.items in
    let fields = behind (map wait_field (map (decile c.args.waits.now) (take i TENTHS))) in
    c.in_ok-push_wait.ensures
    ∙ ap (λ (text : List ℕ). text ++ (space ∷ wait_field c.decile.result)) c.loop-tenths.invariant
    ∙ append_assoc first fields (space ∷ wait_field c.decile.result)
    ∙ ap (λ (text : List ℕ). first ++ text)
    (ap (λ (n : ℕ). fields ++ (space ∷ wait_field n)) c.decile.ensures
    ∙ sym (fields_more wait_field (decile c.args.waits.now) TENTHS i below))
