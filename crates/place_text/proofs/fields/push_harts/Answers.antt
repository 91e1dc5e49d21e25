use Rattle.std.proofs.Common.{ℕ, ◌∷◌, ◌++◌, Vec, Global, sym, ap, ◌∙◌, arith}
use Rattle.std.specs.Fmt.{decimal}
use Rattle.step_log.specs.Text.{space}
use Rattle.place_text.proofs.HartSets.{hart_in, hart_out, all_harts}
use Rattle.place_text.proofs.fields.push_harts.Goals as goal
use Rattle.place_text.proofs.fields.push_harts.Goals.{then-is_in+in_ok-push_number, else-is_in}

pub loop-hart-preserved : goal.loop-hart-preserved
loop-hart-preserved c =
    elim c.if-is_in.branch [
      | then-is_in+in_ok-push_number w ↦
          hart_in c.args.set c.loop-hart.hart _ _ _ (sym c.is_in.ensures ∙ w.if-is_in.true) c.loop-hart.invariant
          (ap (λ (v : Vec ℕ Global). v.items) w.text-is ∙ w.in_ok-push_number.ensures
          ∙ ap (λ n. c.loop-hart.text.items ++ space ∷ decimal n) w.from.ensures)
      | else-is_in w ↦
          let out = hart_out c.args.set c.loop-hart.hart _ _ (sym c.is_in.ensures ∙ w.if-is_in.false) c.loop-hart.invariant in
          ap (λ (v : Vec ℕ Global). v.items) w.text-is ∙ out
    ]

pub returns : goal.returns
returns c = all_harts c.args.set c.loop-hart.hart _ _ c.if-set-eq0.false (omega arith) c.loop-hart.invariant
