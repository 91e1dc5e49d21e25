use Rattle.std.proofs.Common.{ℕ, Vec, Global, sym, ap, ◌∙◌, arith}
use Rattle.place_text.specs.Harts.{store_line, store_lines}
use Rattle.place_text.proofs.Lists.{all_items, item_step, none_within}
use Rattle.place_text.proofs.harts.push_stores.Goals as goal
use Rattle.place_text.proofs.harts.push_stores.Goals.{in-Some+in_ok-push_store, in_default}

pub loop-index-preserved : goal.loop-index-preserved
loop-index-preserved c =
    elim c.match-get.branch [
      | in-Some+in_ok-push_store w ↦
          item_step (store_line c.args.hart.0) _ _ _ c.args.buffer.now c.loop-index.index w.in-Some.store (sym c.get.ensures ∙ w.in-Some.is)
          c.loop-index.invariant (ap (λ (v : Vec ℕ Global). v.items) w.text-is ∙ w.in_ok-push_store.ensures)
      | in_default w ↦
          let past = none_within c.args.buffer.now c.loop-index.index (sym c.get.ensures ∙ w.in_default.is) in
          absurd (omega arith)
    ]

pub returns : goal.returns
unfolding store_lines
returns c =
    all_items (store_line c.args.hart.0) _ _ c.args.buffer.now c.loop-index.index (omega arith) c.loop-index.invariant
