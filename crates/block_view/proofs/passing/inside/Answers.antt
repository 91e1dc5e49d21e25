use Rattle.std.proofs.Common.{◌∙◌, sym}
use Rattle.std.proofs.lemmas.Bool.{eqb-true}
use Rattle.block_model.specs.Deciding.{history}
use Rattle.block_view.proofs.SeenInside.{none_inside}
use Rattle.block_view.proofs.passing.inside.Goals as goal

pub returns-then-is_empty : goal.returns-then-is_empty
returns-then-is_empty c =
    let m = c.args.machine.now in
    let none = eqb-true _ 0 (sym c.is_empty.ensures ∙ c.if-is_empty.true) in
    none_inside m.setting c.args.hart.0 (history m.setting m.log) _ c.kernel.result.now.areas.items c.kernel.ensures.areas none
