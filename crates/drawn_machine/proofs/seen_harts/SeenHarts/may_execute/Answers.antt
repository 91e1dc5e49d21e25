use Rattle.std.proofs.Common.{◌∙◌}
use Rattle.block_model.specs.Deciding.{history}
use Rattle.block_model.specs.History.{here_in_history}
use Rattle.drawn_machine.proofs.SeenScenes.{drained_goes}
use Rattle.drawn_machine.proofs.seen_harts.SeenHarts.may_execute.Goals as goal

pub returns-then-is_drained : goal.returns-then-is_drained
returns-then-is_drained c =
    let m = c.args.self.now.machine.now in
    c.if-is_drained.true
    ∙ drained_goes (here_in_history m.setting (history m.setting m.log) c.args.hart.0) c.hart-state.result.now _ _ _ c.is_idle.result
    c.is_some.result c.hart-state.ensures c.is_idle.ensures c.if-is_idle.false c.is_some.ensures c.if-is_some.false c.if-is_drained.ensures
    c.requires
