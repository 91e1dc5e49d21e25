use Rattle.std.proofs.Common.{◌∙◌}
use Rattle.std.specs.Prelude.{[], None, slice_index_or}
use Rattle.drawings.specs.Drawings.{aim_of, current}
use Rattle.drawings.proofs.TurnSights.{quiet_turn}
use Rattle.drawings.proofs.drawing.Drawing.busy_turn_at.Goals as goal

pub returns-else-sight : goal.returns-else-sight
returns-else-sight g c =
    let scene = g.H.Harts.scene c.args.harts.now in
    let d = c.args.self.now in
    let h = c.args.hart in
    c.turn_with.ensures
    ∙ quiet_turn (current d) c.args.sight.now (scene.traps h) [] (slice_index_or d.ran h None) (aim_of d h) c.args.word.0 c.if-sight.false
