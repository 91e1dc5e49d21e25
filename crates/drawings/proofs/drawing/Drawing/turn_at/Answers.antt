use Rattle.std.proofs.Common.{◌∙◌}
use Rattle.std.specs.Prelude.{[], None, slice_index_or}
use Rattle.drawings.specs.Drawings.{aim_of, current}
use Rattle.drawings.specs.Scenes.{startable}
use Rattle.drawings.proofs.TurnSights.{busy_turn, idle_turn_same, same_turn}
use Rattle.drawings.proofs.drawing.Drawing.turn_at.Goals as goal

pub returns-then-sight : goal.returns-then-sight
returns-then-sight g c =
    let scene = g.H.Harts.scene c.args.harts.now in
    let d = c.args.self.now in
    let h = c.args.hart in
    let seen = c.look-sight.result in
    let threads = startable d.opened h scene.scheduling in
    let ran = slice_index_or d.ran h None in
    c.idle_turn_at.ensures ∙ idle_turn_same (current d) seen (scene.traps h) threads ran (aim_of d h) c.args.word.0 c.if-sight.true
    ∙ same_turn (current d) seen (scene.sight h) (scene.traps h) threads ran (aim_of d h) c.args.word.0 c.look-sight.ensures

pub returns-else-sight : goal.returns-else-sight
returns-else-sight g c =
    let scene = g.H.Harts.scene c.args.harts.now in
    let d = c.args.self.now in
    let h = c.args.hart in
    let seen = c.look-sight.result in
    let threads = startable d.opened h scene.scheduling in
    let ran = slice_index_or d.ran h None in
    c.busy_turn_at.ensures ∙ busy_turn (current d) seen (scene.traps h) [] threads ran (aim_of d h) c.args.word.0 c.if-sight.false
    ∙ same_turn (current d) seen (scene.sight h) (scene.traps h) threads ran (aim_of d h) c.args.word.0 c.look-sight.ensures
