use Rattle.std.proofs.Common.{arith}
use Rattle.drawings.proofs.Draws.{hart_drawn}
use Rattle.drawings.proofs.drawing.Drawing.next_by_word.Goals as goal

pub turn_at-requires-clause-hart : goal.turn_at-requires-clause-hart
turn_at-requires-clause-hart g c =
    (hart_drawn (g.H.Harts.scene c.args.harts.now) c.args.self.now _ c.in_ok-hart.hart c.requires c.in_ok-hart.ensures).0

pub turn_at-requires-clause-able : goal.turn_at-requires-clause-able
turn_at-requires-clause-able g c =
    (hart_drawn (g.H.Harts.scene c.args.harts.now) c.args.self.now _ c.in_ok-hart.hart c.requires c.in_ok-hart.ensures).1

pub take_turn-requires : goal.take_turn-requires
take_turn-requires g c =
    let there = (hart_drawn (g.H.Harts.scene c.args.harts.now) c.args.self.now _ c.in_ok-hart.hart c.requires c.in_ok-hart.ensures).0 in
    omega (arith, there, c.requires.few)
