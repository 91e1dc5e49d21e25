use Rattle.std.proofs.Common.{ap}
use Rattle.log_gather.specs.Turns.{inside_in}
use Rattle.log_gather.proofs.MarkedTurns.{kept_marks, moved_marks, span_eight, span_known}
use Rattle.log_gather.proofs.turns.take_turn.Goals as goal

pub move_others-requires-clause-eight : goal.move_others-requires-clause-eight
move_others-requires-clause-eight c =
    span_eight c.args.details.now c.args.from.now c.take_first.new.from c.in-Some.length c.take_first.ensures c.requires.eight

pub move_others-requires-clause-known : goal.move_others-requires-clause-known
move_others-requires-clause-known c =
    span_known c.args.details.now c.args.from.now c.take_first.new.from c.in-Some.length c.take_first.ensures c.requires.known

pub returns-in_ok-move_others-in-Some : goal.returns-in_ok-move_others-in-Some
returns-in_ok-move_others-in-Some c =
    moved_marks (inside_in c.args.inside_at_end.now) c.args.details.now c.move_others.new.details c.args.from.now c.take_first.new.from c.move_others.new.span _ _
    c.in_ok-length.field-0 c.in-Some.length c.requires.some c.take_first.ensures (ap (inside_in c.args.inside_at_end.now) c.from.ensures)
    c.in_ok-length.ensures c.in-Some.is c.requires.known c.in_ok-move_others-in-Some.ensures

pub returns-in-None : goal.returns-in-None
returns-in-None c =
    kept_marks (inside_in c.args.inside_at_end.now) c.args.details.now c.args.from.now c.take_first.new.from _ _ c.in_ok-length.field-0
    c.requires.some c.take_first.ensures (ap (inside_in c.args.inside_at_end.now) c.from.ensures) c.in_ok-length.ensures c.in-None.is c.requires.known
