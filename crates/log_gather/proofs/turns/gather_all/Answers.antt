use Rattle.std.proofs.Common.{refl, ap, ◌<◌, ◌+◌, ◌-◌, length, ◌∙◌, arith, rules}
use borrow.Rule.Slice.PartMut.{same_len_mid}
use Rattle.std.proofs.lemmas.Grind.{common_steps}
use Rattle.std.proofs.lemmas.List.{length-drop}
use Rattle.log_gather.specs.Marks.{steps_of}
use Rattle.log_gather.specs.Turns.{inside_in}
use Rattle.log_gather.proofs.MarkedTurns.{next_low, none_next, rest_eight, rest_known, turn_of_marks}
use Rattle.log_gather.proofs.TurnsTaken.{all_had_turns, eight_of, rightly_of, to_end}
use Rattle.log_gather.proofs.turns.gather_all.Goals as goal

pub overflow_add-from : goal.overflow_add-from
overflow_add-from c =
    let low : c.loop-next.from + c.in-Some.next < length c.loop-next.marks =
    next_low c.loop-next.details c.loop-next.marks c.loop-next.from c.in-Some.next c.loop-next.invariant.within c.in-Some.ensures in
    first_of (omega arith, search rules, grind (arith, common_steps))

pub offset_bounds-marks-from-in-Some : goal.offset_bounds-marks-from-in-Some
offset_bounds-marks-from-in-Some c =
    let low : c.loop-next.from + c.in-Some.next < length c.loop-next.marks =
    next_low c.loop-next.details c.loop-next.marks c.loop-next.from c.in-Some.next c.loop-next.invariant.within c.in-Some.ensures in
    first_of (omega arith, search rules, grind (arith, common_steps))

pub slice_bounds-take_turn-count : goal.slice_bounds-take_turn-count
slice_bounds-take_turn-count c =
    let low : c.loop-next.from + c.in-Some.next < length c.loop-next.marks =
    next_low c.loop-next.details c.loop-next.marks c.loop-next.from c.in-Some.next c.loop-next.invariant.within c.in-Some.ensures in
    first_of (omega arith, search rules, grind (arith, common_steps))

pub slice_bounds-take_turn-start : goal.slice_bounds-take_turn-start
slice_bounds-take_turn-start c =
    let low : c.loop-next.from + c.in-Some.next < length c.loop-next.marks =
    next_low c.loop-next.details c.loop-next.marks c.loop-next.from c.in-Some.next c.loop-next.invariant.within c.in-Some.ensures in
    first_of (omega arith, search rules, grind (arith, common_steps))

pub take_turn-requires-clause-some : goal.take_turn-requires-clause-some
take_turn-requires-clause-some c =
    let f = c.loop-next.from + c.in-Some.next in
    let low : f < length c.loop-next.marks =
    next_low c.loop-next.details c.loop-next.marks c.loop-next.from c.in-Some.next c.loop-next.invariant.within c.in-Some.ensures in
    omega (arith, low, ap length (to_end f c.loop-next.marks), length-drop f c.loop-next.marks)

pub take_turn-requires-clause-eight : goal.take_turn-requires-clause-eight
take_turn-requires-clause-eight c = rest_eight c.loop-next.details c.loop-next.marks (c.loop-next.from + c.in-Some.next) c.loop-next.invariant.eight

pub take_turn-requires-clause-known : goal.take_turn-requires-clause-known
take_turn-requires-clause-known c = rest_known c.loop-next.details c.loop-next.marks (c.loop-next.from + c.in-Some.next) c.loop-next.invariant.known

pub loop-next-smaller : goal.loop-next-smaller
loop-next-smaller c =
    let i = c.loop-next.invariant in
    (turn_of_marks (inside_in c.args.inside_at_end.now) c.loop-next.details c.take_turn.new.details c.loop-next.marks c.take_turn.new.from c.loop-next.from c.in-Some.next
    i.within i.past i.eight i.right i.known c.in-Some.ensures c.in_ok-take_turn.ensures).turn.fewer

pub loop-next-preserved : goal.loop-next-preserved
loop-next-preserved c =
    let i = c.loop-next.invariant in
    let t = turn_of_marks (inside_in c.args.inside_at_end.now) c.loop-next.details c.take_turn.new.details c.loop-next.marks c.take_turn.new.from c.loop-next.from c.in-Some.next
    i.within i.past i.eight i.right i.known c.in-Some.ensures c.in_ok-take_turn.ensures in
    let long = same_len_mid (c.loop-next.from + c.in-Some.next) (length c.loop-next.marks - (c.loop-next.from + c.in-Some.next)) c.loop-next.marks c.take_turn.new.from c.take_turn.auto.from in
    let low = next_low c.loop-next.details c.loop-next.marks c.loop-next.from c.in-Some.next i.within c.in-Some.ensures in
    record {
      long = long ∙ i.long;
      within = omega (arith, long, low);
      past = t.turn.past;
      eight = t.turn.eight;
      right = t.turn.right;
      known = t.known;
      stays = t.turn.stays ∙ i.stays;
    }

pub returns : goal.returns
returns c =
    let i = c.loop-next.invariant in
    all_had_turns (inside_in c.args.inside_at_end.now) (steps_of c.loop-next.details c.loop-next.marks) c.loop-next.from i.past
    (none_next c.loop-next.details c.loop-next.marks c.loop-next.from c.next_turn.result c.next_turn.ensures c.in_default.is)
    ∙ i.stays

pub loop-next-init : goal.loop-next-init
loop-next-init c = record {
  long = refl;
  within = omega arith;
  past = refl;
  eight = eight_of (steps_of c.args.details.now c.args.marks.now) c.requires.eight;
  right = rightly_of (steps_of c.args.details.now c.args.marks.now) c.requires.awaits;
  known = c.requires.known;
  stays = refl;
}
