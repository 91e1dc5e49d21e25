use Rattle.std.proofs.Common.{◌∙◌, sym, subst}
use Rattle.block_model.specs.Setting.{Seen}
use Rattle.drawn_machine.specs.OnTheWay.{IsOnItsWay}
use Rattle.drawn_machine.proofs.DrawnSteps.{IsDrawnNext, is_for, never_refused, of_its_machine, some_event, way_more}
use Rattle.drawn_machine.proofs.SeenScenes.{are_listed}
use Rattle.drawn_machine.proofs.drawn_run.draw_next.Goals as goal

pub invariant_of-next_drawn : goal.invariant_of-next_drawn
invariant_of-next_drawn c =
    let way = c.requires.drawn in
    record { few = c.requires.limits.eight_harts; listed = are_listed c.args.machine.now way.1.block_run }

pub next_drawn-requires-clause-harts : goal.next_drawn-requires-clause-harts
next_drawn-requires-clause-harts c =
    let way = c.requires.drawn in is_for way.0 c.args.machine.now c.args.drawing.now c.requires.limits way.1

pub unreachable-requires : goal.unreachable-requires
unreachable-requires c =
    let way = c.requires.drawn in
    some_event way.0 c.args.machine.now c.args.drawing.now c.next_drawn.result c.requires.limits way.1 c.requires.unended c.next_drawn.ensures.event
    c.in_default.is

pub leaves_inside-left_inside-requires-clause-hart : goal.leaves_inside-left_inside-requires-clause-hart
leaves_inside-left_inside-requires-clause-hart c =
    let way = c.requires.drawn in
    of_its_machine way.0 c.args.machine.now c.args.drawing.now c.in-Some.event (record {
      range = c.requires.limits;
      way = way.1;
      unended = c.requires.unended;
      drawn = sym c.in-Some.is ∙ c.next_drawn.ensures.event;
    })

pub unreachable-requires-in-Err : goal.unreachable-requires-in-Err
unreachable-requires-in-Err c =
    let way = c.requires.drawn in
    let next : IsDrawnNext way.0 c.args.machine.now c.args.drawing.now c.in-Some.event = record {
      range = c.requires.limits;
      way = way.1;
      unended = c.requires.unended;
      drawn = sym c.in-Some.is ∙ c.next_drawn.ensures.event;
    } in
    never_refused way.0 c.args.machine.now c.args.drawing.now c.in-Some.event c.in-Err.field-0 next (sym c.in-Err.is ∙ c.step.ensures.answer)

pub returns-clause-drawn : goal.returns-clause-drawn
returns-clause-drawn c m way =
    let next : IsDrawnNext m c.args.machine.now c.args.drawing.now c.in-Some.event = record {
      range = c.requires.limits;
      way = way;
      unended = c.requires.unended;
      drawn = sym c.in-Some.is ∙ c.next_drawn.ensures.event;
    } in
    subst (λ (v : Seen). IsOnItsWay m v c.next_drawn.new.self) (sym c.in-Ok.ensures.ok)
    (way_more m c.args.machine.now c.args.drawing.now c.next_drawn.new.self c.in-Some.event c.in-Ok.entry next c.next_drawn.ensures.kept
    (sym c.in-Ok.is ∙ c.step.ensures.answer))

pub overtakes-overtakes-requires : goal.overtakes-overtakes-requires
overtakes-overtakes-requires c =
    let way = c.requires.drawn in
    of_its_machine way.0 c.args.machine.now c.args.drawing.now c.in-Some.event (record {
      range = c.requires.limits;
      way = way.1;
      unended = c.requires.unended;
      drawn = sym c.in-Some.is ∙ c.next_drawn.ensures.event;
    })
