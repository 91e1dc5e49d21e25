use Rattle.std.proofs.Common.{sym, subst}
use Rattle.mach_types.specs.Limits.{InRange}
use Rattle.block_model.specs.Setting.{Setting}
use Rattle.drawn_machine.proofs.DrawnSteps.{behind_first, behind_more, less_left, way_first}
use Rattle.drawn_machine.proofs.drawn_run.draw_on.Goals as goal

pub events-init : goal.events-init
events-init c = record {
  behind = behind_first c.args.machine.now;
  way = way_first c.args.manner.now c.args.machine.now c.first_drawing-drawing.result c.requires.block_run c.requires.scripted
      c.first_drawing-drawing.ensures;
}

pub draw_event-requires-clause-limits : goal.draw_event-requires-clause-limits
draw_event-requires-clause-limits c =
    subst (λ (s : Setting). InRange s.limits) (sym c.events.invariant.behind.setting) c.requires.limits

pub draw_event-requires-clause-drawn : goal.draw_event-requires-clause-drawn
draw_event-requires-clause-drawn c = (c.args.manner.now, c.events.invariant.way)

pub events-preserved : goal.events-preserved
events-preserved c = record {
  behind = behind_more c.args.machine.now.setting c.args.machine.now.log c.events.machine c.draw_event.new.machine
      c.draw_event.result.entry c.draw_event.ensures.made c.events.invariant.behind;
  way = c.draw_event.ensures.drawn c.args.manner.now c.events.invariant.way;
}

pub events-smaller : goal.events-smaller
events-smaller c =
    less_left c.args.manner.now c.events.machine c.draw_event.new.machine c.events.drawing c.draw_event.result.entry
    c.events.invariant.way (c.goes_on.ensures.0 c.events-test.true) c.draw_event.ensures.made
