use Rattle.std.proofs.Common.{◌≡◌, ◌∙◌, List, [], arith, length, refl, sym, ap, subst}
use Rattle.mach_types.specs.Limits.{InRange}
use Rattle.mach_types.specs.declared.events.Entry.{Entry}
use Rattle.block_model.specs.Run.{IsBlockRun}
use Rattle.block_model.specs.Setting.{Seen, Setting}
use Rattle.block_model.proofs.Laws.{start_run}
use Rattle.drawn_machine.proofs.DrawnSteps.{less_left, way_first}
use Rattle.drawn_machine.proofs.Inside.{counted_more, none_at_boot, small_count}
use Rattle.drawn_machine.proofs.Overtaking.{none_stored, stores_more}
use Rattle.drawn_machine.proofs.Waiting.{countable, hart_there, next_on, short_now, tracked_first, tracked_more}
use Rattle.drawn_machine.proofs.drawn_run.DrawnRun.go.Goals as goal

pub events-init : goal.events-init
events-init c =
    let m = c.args.self.now.machine in
    let empty : m.log ≡ [] = c.requires.start in
    record {
      setting = refl;
      way = way_first c.args.manner.now m c.first_drawing-drawing.result
          (subst (λ (log : List Entry). IsBlockRun m.setting log) (sym empty) (start_run m.setting))
          (c.requires.unscripted ∙ sym (ap (λ (log : List Entry). length log) empty)) c.first_drawing-drawing.ensures;
      inside = none_at_boot m empty;
      waits = tracked_first m c.new-waits.result.clocks c.new-waits.result.counts empty
          (omega (arith, c.requires.limits.eight_harts, c.new-waits.ensures.harts)) c.new-waits.ensures.clocks c.new-waits.ensures.counts;
      stores = c.clear.ensures ∙ none_stored m empty;
    }

pub draw_event-made-requires-clause-limits : goal.draw_event-made-requires-clause-limits
draw_event-made-requires-clause-limits c =
    subst (λ (s : Setting). InRange s.limits) (sym c.events.invariant.setting) c.requires.limits

pub draw_event-made-requires-clause-drawn : goal.draw_event-made-requires-clause-drawn
draw_event-made-requires-clause-drawn c = (c.args.manner.now, c.events.invariant.way)

pub overflow_add-self : goal.overflow_add-self
overflow_add-self c =
    let few = small_count c.events.self.machine c.events.self.left_inside c.draw_event-made.result.left_inside c.from.result
    (short_now c.args.manner.now c.args.self.now.machine.setting c.events.self.machine c.events.drawing c.events.invariant.setting
    c.requires.limits c.events.invariant.way)
    c.events.invariant.inside c.from.ensures in
    omega (arith, few)

pub waiting_on-waiting-requires : goal.waiting_on-waiting-requires
waiting_on-waiting-requires c =
    let next = next_on c.args.manner.now c.args.self.now.machine.setting c.events.self.machine c.draw_event-made.new.machine
    c.events.drawing c.draw_event-made.new.drawing c.draw_event-made.result.entry c.events.invariant.setting c.requires.limits
    c.draw_event-made.ensures.made c.draw_event-made.ensures.drawn c.events.invariant.way in
    hart_there c.events.self.machine c.draw_event-made.new.machine c.draw_event-made.result.entry next

pub count-requires : goal.count-requires
count-requires c =
    let next = next_on c.args.manner.now c.args.self.now.machine.setting c.events.self.machine c.draw_event-made.new.machine
    c.events.drawing c.draw_event-made.new.drawing c.draw_event-made.result.entry c.events.invariant.setting c.requires.limits
    c.draw_event-made.ensures.made c.draw_event-made.ensures.drawn c.events.invariant.way in
    let fine = countable c.events.self.machine c.draw_event-made.new.machine c.draw_event-made.result.entry c.events.waits.clocks
    c.events.waits.counts c.waiting_on-waiting.result next c.events.invariant.waits c.waiting_on-waiting.ensures.count in
    record {
      hart = fine.hart;
      instructions = fine.instructions;
      waiting = c.waiting_on-waiting.ensures.few;
      one = fine.one;
      few = fine.few;
    }

pub events-preserved : goal.events-preserved
events-preserved c =
    let next = next_on c.args.manner.now c.args.self.now.machine.setting c.events.self.machine c.draw_event-made.new.machine
    c.events.drawing c.draw_event-made.new.drawing c.draw_event-made.result.entry c.events.invariant.setting c.requires.limits
    c.draw_event-made.ensures.made c.draw_event-made.ensures.drawn c.events.invariant.way in
    record {
      setting = ap (λ (v : Seen). v.setting) c.draw_event-made.ensures.made ∙ c.events.invariant.setting;
      way = c.draw_event-made.ensures.drawn c.args.manner.now c.events.invariant.way;
      inside = counted_more c.events.self.machine c.draw_event-made.new.machine c.events.self.left_inside c.draw_event-made.result.entry
          c.draw_event-made.result.left_inside c.from.result c.from.ensures c.events.invariant.inside
          c.draw_event-made.ensures.inside c.draw_event-made.ensures.made;
      waits = tracked_more c.events.self.machine c.draw_event-made.new.machine c.draw_event-made.result.entry c.events.waits.clocks
          c.count.new.self.clocks c.events.waits.counts c.count.new.self.counts c.waiting_on-waiting.result next c.events.invariant.waits
          c.waiting_on-waiting.ensures.count c.in_ok-count.ensures.clocks c.in_ok-count.ensures.counts;
      stores = stores_more c.events.self.machine c.draw_event-made.new.machine c.draw_event-made.result.entry c.events.waits.clocks
          c.events.waits.counts c.waiting_on-waiting.result c.events.self.stores c.count.new.stores c.draw_event-made.result.overtakes next
          c.events.invariant.waits c.waiting_on-waiting.ensures.count c.events.invariant.stores c.draw_event-made.ensures.overtakes c.in_ok-count.ensures.stores;
    }

pub events-smaller : goal.events-smaller
events-smaller c =
    less_left c.args.manner.now c.events.self.machine c.draw_event-made.new.machine c.events.drawing c.draw_event-made.result.entry
    c.events.invariant.way (c.goes_on.ensures.0 c.events-test.true) c.draw_event-made.ensures.made
