-- Where the last hart doesn't go on by its credit nothing has changed, and the next event is drawn.
use Rattle.std.proofs.Common.{◌≡◌, ◌++◌, ◌∷◌, [], ◌∙◌, ap, false, sym, subst}
use Rattle.mach_types.specs.Limits.{InRange}
use Rattle.mach_types.specs.declared.limits.End.TheVariants.{Unended}
use Rattle.drawings.specs.Drawings.{goes_on}
use Rattle.drawings.specs.declared.drawing.Drawing.{Drawing}
use Rattle.block_model.specs.Deciding.{end_of, history}
use Rattle.block_model.specs.Setting.{Seen}
use Rattle.drawn_machine.specs.OnTheWay.{GoesOn, IsOnAWay}
use Rattle.drawn_machine.specs.Overtaken.{overtakes}
use Rattle.drawn_machine.specs.Preemptions.{leaves_inside}
use Rattle.drawn_machine.specs.Scenes.{scene_of}
use Rattle.drawn_machine.proofs.Inside.{none_leaves}
use Rattle.drawn_machine.proofs.drawn_run.draw_event.Goals as goal

pub returns-in-Some-clause-inside : goal.returns-in-Some-clause-inside
returns-in-Some-clause-inside c =
    let m = c.args.machine.now in none_leaves m.setting (history m.setting m.log) c.in-Some.entry c.in-Some.ensures.kind

pub draw_next-requires-clause-limits : goal.draw_next-requires-clause-limits
draw_next-requires-clause-limits c = subst (λ (v : Seen). InRange v.setting.limits) (sym c.in-None.ensures.machine) c.requires.limits

pub draw_next-requires-clause-unended : goal.draw_next-requires-clause-unended
draw_next-requires-clause-unended c =
    subst (λ (v : Seen). end_of v.setting (history v.setting v.log) ≡ Unended) (sym c.in-None.ensures.machine) c.requires.unended

pub draw_next-requires-clause-drawn : goal.draw_next-requires-clause-drawn
draw_next-requires-clause-drawn c =
    subst (λ (v : Seen). IsOnAWay v c.go_on.new.drawing) (sym c.in-None.ensures.machine)
    (subst (λ (d : Drawing). IsOnAWay c.args.machine.now d) (sym c.in-None.ensures.drawing) c.requires.drawn)

pub draw_next-requires-clause-apart : goal.draw_next-requires-clause-apart
draw_next-requires-clause-apart c =
    subst (λ (v : Seen). goes_on (scene_of v) c.go_on.new.drawing ≡ false) (sym c.in-None.ensures.machine)
    (subst (λ (d : Drawing). goes_on (scene_of c.args.machine.now) d ≡ false) (sym c.in-None.ensures.drawing) c.in-None.ensures.none)

pub returns-in-None-clause-made : goal.returns-in-None-clause-made
returns-in-None-clause-made c =
    c.draw_next.ensures.made
    ∙ ap (λ (v : Seen). let w : Seen = record v { log = v.log ++ c.draw_next.result.entry ∷ [] } in w) c.in-None.ensures.machine

pub returns-in-None-clause-drawn : goal.returns-in-None-clause-drawn
returns-in-None-clause-drawn c =
    subst (λ (v : Seen). GoesOn v c.args.drawing.now c.draw_next.new.machine c.draw_next.new.drawing) c.in-None.ensures.machine
    (subst (λ (d : Drawing). GoesOn c.go_on.new.machine d c.draw_next.new.machine c.draw_next.new.drawing) c.in-None.ensures.drawing c.draw_next.ensures.drawn)

pub returns-in-None-clause-inside : goal.returns-in-None-clause-inside
returns-in-None-clause-inside c =
    let e = c.draw_next.result.entry in
    c.draw_next.ensures.inside
    ∙ ap (λ (v : Seen). leaves_inside v.setting (history v.setting v.log) e.hart.0 e.kind) c.in-None.ensures.machine

pub returns-in-Some-clause-overtakes : goal.returns-in-Some-clause-overtakes
returns-in-Some-clause-overtakes c = sym c.in-Some.ensures.loads_not

pub returns-in-None-clause-overtakes : goal.returns-in-None-clause-overtakes
returns-in-None-clause-overtakes c =
    let e = c.draw_next.result.entry in
    c.draw_next.ensures.overtakes
    ∙ ap (λ (v : Seen). overtakes v.setting (history v.setting v.log) e.hart.0 e.kind) c.in-None.ensures.machine
