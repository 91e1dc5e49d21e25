use Rattle.std.proofs.Common.{◌≡◌, ◌∙◌, true, false, arith, sym, subst}
use Rattle.mach_types.specs.declared.events.Hart.{Hart}
use Rattle.block_model.specs.Deciding.{history}
use Rattle.block_model.specs.Setting.{Seen}
use Rattle.drawings.specs.Drawings.{event_of, on_credit}
use Rattle.drawn_machine.specs.OnTheWay.{IsOnItsWay}
use Rattle.drawn_machine.specs.Overtaken.{overtakes}
use Rattle.drawn_machine.specs.Scenes.{scene_of}
use Rattle.drawn_machine.proofs.DrawnSteps.{goes_by_credit, goes_on, is_for, kept_on_credit, next_on_credit, stops_inside, stops_owing, stops_unfree, stops_without, way_more}
use Rattle.drawn_machine.proofs.Inside.{exec_is}
use Rattle.drawn_machine.proofs.Overtaking.{free_overtakes}
use Rattle.drawn_machine.proofs.SeenScenes.{are_listed}
use Rattle.drawn_machine.proofs.drawn_run.go_on.Goals as goal

pub is_owing-requires-clause-run : goal.is_owing-requires-clause-run
is_owing-requires-clause-run c = let way = c.requires.drawn in way.1.block_run

pub is_owing-requires-clause-hart : goal.is_owing-requires-clause-hart
is_owing-requires-clause-hart c =
    let way = c.requires.drawn in (is_for way.0 c.args.machine.now c.args.drawing.now c.requires.limits way.1).last

pub returns-then-is_owing-clause-none : goal.returns-then-is_owing-clause-none
returns-then-is_owing-clause-none c =
    stops_owing (scene_of c.args.machine.now) c.args.drawing.now (sym c.is_owing.ensures ∙ c.if-is_owing.true)

pub go_on-requires-clause-few : goal.go_on-requires-clause-few
go_on-requires-clause-few c =
    let way = c.requires.drawn in
    let last = (is_for way.0 c.args.machine.now c.args.drawing.now c.requires.limits way.1).last in
    omega (arith, last, c.requires.limits.eight_harts)

pub invariant_of-is_inside : goal.invariant_of-is_inside
invariant_of-is_inside c =
    let way = c.requires.drawn in
    record { few = c.requires.limits.eight_harts; listed = are_listed c.args.machine.now way.1.block_run }

pub is_inside-requires : goal.is_inside-requires
is_inside-requires c =
    let way = c.requires.drawn in (is_for way.0 c.args.machine.now c.args.drawing.now c.requires.limits way.1).last

pub step_freely-requires-clause-goes : goal.step_freely-requires-clause-goes
step_freely-requires-clause-goes c =
    let way = c.requires.drawn in
    let m = c.args.machine.now in
    goes_on m.setting m.log way.1.block_run c.requires.unended

pub step_freely-requires-clause-hart : goal.step_freely-requires-clause-hart
step_freely-requires-clause-hart c =
    let way = c.requires.drawn in (is_for way.0 c.args.machine.now c.args.drawing.now c.requires.limits way.1).last

pub returns-in-Some-clause-kind : goal.returns-in-Some-clause-kind
returns-in-Some-clause-kind c = exec_is c.in-Some.entry c.in-Some.ensures.of.1

pub returns-then-drawing-eq0-clause-none : goal.returns-then-drawing-eq0-clause-none
returns-then-drawing-eq0-clause-none c =
    stops_without (scene_of c.args.machine.now) c.args.drawing.now c.if-drawing-eq0.true

pub returns-then-is_inside-clause-none : goal.returns-then-is_inside-clause-none
returns-then-is_inside-clause-none c =
    stops_inside (scene_of c.args.machine.now) c.args.drawing.now (sym c.is_inside.ensures ∙ c.if-is_inside.true)

pub returns-in-None-clause-none : goal.returns-in-None-clause-none
returns-in-None-clause-none c = stops_unfree (scene_of c.args.machine.now) c.args.drawing.now (sym c.in-None.ensures.free)

pub returns-in-Some-clause-drawn : goal.returns-in-Some-clause-drawn
returns-in-Some-clause-drawn c m way =
    let now = c.args.machine.now in
    let d = c.args.drawing.now in
    let after = c.go_on.new.self in
    let is = goes_by_credit (scene_of now) d (omega arith) (sym c.in-Some.ensures.free) (sym c.is_inside.ensures ∙ c.if-is_inside.false)
    (sym c.is_owing.ensures ∙ c.if-is_owing.false) in
    let next = next_on_credit m now d c.requires.limits way c.requires.unended is in
    subst (λ (v : Seen). IsOnItsWay m v after) (sym c.in-Some.ensures.log)
    (way_more m now d after (event_of (on_credit d)) c.in-Some.entry next (kept_on_credit now d after is c.go_on.ensures.kept) (sym c.in-Some.ensures.answer))

pub returns-in-Some-clause-loads_not : goal.returns-in-Some-clause-loads_not
returns-in-Some-clause-loads_not c =
    let m = c.args.machine.now in
    let before = history m.setting m.log in
    let k = c.in-Some.entry.kind in
    subst (λ (h : Hart). overtakes m.setting before h.0 k ≡ false) (sym c.in-Some.ensures.of.0)
    (free_overtakes m.setting before c.args.drawing.now.last.0 k (sym c.in-Some.ensures.free))
