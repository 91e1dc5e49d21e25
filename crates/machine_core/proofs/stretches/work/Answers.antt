use Rattle.machine_core.proofs.Common.{◌≡◌, ap, cond, sym, ◌∙◌, false, goes_on, stepped, stretch_of}
use Rattle.machine_core.proofs.StretchWork.{not_begun, one_more, stopped}
use Rattle.machine_core.proofs.stretches.work.Goals as goal

pub loop-init : goal.loop-init
loop-init c = not_begun c.args.code.now (stretch_of c.args.stretch.now)

pub returns-then-not-go_on : goal.returns-then-not-go_on
returns-then-not-go_on c =
    let now = stretch_of c.loop.stretch in
    let stops : false ≡ goes_on c.args.code.now now = sym c.if-not-go_on.true ∙ c.go_on.ensures.answer in
    c.go_on.ensures.stretch ∙ ap (λ b. cond b (stepped c.args.code.now now) now) (sym stops)
    ∙ stopped c.args.code.now (stretch_of c.args.stretch.now) now c.loop.counter c.loop.invariant stops

pub loop-preserved : goal.loop-preserved
loop-preserved c =
    one_more c.args.code.now (stretch_of c.args.stretch.now) (stretch_of c.loop.stretch) (stretch_of c.go_on.new.stretch) c.loop.counter
    c.loop.invariant c.loop-test.true c.go_on.ensures.stretch
