use Rattle.std.proofs.Common.{◌≡◌, ◌∙◌, cond, ltb, ap, arith, refl, None}
use Rattle.log_gather.specs.Passing.{here_on}
use Rattle.log_gather.proofs.Passages.{filled_none, filled_step}
use Rattle.log_gather.proofs.passing.reservations.Goals as goal

pub loop-hart-init : goal.loop-hart-init
loop-hart-init c = record { eight = refl; filled = filled_none (λ k. (here_on c.args.machine.now k).reserved) None }

pub bounds-reserved-hart : goal.bounds-reserved-hart
bounds-reserved-hart c = omega (arith, c.loop-hart.invariant.eight, c.requires.eight_harts)

pub loop-hart-preserved : goal.loop-hart-preserved
loop-hart-preserved c =
    let next = filled_step (λ j. (here_on c.args.machine.now j).reserved) None c.hart.result.now.reserved c.loop-hart.hart c.loop-hart.reserved
    (λ i. (c.hart.ensures i).reserved) (omega (arith, c.requires.eight_harts)) c.loop-hart.invariant.eight c.loop-hart.invariant.filled in
    record { eight = next.0; filled = next.1 }

pub returns-clause-each : goal.returns-clause-each
returns-clause-each c =
    let m = c.args.machine.now in
    let ended : c.loop-hart.hart ≡ m.setting.limits.harts = omega arith in
    λ k. c.loop-hart.invariant.filled k ∙ ap (λ n. cond (ltb k n) (here_on m k).reserved None) ended
