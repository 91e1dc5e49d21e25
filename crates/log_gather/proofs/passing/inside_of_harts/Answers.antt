use Rattle.std.proofs.Common.{◌≡◌, ◌∙◌, false, is_some, cond, ltb, ap, arith, refl}
use Rattle.block_model.specs.Deciding.{history}
use Rattle.block_model.specs.Here.{runs}
use Rattle.block_view.proofs.Laws.{seen_inside}
use Rattle.log_gather.specs.Facts.{inside_on}
use Rattle.log_gather.specs.Passing.{here_on}
use Rattle.log_gather.proofs.Passages.{filled_none, filled_step}
use Rattle.log_gather.proofs.passing.inside_of_harts.Goals as goal

pub loop-hart-init : goal.loop-hart-init
loop-hart-init c = record { eight = refl; filled = filled_none (λ k. inside_on (here_on c.args.machine.now k) (runs (here_on c.args.machine.now k))) false }

pub bounds-inside_of-hart : goal.bounds-inside_of-hart
bounds-inside_of-hart c = omega (arith, c.loop-hart.invariant.eight, c.requires.eight_harts)

pub loop-hart-preserved : goal.loop-hart-preserved
loop-hart-preserved c =
    let m = c.args.machine.now in
    let its = c.is_some.ensures ∙ ap is_some c.inside.ensures ∙ seen_inside m.setting c.loop-hart.hart (history m.setting m.log) in
    let next = filled_step (λ j. inside_on (here_on m j) (runs (here_on m j))) false c.is_some.result c.loop-hart.hart c.loop-hart.inside_of its
    (omega (arith, c.requires.eight_harts)) c.loop-hart.invariant.eight c.loop-hart.invariant.filled in
    record { eight = next.0; filled = next.1 }

pub returns : goal.returns
returns c =
    let m = c.args.machine.now in
    let ended : c.loop-hart.hart ≡ m.setting.limits.harts = omega arith in
    λ k. c.loop-hart.invariant.filled k ∙ ap (λ n. cond (ltb k n) (inside_on (here_on m k) (runs (here_on m k))) false) ended
