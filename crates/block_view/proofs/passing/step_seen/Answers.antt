use Rattle.std.proofs.Common.{sym, ◌∙◌, ap, subst, Ok}
use Rattle.mach_types.specs.declared.events.Entry.{Entry}
use Rattle.block_view.specs.Passing.{IsMadeAgain}
use Rattle.block_view.proofs.Seeing.{ahead_of_step, entry_again, made_by_step}
use Rattle.block_view.proofs.passing.step_seen.Goals as goal

pub returns-in-Ok-clause-entry : goal.returns-in-Ok-clause-entry
returns-in-Ok-clause-entry c =
    let m = c.args.machine.now in
    let m' = c.step.new.self in
    let e = c.in-Ok.entry in
    let is = sym c.step.ensures.answer ∙ c.in-Ok.is in
    let made = made_by_step m m' c.args.hart c.args.choice e is c.in-Ok.ensures.of c.in-Ok.ensures.ok c.step.ensures.block_run in
    let ahead = ahead_of_step m m' c.args.hart c.args.choice e is c.in-Ok.ensures.of c.kind.result c.ahead_of-ahead.result c.kind.ensures c.ahead_of-ahead.ensures in
    is ∙ ap Ok (sym (entry_again m m' e c.seen_after.result (c.seen_after.ensures m made ahead)))

pub returns-in-Ok-clause-seen : goal.returns-in-Ok-clause-seen
returns-in-Ok-clause-seen c =
    let m = c.args.machine.now in
    let m' = c.step.new.self in
    let e = c.in-Ok.entry in
    let is = sym c.step.ensures.answer ∙ c.in-Ok.is in
    let made = made_by_step m m' c.args.hart c.args.choice e is c.in-Ok.ensures.of c.in-Ok.ensures.ok c.step.ensures.block_run in
    let ahead = ahead_of_step m m' c.args.hart c.args.choice e is c.in-Ok.ensures.of c.kind.result c.ahead_of-ahead.result c.kind.ensures c.ahead_of-ahead.ensures in
    let again = c.seen_after.ensures m made ahead in
    subst (λ (x : Entry). IsMadeAgain m m' x c.seen_after.result) (sym (entry_again m m' e c.seen_after.result again)) again
