use Rattle.std.proofs.Common.{sym, ap, subst}
use Rattle.mach_types.specs.Limits.{InRange}
use Rattle.block_model.specs.Setting.{Seen, Setting}
use Rattle.block_view.proofs.passing.make_named.Goals as goal

pub seen_after-requires-clause-limits : goal.seen_after-requires-clause-limits
seen_after-requires-clause-limits c =
    let made = c.make.ensures.made c.if-not-make.false in
    subst (λ (s : Setting). InRange s.limits) (sym (ap (λ (x : Seen). x.setting) made.longer)) c.requires.limits

pub seen_after-requires-clause-made : goal.seen_after-requires-clause-made
seen_after-requires-clause-made c = (c.args.machine.now, c.make.ensures.made c.if-not-make.false)

pub returns-clause-made : goal.returns-clause-made
returns-clause-made c = c.seen_after.ensures c.args.machine.now (c.make.ensures.made c.if-not-make.false) c.named_ahead-ahead.ensures
