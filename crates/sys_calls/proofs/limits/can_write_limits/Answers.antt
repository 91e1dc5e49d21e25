-- No word begins past the last address.
use Rattle.sys_calls.proofs.Common.{◌+◌, ◌≤◌, ◌^◌, sym, arith}
use Rattle.sys_calls.proofs.LimitWords.{unwritable_limits}
use Rattle.sys_calls.proofs.limits.can_write_limits.Goals as goal

pub returns-in-None : goal.returns-in-None
returns-in-None c =
    let past : 2 ^ 64 ≤ c.args.at + 8 = omega arith in
    sym (unwritable_limits c.args.pages.now c.args.at past)
