-- No word begins past the last address.
use Rattle.sys_calls.proofs.Common.{◌+◌, ◌≤◌, ◌^◌, sym, arith}
use Rattle.sys_calls.proofs.ActionWords.{unwritable_action}
use Rattle.sys_calls.proofs.signal_calls.can_write_action.Goals as goal

pub returns-in-None : goal.returns-in-None
returns-in-None c =
    let past : 2 ^ 64 ≤ c.args.at + 16 = omega arith in
    sym (unwritable_action c.args.pages.now c.args.at past)
