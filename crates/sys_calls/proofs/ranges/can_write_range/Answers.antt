-- No byte stands past the last address.
use Rattle.sys_calls.proofs.Common.{◌+◌, ◌≤◌, ◌^◌, sym, arith}
use Rattle.sys_calls.proofs.ByteRanges.{run_past}
use Rattle.sys_calls.proofs.ranges.can_write_range.Goals as goal

pub returns-in-None : goal.returns-in-None
returns-in-None c =
    let past : 2 ^ 64 ≤ c.args.at + c.args.more = omega arith in
    sym (run_past c.args.pages.now c.args.at c.args.more past)
