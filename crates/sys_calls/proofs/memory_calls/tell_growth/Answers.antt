-- The break grows: its pages can be read and written.
use Rattle.sys_calls.proofs.Common.{Some}
use Rattle.sys_calls.proofs.PageCalls.{zeros_grown}
use Rattle.sys_calls.proofs.memory_calls.tell_growth.Goals as goal

pub returns-then-first-end : goal.returns-then-first-end
returns-then-first-end c =
    zeros_grown c.args.from c.args.to c.pages_of-first.result c.pages_of-end.result c.pages_of-first.ensures c.pages_of-end.ensures c.if-first-end.true
    c.tell_zeros.new.written.items (c.tell_zeros.ensures (Some 6))
