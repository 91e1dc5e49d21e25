-- The two words lie below 2^64, and enter memory.
use Rattle.sys_calls.proofs.Common.{◌+◌, [], ◌∷◌, can_write_in, double_written}
use Rattle.sys_calls.proofs.ActionWords.{still_writable}
use Rattle.sys_calls.proofs.AreaWords.{writable_below}
use Rattle.sys_calls.proofs.KernelWrites.{entered_twice}
use Rattle.sys_calls.proofs.LimitWords.{pass_both}
use Rattle.sys_calls.proofs.limits.write_limits.Goals as goal

pub overflow_add-at : goal.overflow_add-at
overflow_add-at c =
    record { fits = writable_below c.args.pages.now (c.args.at + 8) 7 (pass_both (can_write_in c.args.pages.now) c.args.at c.requires.writable).second }

pub write_double-requires-clause-writable : goal.write_double-requires-clause-writable
write_double-requires-clause-writable c = (pass_both (can_write_in c.args.pages.now) c.args.at c.requires.writable).first

pub write_double-requires-2-clause-writable : goal.write_double-requires-2-clause-writable
write_double-requires-2-clause-writable c =
    let m = c.args.pages.now in
    still_writable m c.write_double.new.pages (c.args.at + 8) 8 c.write_double.ensures.same (pass_both (can_write_in m) c.args.at c.requires.writable).second

pub returns-clause-entered : goal.returns-clause-entered
returns-clause-entered c =
    entered_twice c.args.pages.now c.write_double.new.pages c.write_double-2.new.pages (double_written c.args.at c.args.limit ∷ []) (double_written (c.args.at + 8) c.args.limit ∷ [])
    c.write_double.ensures.entered c.write_double-2.ensures.entered
