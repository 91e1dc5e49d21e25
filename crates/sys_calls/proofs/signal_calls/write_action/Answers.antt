-- The three words lie below 2^64, and enter memory.
use Rattle.sys_calls.proofs.Common.{◌+◌, [], ◌∷◌, ◌∙◌, can_write_in, double_written}
use Rattle.sys_calls.proofs.ActionWords.{pass_three, still_writable}
use Rattle.sys_calls.proofs.AreaWords.{writable_below}
use Rattle.sys_calls.proofs.KernelWrites.{entered_twice}
use Rattle.sys_calls.proofs.signal_calls.write_action.Goals as goal

pub overflow_add-at : goal.overflow_add-at
overflow_add-at c =
    record { fits = writable_below c.args.pages.now (c.args.at + 8) 7 (pass_three (can_write_in c.args.pages.now) c.args.at c.requires.writable).second }

pub overflow_add-at-2 : goal.overflow_add-at-2
overflow_add-at-2 c =
    record { fits = writable_below c.args.pages.now (c.args.at + 16) 7 (pass_three (can_write_in c.args.pages.now) c.args.at c.requires.writable).third }

pub write_double-requires-clause-writable : goal.write_double-requires-clause-writable
write_double-requires-clause-writable c = (pass_three (can_write_in c.args.pages.now) c.args.at c.requires.writable).first

pub write_double-requires-2-clause-writable : goal.write_double-requires-2-clause-writable
write_double-requires-2-clause-writable c =
    let m = c.args.pages.now in
    still_writable m c.write_double.new.pages (c.args.at + 8) 8 c.write_double.ensures.same (pass_three (can_write_in m) c.args.at c.requires.writable).second

pub write_double-requires-3-clause-writable : goal.write_double-requires-3-clause-writable
write_double-requires-3-clause-writable c =
    still_writable c.args.pages.now c.write_double-2.new.pages (c.args.at + 16) 8 (λ a. c.write_double-2.ensures.same a ∙ c.write_double.ensures.same a)
    (pass_three (can_write_in c.args.pages.now) c.args.at c.requires.writable).third

pub returns-clause-entered : goal.returns-clause-entered
returns-clause-entered c =
    let m = c.args.pages.now in
    let m1 = c.write_double.new.pages in
    let m2 = c.write_double-2.new.pages in
    let m3 = c.write_double-3.new.pages in
    let action = c.args.action.now in
    entered_twice m m1 m3 (double_written c.args.at action.at ∷ []) (double_written (c.args.at + 8) action.flags ∷ double_written (c.args.at + 16) action.mask ∷ []) c.write_double.ensures.entered
    (entered_twice m1 m2 m3 (double_written (c.args.at + 8) action.flags ∷ []) (double_written (c.args.at + 16) action.mask ∷ []) c.write_double-2.ensures.entered c.write_double-3.ensures.entered)
