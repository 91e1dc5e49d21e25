-- The words lie among the bytes that can be written, and enter memory behind the zeros.
use Rattle.sys_calls.proofs.Common.{◌≡◌, ℕ, ◌+◌, ◌≤◌, ◌^◌, List, [], ◌∷◌, sym, ap, ◌∙◌, arith, IsEntered, Write, can_write_in, double_written, word_written}
use Rattle.block_model.specs.Calls.Answers.{zeros_written}
use Rattle.block_model.specs.Calls.Terminal.{stat_size}
use Rattle.sys_calls.proofs.ActionWords.{still_writable}
use Rattle.sys_calls.proofs.ByteRanges.{bytes_pass, part_passes, run_end}
use Rattle.sys_calls.proofs.KernelWrites.{entered_twice}
use Rattle.sys_calls.proofs.terminal.write_stat.Goals as goal

pub write_zeros-requires-clause-end : goal.write_zeros-requires-clause-end
write_zeros-requires-clause-end c = run_end c.args.pages.now 127 c.args.at c.requires.writable

pub write_zeros-requires-clause-writable : goal.write_zeros-requires-clause-writable
write_zeros-requires-clause-writable c = bytes_pass stat_size (can_write_in c.args.pages.now) c.args.at ∙ c.requires.writable

pub overflow_add-at : goal.overflow_add-at
overflow_add-at c = let end = run_end c.args.pages.now 127 c.args.at c.requires.writable in record { fits = omega (arith, end) }

pub overflow_add-at-2 : goal.overflow_add-at-2
overflow_add-at-2 c = let end = run_end c.args.pages.now 127 c.args.at c.requires.writable in record { fits = omega (arith, end) }

pub overflow_add-at-3 : goal.overflow_add-at-3
overflow_add-at-3 c = let end = run_end c.args.pages.now 127 c.args.at c.requires.writable in record { fits = omega (arith, end) }

pub write_double-requires-clause-writable : goal.write_double-requires-clause-writable
write_double-requires-clause-writable c =
    still_writable c.args.pages.now c.write_zeros.new.pages (c.args.at + 16) 8 (λ a. c.write_zeros.ensures.same a) (part_passes stat_size (can_write_in c.args.pages.now) c.args.at 16 8 (omega arith) c.requires.writable)

pub write_double-requires-2-clause-writable : goal.write_double-requires-2-clause-writable
write_double-requires-2-clause-writable c =
    still_writable c.args.pages.now c.write_double.new.pages (c.args.at + 32) 8 (λ a. c.write_double.ensures.same a ∙ c.write_zeros.ensures.same a) (part_passes stat_size (can_write_in c.args.pages.now) c.args.at 32 8 (omega arith) c.requires.writable)

pub write_word-requires-clause-writable : goal.write_word-requires-clause-writable
write_word-requires-clause-writable c =
    still_writable c.args.pages.now c.write_double-2.new.pages (c.args.at + 56) 4 (λ a. c.write_double-2.ensures.same a ∙ c.write_double.ensures.same a ∙ c.write_zeros.ensures.same a) (part_passes stat_size (can_write_in c.args.pages.now) c.args.at 56 4 (omega arith) c.requires.writable)

pub returns-clause-entered : goal.returns-clause-entered
returns-clause-entered c =
    entered_twice c.args.pages.now c.write_zeros.new.pages c.write_word.new.pages (zeros_written c.args.at stat_size ∷ []) (double_written (c.args.at + 16) (8592 + 2 ^ 32) ∷ double_written (c.args.at + 32) 1281 ∷ word_written (c.args.at + 56) 1024 ∷ [])
    c.write_zeros.ensures.entered (entered_twice c.write_zeros.new.pages c.write_double.new.pages c.write_word.new.pages (double_written (c.args.at + 16) (8592 + 2 ^ 32) ∷ []) (double_written (c.args.at + 32) 1281 ∷ word_written (c.args.at + 56) 1024 ∷ [])
    c.write_double.ensures.entered (entered_twice c.write_double.new.pages c.write_double-2.new.pages c.write_word.new.pages (double_written (c.args.at + 32) 1281 ∷ []) (word_written (c.args.at + 56) 1024 ∷ [])
    c.write_double-2.ensures.entered c.write_word.ensures.entered))
