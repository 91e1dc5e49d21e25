-- The words lie among the bytes that can be written, and enter memory behind the zeros.
use Rattle.sys_calls.proofs.Common.{◌≡◌, ℕ, ◌+◌, ◌≤◌, ◌^◌, List, [], ◌∷◌, sym, ap, ◌∙◌, arith, IsEntered, Write, can_write_in, double_written, each_byte, word_written}
use Rattle.block_model.specs.Calls.Answers.{zeros_written}
use Rattle.block_model.specs.Calls.System.{names_size}
use Rattle.sys_calls.proofs.ActionWords.{still_writable}
use Rattle.sys_calls.proofs.ByteRanges.{bytes_pass, part_passes, run_end}
use Rattle.sys_calls.proofs.KernelWrites.{entered_twice}
use Rattle.sys_calls.proofs.system.write_names.Goals as goal

pub write_zeros-requires-clause-end : goal.write_zeros-requires-clause-end
write_zeros-requires-clause-end c = run_end c.args.pages.now 389 c.args.at c.requires.writable

pub write_zeros-requires-clause-writable : goal.write_zeros-requires-clause-writable
write_zeros-requires-clause-writable c = bytes_pass names_size (can_write_in c.args.pages.now) c.args.at ∙ c.requires.writable

pub overflow_add-at : goal.overflow_add-at
overflow_add-at c = let end = run_end c.args.pages.now 389 c.args.at c.requires.writable in record { fits = omega (arith, end) }

pub overflow_add-at-2 : goal.overflow_add-at-2
overflow_add-at-2 c = let end = run_end c.args.pages.now 389 c.args.at c.requires.writable in record { fits = omega (arith, end) }

pub write_double-requires-clause-writable : goal.write_double-requires-clause-writable
write_double-requires-clause-writable c =
    still_writable c.args.pages.now c.write_zeros.new.pages c.args.at 8 (λ a. c.write_zeros.ensures.same a) (ap (λ a. each_byte (can_write_in c.args.pages.now) a 8) (let e : c.args.at ≡ c.args.at + 0 = omega arith in e) ∙ part_passes names_size (can_write_in c.args.pages.now) c.args.at 0 8 (omega arith) c.requires.writable)

pub write_double-requires-2-clause-writable : goal.write_double-requires-2-clause-writable
write_double-requires-2-clause-writable c =
    still_writable c.args.pages.now c.write_double.new.pages (c.args.at + 130) 8 (λ a. c.write_double.ensures.same a ∙ c.write_zeros.ensures.same a) (part_passes names_size (can_write_in c.args.pages.now) c.args.at 130 8 (omega arith) c.requires.writable)

pub write_double-requires-3-clause-writable : goal.write_double-requires-3-clause-writable
write_double-requires-3-clause-writable c =
    still_writable c.args.pages.now c.write_double-2.new.pages (c.args.at + 260) 8 (λ a. c.write_double-2.ensures.same a ∙ c.write_double.ensures.same a ∙ c.write_zeros.ensures.same a) (part_passes names_size (can_write_in c.args.pages.now) c.args.at 260 8 (omega arith) c.requires.writable)

pub returns-clause-entered : goal.returns-clause-entered
returns-clause-entered c =
    entered_twice c.args.pages.now c.write_zeros.new.pages c.write_double-3.new.pages (zeros_written c.args.at names_size ∷ []) (double_written c.args.at 0x78756E694C ∷ double_written (c.args.at + 130) 0x302E332E36 ∷ double_written (c.args.at + 260) 0x34367663736972 ∷ [])
    c.write_zeros.ensures.entered (entered_twice c.write_zeros.new.pages c.write_double.new.pages c.write_double-3.new.pages (double_written c.args.at 0x78756E694C ∷ []) (double_written (c.args.at + 130) 0x302E332E36 ∷ double_written (c.args.at + 260) 0x34367663736972 ∷ [])
    c.write_double.ensures.entered (entered_twice c.write_double.new.pages c.write_double-2.new.pages c.write_double-3.new.pages (double_written (c.args.at + 130) 0x302E332E36 ∷ []) (double_written (c.args.at + 260) 0x34367663736972 ∷ [])
    c.write_double-2.ensures.entered c.write_double-3.ensures.entered))
