-- The next byte can be written, or not.
use Rattle.sys_calls.proofs.Common.{false, true, sym, ◌∙◌, arith, can_write_in}
use Rattle.sys_calls.proofs.ByteRanges.{first_byte, next_byte, no_byte}
use Rattle.sys_calls.proofs.ranges.are_writable.Goals as goal

pub loop-index-init : goal.loop-index-init
loop-index-init c = first_byte (can_write_in c.args.pages.now) c.args.at c.args.len

pub returns-then-not-writable : goal.returns-then-not-writable
returns-then-not-writable c =
    sym (c.loop-index.invariant
    ∙ next_byte (can_write_in c.args.pages.now) c.args.at c.args.len c.loop-index.index false c.loop-index-test.true (sym c.writable.ensures ∙ c.if-not-writable.true))

pub loop-index-preserved : goal.loop-index-preserved
loop-index-preserved c =
    c.loop-index.invariant
    ∙ next_byte (can_write_in c.args.pages.now) c.args.at c.args.len c.loop-index.index true c.loop-index-test.true (sym c.writable.ensures ∙ c.if-not-writable.false)

pub returns : goal.returns
returns c = sym (c.loop-index.invariant ∙ no_byte (can_write_in c.args.pages.now) c.args.at c.args.len c.loop-index.index (omega arith))
