-- One zero more enters memory.
use Rattle.sys_calls.proofs.Common.{◌≡◌, ℕ, ◌+◌, [], ◌∷◌, refl, sym, ap, subst, ◌∙◌, arith, IsEntered, can_write_in, each_byte-same}
use Rattle.block_model.specs.Calls.Answers.{zeros_written}
use Rattle.sys_calls.specs.Asked.{zero_stored}
use Rattle.sys_calls.proofs.ByteRanges.{bytes_pass, no_zeros, one_more, part_passes, same_writes}
use Rattle.sys_calls.proofs.KernelWrites.{entered_none, entered_twice}
use Rattle.sys_calls.proofs.ranges.fill.Goals as goal

pub loop-index-init : goal.loop-index-init
loop-index-init c = record {
  entered = same_writes c.args.pages.now c.args.pages.now [] (zeros_written c.args.at 0 ∷ []) (no_zeros c.args.at) (entered_none c.args.pages.now);
  same = λ a. refl;
}

pub write_zero-requires : goal.write_zero-requires
write_zero-requires c =
    let test = can_write_in c.args.pages.now in
    each_byte-same test (can_write_in c.loop-index.pages) c.loop-index.invariant.same (c.args.at + c.loop-index.index) 1
    ∙ part_passes c.args.len test c.args.at c.loop-index.index 1 (omega arith) (sym (bytes_pass c.args.len test c.args.at) ∙ c.requires.writable)

pub loop-index-preserved : goal.loop-index-preserved
loop-index-preserved c =
    let at = c.args.at in
    let i = c.loop-index.index in
    record {
      entered = same_writes c.args.pages.now c.write_zero.new.pages (zeros_written at i ∷ zero_stored (at + i) ∷ []) (zeros_written at (i + 1) ∷ []) (one_more at i)
          (entered_twice c.args.pages.now c.loop-index.pages c.write_zero.new.pages (zeros_written at i ∷ []) (zero_stored (at + i) ∷ [])
          c.loop-index.invariant.entered c.write_zero.ensures.entered);
      same = λ a. c.write_zero.ensures.same a ∙ c.loop-index.invariant.same a;
    }

pub returns-clause-entered : goal.returns-clause-entered
returns-clause-entered c =
    let over : c.loop-index.index ≡ c.args.len = omega arith in
    subst (λ (n : ℕ). IsEntered c.args.pages.now c.loop-index.pages (zeros_written c.args.at n ∷ [])) over c.loop-index.invariant.entered
