use Rattle.process.proofs.Common.{◌≡◌, ◌+◌, ap, ◌∙◌, arith, length, length_push, instruction_of}
use Rattle.process.proofs.Decoding.{none_decoded, one_decoded}
use Rattle.process.proofs.code.instructions.Goals as goal

pub loop-place-init : goal.loop-place-init
loop-place-init c = record {
  count = ap length c.in_ok-insts.ensures.items;
  decoded = none_decoded c.args.pages.now c.args.first c.in_ok-insts.insts.items c.in_ok-insts.ensures.items;
}

pub loop-place-preserved : goal.loop-place-preserved
loop-place-preserved c =
    let insts = c.loop-place.insts.items in
    let longer : length c.push.new.self.items ≡ length insts + 1 = ap length c.in_ok-push.ensures.items ∙ length_push insts c.decoded.result in
    record {
      count = omega (arith, c.loop-place.invariant.count);
      decoded = one_decoded c.args.pages.now c.args.first insts c.push.new.self.items c.decoded.result c.loop-place.place c.loop-place.invariant.count
          c.loop-place.invariant.decoded c.in_ok-push.ensures.items (c.decoded.ensures ∙ ap instruction_of c.fetch.ensures);
    }
