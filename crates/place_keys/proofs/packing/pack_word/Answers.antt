use Rattle.std.proofs.Common.{◌++◌}
use Rattle.place_keys.specs.Packed.{packed_word}
use Rattle.place_keys.proofs.PackedCodes.{byte_last, byte_more}
use Rattle.place_keys.proofs.packing.pack_word.Goals as goal

pub loop-rest-preserved : goal.loop-rest-preserved
loop-rest-preserved c =
    byte_more (c.args.bytes.now.items ++ packed_word c.args.word) c.loop-rest.bytes.items c.push.new.self.items c.loop-rest.rest c.loop-rest-test.true c.loop-rest.invariant
    c.in_ok-push.ensures.items

pub returns : goal.returns
returns c =
    byte_last (c.args.bytes.now.items ++ packed_word c.args.word) c.loop-rest.bytes.items c.push-2.new.self.items c.loop-rest.rest c.loop-rest-test.false c.loop-rest.invariant
    c.in_ok-push-2.ensures.items
