use Rattle.std.proofs.Common.{◌<◌, arith, length}
use Rattle.place_keys.specs.Packed.{packed_word}
use Rattle.place_keys.proofs.Codes.{written_get}
use Rattle.place_keys.proofs.packing.pack.Goals as goal

pub loop-word-preserved : goal.loop-word-preserved
loop-word-preserved c =
    let xs = c.args.words.now in
    let lt : c.loop-word.word-index < length xs = omega arith in
    written_get packed_word xs c.loop-word.word-index _ c.args.bytes.now.items c.loop-word.bytes.items c.pack_word.new.bytes.items lt c.loop-word.invariant c.in_ok-pack_word.ensures
