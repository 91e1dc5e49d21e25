use Rattle.std.proofs.Common.{◌<◌, ◌++◌, ◌∙◌, ap, arith, length}
use Rattle.place_keys.specs.Words.{word}
use Rattle.place_keys.proofs.Codes.{written_get}
use Rattle.place_keys.proofs.tables.write_bytes.Goals as goal

pub loop-byte-preserved : goal.loop-byte-preserved
loop-byte-preserved c =
    let xs = c.args.bytes.now in
    let lt : c.loop-byte.byte-index < length xs = omega arith in
    written_get word xs c.loop-byte.byte-index _ c.write_word.new.words.items c.loop-byte.words.items c.write_word-in-loop-byte.new.words.items lt c.loop-byte.invariant
    (c.in_ok-write_word-2.ensures ∙ ap (λ n. c.loop-byte.words.items ++ word n) c.from.ensures)
