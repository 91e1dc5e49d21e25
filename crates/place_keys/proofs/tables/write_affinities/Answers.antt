use Rattle.std.proofs.Common.{◌<◌, arith, length}
use Rattle.place_keys.specs.TableWords.{pair_words}
use Rattle.place_keys.proofs.Codes.{written_get}
use Rattle.place_keys.proofs.tables.write_affinities.Goals as goal

pub loop-entry-preserved : goal.loop-entry-preserved
loop-entry-preserved c =
    let xs = c.args.entries.now in
    let lt : c.loop-entry.entry-index < length xs = omega arith in
    written_get pair_words xs c.loop-entry.entry-index _ c.write_word.new.words.items c.loop-entry.words.items c.write_pair.new.words.items lt c.loop-entry.invariant c.in_ok-write_pair.ensures
