use Rattle.std.proofs.Common.{◌<◌, arith, length}
use Rattle.place_keys.specs.TableWords.{mask_words}
use Rattle.place_keys.proofs.Codes.{written_get}
use Rattle.place_keys.proofs.tables.write_masks.Goals as goal

pub loop-thread-preserved : goal.loop-thread-preserved
loop-thread-preserved c =
    let xs = c.args.threads.now in
    let lt : c.loop-thread.thread-index < length xs = omega arith in
    written_get mask_words xs c.loop-thread.thread-index _ c.write_word.new.words.items c.loop-thread.words.items c.write_mask.new.words.items lt c.loop-thread.invariant c.in_ok-write_mask.ensures
