use Rattle.std.proofs.Common.{◌<◌, arith, length}
use Rattle.place_keys.specs.TableWords.{saved_words}
use Rattle.kernel_threads.specs.Rows.{saved_in}
use Rattle.place_keys.proofs.Codes.{mapped_get}
use Rattle.place_keys.proofs.tables.write_saved.Goals as goal

pub loop-row-preserved : goal.loop-row-preserved
loop-row-preserved c =
    let xs = c.args.rows.now in
    let lt : c.loop-row.row-index < length xs = omega arith in
    mapped_get saved_words saved_in xs c.loop-row.row-index _ c.write_word.new.words.items c.loop-row.words.items c.write_saved_row.new.words.items lt c.loop-row.invariant c.in_ok-write_saved_row.ensures
