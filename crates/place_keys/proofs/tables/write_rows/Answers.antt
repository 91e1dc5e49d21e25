use Rattle.std.proofs.Common.{◌<◌, arith, length}
use Rattle.place_keys.specs.TableWords.{thread_words}
use Rattle.kernel_threads.specs.Rows.{thread_in}
use Rattle.place_keys.proofs.Codes.{mapped_get}
use Rattle.place_keys.proofs.tables.write_rows.Goals as goal

pub loop-row-preserved : goal.loop-row-preserved
loop-row-preserved c =
    let xs = c.args.rows.now in
    let lt : c.loop-row.row-index < length xs = omega arith in
    mapped_get thread_words thread_in xs c.loop-row.row-index _ c.write_word.new.words.items c.loop-row.words.items c.write_thread.new.words.items lt c.loop-row.invariant c.in_ok-write_thread.ensures
