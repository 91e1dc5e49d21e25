use Rattle.std.proofs.Common.{◌<◌, arith, length}
use Rattle.place_keys.specs.TableWords.{area_words}
use Rattle.sys_calls.specs.declared.rseq_areas.RegisteredArea.{RegisteredArea}
use Rattle.place_keys.proofs.Codes.{mapped_get}
use Rattle.place_keys.proofs.tables.write_areas.Goals as goal

pub loop-entry-preserved : goal.loop-entry-preserved
loop-entry-preserved c =
    let xs = c.args.areas.now in
    let lt : c.loop-entry.entry-index < length xs = omega arith in
    mapped_get area_words (λ (entry : RegisteredArea). (entry.tid.0, entry.area)) xs c.loop-entry.entry-index _ c.write_word.new.words.items c.loop-entry.words.items c.write_area.new.words.items lt c.loop-entry.invariant c.in_ok-write_area.ensures
