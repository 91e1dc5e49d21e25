use Rattle.std.proofs.Common.{◌<◌, ◌++◌, ◌∙◌, ap, arith, length}
use Rattle.std.proofs.Common.{ℕ}
use Rattle.place_keys.specs.Words.{word}
use Rattle.place_keys.proofs.Codes.{mapped_get}
use Rattle.place_keys.proofs.tables.write_order.Goals as goal

pub loop-entry-preserved : goal.loop-entry-preserved
loop-entry-preserved c =
    let xs = c.args.order.now in
    let lt : c.loop-entry.entry-index < length xs = omega arith in
    mapped_get word (λ (entry : ℕ × ℕ). entry.0) xs c.loop-entry.entry-index _ c.write_word.new.words.items c.loop-entry.words.items c.write_word-in-loop-entry.new.words.items lt c.loop-entry.invariant
    (c.in_ok-write_word-2.ensures ∙ ap (λ n. c.loop-entry.words.items ++ word n) c.from.ensures)
