use Rattle.std.proofs.Common.{arith}
use Rattle.place_text.specs.Memory.{memory_text, word_start, word_text, words_of}
use Rattle.place_text.specs.Seen.{past_of}
use Rattle.place_text.proofs.Lists.{all_numbers, range_step}
use Rattle.place_text.proofs.memory.push_memory.Goals as goal

pub loop-index-preserved : goal.loop-index-preserved
loop-index-preserved c =
    let v = c.args.machine.now in
    range_step (λ k. word_text v.setting (past_of v) (word_start c.args.at k)) _ _ _ c.loop-index.index c.loop-index.invariant
    c.in_ok-push_number.ensures

pub returns : goal.returns
unfolding memory_text
returns c =
    let v = c.args.machine.now in
    all_numbers (λ k. word_text v.setting (past_of v) (word_start c.args.at k)) _ _ c.loop-index.index (words_of c.args.at c.args.count)
    (omega arith) c.loop-index.invariant
