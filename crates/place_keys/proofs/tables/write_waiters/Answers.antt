use Rattle.std.proofs.Common.{◌++◌, ◌∙◌, ap, sym}
use Rattle.place_keys.specs.Words.{word}
use Rattle.place_keys.proofs.Codes.{written_more}
use Rattle.place_keys.proofs.tables.write_waiters.Goals as goal

pub loop-index-preserved : goal.loop-index-preserved
loop-index-preserved c =
    written_more word c.args.threads.now.threads.waiters c.loop-index.index c.in-Some.number c.write_word.new.words.items c.loop-index.words.items c.write_word-in-loop-index.new.words.items
    (sym c.in-Some.ensures) c.loop-index.invariant (c.in_ok-write_word-2.ensures ∙ ap (λ n. c.loop-index.words.items ++ word n) c.from-in-loop-index.ensures)
