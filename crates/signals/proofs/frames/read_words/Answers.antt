use Rattle.std.proofs.Common.{length, sym, ◌∙◌, arith}
use Rattle.signals.proofs.Words.{all_read, none_read, one_missing, one_read}
use Rattle.signals.proofs.frames.read_words.Goals as goal

pub loop-index-init : goal.loop-index-init
loop-index-init g c = none_read (g.M.UserMem.byte c.args.mem.now) c.args.at c.args.words.now

pub loop-index-preserved : goal.loop-index-preserved
loop-index-preserved g c =
    one_read (g.M.UserMem.byte c.args.mem.now) c.args.at (length c.args.words.now) c.loop-index.words c.loop-index.index c.in-Some.word
    (omega arith) (omega arith) (sym c.get.ensures ∙ c.in-Some.is) c.loop-index.invariant

pub returns-in_default-clause-missing : goal.returns-in_default-clause-missing
returns-in_default-clause-missing g c =
    one_missing (g.M.UserMem.byte c.args.mem.now) c.args.at (length c.args.words.now) c.loop-index.words c.loop-index.index c.loop-index-test.true
    (sym c.get.ensures ∙ c.in_default.is) c.loop-index.invariant

pub returns-clause-read : goal.returns-clause-read
returns-clause-read g c = all_read (g.M.UserMem.byte c.args.mem.now) c.args.at (length c.args.words.now) c.loop-index.words c.loop-index.index (omega arith) (omega arith) c.loop-index.invariant
