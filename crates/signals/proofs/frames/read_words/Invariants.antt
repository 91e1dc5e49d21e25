use Rattle.std.proofs.Common.{length}
use Rattle.signals.proofs.Words.{ReadSoFar}
use Rattle.signals.proofs.frames.read_words.Given as goal

-- the words before are read
abbrev pub invariant-loop-index : goal.invariant-loop-index
invariant-loop-index g l = ReadSoFar (g.M.UserMem.byte l.mem) l.at (length l.fn.words) l.words l.index
