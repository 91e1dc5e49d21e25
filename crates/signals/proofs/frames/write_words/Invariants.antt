use Rattle.std.proofs.Common.{◌≡◌, ℕ, ◌+◌, ◌-◌, ◌*◌, true, length}
use Rattle.signals.proofs.Words.{LeftToWrite}
use Rattle.signals.specs.Writing.{can_write_words}
use Rattle.signals.proofs.frames.write_words.Given as goal

-- the words before are written; the others can be
abbrev pub invariant-loop-index : goal.invariant-loop-index
invariant-loop-index g l = record {
  bytes : LeftToWrite (g.M.UserMem.byte l.fn.mem) l.at l.words l.index (g.M.UserMem.byte l.mem);
  permissions : (a : ℕ) → g.M.UserMem.can_write l.mem a ≡ g.M.UserMem.can_write l.fn.mem a;
  alike : g.M.UserMem.IsAlike l.fn.mem l.mem;
  writable : can_write_words (g.M.UserMem.can_write l.fn.mem) (l.at + 8 * l.index) (length l.words - l.index) ≡ true;
}
