-- So far the instructions of as many words as rounds.
use Rattle.process.proofs.Common.{◌≡◌, length, AreDecoded}
use Rattle.process.proofs.code.instructions.Given as goal

abbrev pub invariant-loop-place : goal.invariant-loop-place
invariant-loop-place l = record { count : length l.insts.items ≡ l.place; decoded : AreDecoded l.pages l.first l.insts.items }
