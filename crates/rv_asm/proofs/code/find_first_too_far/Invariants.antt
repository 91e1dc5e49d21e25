use Rattle.std.proofs.Common.{◌≡◌, drop}
use Rattle.rv_asm.specs.Assembly.{first_too_far}
use Rattle.rv_asm.proofs.code.find_first_too_far.Given as goal

-- what was passed reaches its label
abbrev pub invariant-loop-index : goal.invariant-loop-index
invariant-loop-index l = first_too_far l.labels 0 l.items ≡ first_too_far l.labels l.index (drop l.index l.items)
