use Rattle.std.proofs.Common.{◌≡◌, drop}
use Rattle.rv_asm.specs.Assembly.{first_unbound}
use Rattle.rv_asm.proofs.code.find_first_unbound.Given as goal

-- what was passed is bound
abbrev pub invariant-loop-item : goal.invariant-loop-item
invariant-loop-item l = first_unbound l.labels l.items ≡ first_unbound l.labels (drop l.item-index l.items)
