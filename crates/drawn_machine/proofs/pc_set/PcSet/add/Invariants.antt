-- those so far are in, and those of what is left make it whole
use Rattle.std.proofs.Common.{◌≡◌, drop}
use Rattle.drawn_machine.specs.PcSets.{with_pcs}
use Rattle.drawn_machine.proofs.pc_set.PcSet.add.Given as goal

abbrev pub invariant-loop-pc : goal.invariant-loop-pc
invariant-loop-pc l = with_pcs (drop l.pc-index l.pc-items) l.self ≡ with_pcs l.pc-items l.initial.self
