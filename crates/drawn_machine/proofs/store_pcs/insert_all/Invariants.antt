-- those so far are in, and those of what is left make it whole
use Rattle.std.proofs.Common.{◌≡◌, drop}
use Rattle.drawn_machine.specs.Overtaken.{pcs_of}
use Rattle.drawn_machine.specs.PcSets.{with_pcs}
use Rattle.drawn_machine.proofs.store_pcs.insert_all.Given as goal

abbrev pub invariant-loop-mark : goal.invariant-loop-mark
invariant-loop-mark l = with_pcs (pcs_of (drop l.mark-index l.marks)) l.set ≡ with_pcs (pcs_of l.marks) l.initial.set
