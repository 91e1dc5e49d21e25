-- The effect is what the instruction means. Every access of an instruction has 1, 2, 4 or 8 bytes.
use Rattle.std.proofs.Common.{ap, ◌∙◌, Some}
use Rattle.std.specs.Option.{option_map}
use Rattle.rv_inst.proofs.Laws.{meaning-sized}
use Rattle.rv_inst.specs.Meaning.{meaning}
use Rattle.rv_inst.specs.declared.instruction.Inst.{Inst}
use Rattle.process.proofs.next.other_effect.Goals as goal

pub returns-clause-effect : goal.returns-clause-effect
returns-clause-effect c = ap Some c.effect.ensures ∙ ap (option_map (λ (inst : Inst). meaning inst c.args.file.now c.args.pc)) c.in_ok-inst.ensures

pub returns-clause-sizes : goal.returns-clause-sizes
returns-clause-sizes c = rw c.effect.ensures (meaning-sized c.in_ok-inst.inst c.args.file.now c.args.pc)
