-- Every access of an instruction has 1, 2, 4 or 8 bytes.
use Rattle.std.proofs.Common.{rules, sym, subst, ◌∙◌}
use Rattle.mach_types.specs.Bytes.{IsAccessSize}
use Rattle.rv_inst.proofs.Laws.{meaning-sized}
use Rattle.rv_inst.specs.Sizes.{HasAccessSizes}
use Rattle.process.proofs.plain.plain_step.Goals as goal

pub look-requires : goal.look-requires
look-requires c =
    subst HasAccessSizes (sym c.effect.ensures ∙ c.in-Load.is) (meaning-sized c.args.inst.now c.args.state.now.file c.args.state.now.pc)

pub writable-requires : goal.writable-requires
writable-requires c =
    subst HasAccessSizes (sym c.effect.ensures ∙ c.in-Store.is) (meaning-sized c.args.inst.now c.args.state.now.file c.args.state.now.pc)

pub returns-then-writable : goal.returns-then-writable
returns-then-writable c =
    let sized : IsAccessSize c.in-Store.size =
    subst HasAccessSizes (sym c.effect.ensures ∙ c.in-Store.is) (meaning-sized c.args.inst.now c.args.state.now.file c.args.state.now.pc) in
    search rules
