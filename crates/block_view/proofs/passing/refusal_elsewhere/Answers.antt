use Rattle.std.proofs.Common.{sym, ◌∙◌}
use Rattle.block_view.proofs.Seeing.{nothing_decided}
use Rattle.block_view.proofs.passing.refusal_elsewhere.Goals as goal

pub unreachable-requires : goal.unreachable-requires
unreachable-requires c =
    nothing_decided c.args.machine.now c.args.hart.0 c.args.choice c.in-Ok.field-0 c.requires (sym c.answer.ensures ∙ c.in-Ok.is)
