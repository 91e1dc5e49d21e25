use Rattle.machine_core.proofs.Common.{sym, ◌∙◌, history}
use Rattle.machine_core.proofs.AdvanceAnswers.{never_err}
use Rattle.machine_core.proofs.FreeEvents.{free_decides}
use Rattle.machine_core.proofs.machine.Machine.step_freely_chosen.Goals as goal

pub unreachable-requires : goal.unreachable-requires
unreachable-requires c =
    let v = c.args.self.now in
    let ok = free_decides v.setting (history v.setting v.log) c.args.hart.0 c.requires.goes c.requires.hart (sym c.goes_freely.ensures ∙ c.if-not-goes_freely.false) in
    never_err _ _ (sym c.in-Err.is ∙ (c.step_chosen.ensures.answer ∙ ok))

pub returns-then-not-goes_freely-clause-free : goal.returns-then-not-goes_freely-clause-free
returns-then-not-goes_freely-clause-free c = sym c.if-not-goes_freely.true ∙ c.goes_freely.ensures

pub returns-clause-free : goal.returns-clause-free
returns-clause-free c = sym c.if-not-goes_freely.false ∙ c.goes_freely.ensures
