use Rattle.std.proofs.Common.{◌≡◌, ◌∙◌, ◌∷◌, [], Option, ap, sym}
use Rattle.std.specs.Option.{option_to_list}
use Rattle.mach_types.specs.Kernel.Areas.{area_of}
use Rattle.mach_types.specs.declared.sequences.Area.{Area}
use Rattle.mach_types.specs.declared.sequences.Outcome.{Outcome}
use Rattle.block_model.specs.Here.{view}
use Rattle.block_model.specs.Sequences.{area_here}
use Rattle.fact_types.specs.declared.facts.Fact.{Fact}
use Rattle.fact_types.specs.declared.facts.Fact.TheVariants.{Interrupted}
use Rattle.fact_types.specs.declared.interruptions.Interruption.{Interruption}
use Rattle.event_facts.specs.Interruptions.{interrupted_facts, interruption_of}
use Rattle.event_facts.specs.Telling.{here_on}
use Rattle.event_facts.proofs.interruptions.interrupted.Goals as goal

pub returns : goal.returns
returns c =
    let here = here_on c.args.machine.now c.args.entry.hart.0 in
    let area : c.area_of-area.result ≡ area_here here c.args.entry.tid.0 = c.area_of-area.ensures ∙ ap (area_of c.args.entry.tid.0) c.kernel.ensures.areas in
    ap (λ (x : Interruption). Interrupted x ∷ [])
    (c.interruption_of-interruption.ensures ∙ ap (λ (a : Option Area). interruption_of (view here) a c.args.entry.pc c.in_ok-outcome.outcome) area)
    ∙ ap (λ (o : Option Outcome). interrupted_facts here c.args.entry o) (sym c.in_ok-outcome.was)

pub returns-in_err-outcome : goal.returns-in_err-outcome
returns-in_err-outcome c =
    let here = here_on c.args.machine.now c.args.entry.hart.0 in
    ap (λ (o : Option Fact). option_to_list o) c.from_residual.ensures
    ∙ ap (λ (o : Option Outcome). interrupted_facts here c.args.entry o) (sym c.in_err-outcome.was)
