use Rattle.std.proofs.Common.{◌∙◌, List, ◌∷◌, ◌++◌, [], Option, ap, sym, arith, append-nil}
use Rattle.std.specs.Option.{option_to_list}
use Rattle.mach_types.specs.Bytes.{all_stored}
use Rattle.mach_types.specs.declared.user_memory.Store.{Store}
use Rattle.mach_types.specs.declared.user_memory.Write.TheVariants.{Stored}
use Rattle.fact_types.specs.declared.facts.Fact.{Fact}
use Rattle.event_facts.specs.Reservations.{all_lost, lost_of}
use Rattle.event_facts.specs.Telling.{past_of}
use Rattle.event_facts.proofs.Lists.{all_numbers, range_step}
use Rattle.event_facts.proofs.Entered.{none_lost}
use Rattle.event_facts.proofs.reservations.push_all_lost.Goals as goal

pub loop-number-preserved : goal.loop-number-preserved
loop-number-preserved c =
    range_step (lost_of c.args.hart.0 (past_of c.args.machine.now) (Stored c.in-Some.store ∷ [])) _ _ _ c.loop-number.number c.loop-number.invariant
    c.in_ok-push_lost_of.ensures

pub returns : goal.returns
returns c =
    let harts = c.args.machine.now.setting.limits.harts in
    all_numbers (lost_of c.args.hart.0 (past_of c.args.machine.now) (Stored c.in-Some.store ∷ [])) c.args.facts.now.items c.loop-number.facts.items c.loop-number.number harts
    (omega (arith, c.harts-number-end.ensures)) c.loop-number.invariant
    ∙ ap (λ (o : Option Store). c.args.facts.now.items ++ all_lost c.args.hart.0 (past_of c.args.machine.now) (all_stored (option_to_list o)) harts) (sym c.in-Some.is)

pub returns-in_default : goal.returns-in_default
returns-in_default c =
    sym (append-nil c.args.facts.now.items)
    ∙ ap (λ (l : List Fact). c.args.facts.now.items ++ l)
    (sym (none_lost c.args.hart.0 (past_of c.args.machine.now) c.args.entered c.args.machine.now.setting.limits.harts c.in_default.is))
