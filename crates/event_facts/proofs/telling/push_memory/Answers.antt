use Rattle.event_facts.specs.Telling.{effect_in, past_of}
use Rattle.event_facts.proofs.ToldFacts.{memory_told}
use Rattle.event_facts.proofs.telling.push_memory.Goals as goal

pub returns : goal.returns
returns c =
    let m = c.args.machine.now in
    memory_told m.setting (past_of m) c.args.hart.0 (effect_in c.args.event.now) c.args.deed.now c.args.lines.now c.args.line c.hart.result.now.reserved _ _ _ _ _ _
    c.requires.lines c.requires.hart c.requires.line (λ i. (c.hart.ensures i).reserved)
    c.in_ok-push_event_reading.ensures c.in_ok-push_waits.ensures c.in_ok-push_entered.ensures c.in_ok-push_own.ensures c.in_ok-push_all_lost.ensures
