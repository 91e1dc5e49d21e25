use Rattle.event_facts.proofs.areas.number_of.Goals as goal

pub returns : goal.returns
returns c = λ h. c.memory.ensures h
