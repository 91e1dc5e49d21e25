use Rattle.event_facts.proofs.Killings.{kills_told}
use Rattle.event_facts.proofs.theorems.kills_are_told_with_their_reason.Goals as goal

pub returns : goal.returns
returns c = λ here choice. kills_told here choice
