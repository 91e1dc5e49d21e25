use Rattle.std.proofs.Common.{◌∙◌}
use Rattle.asked_explorations.proofs.Explorations.{judged_exploration}
use Rattle.asked_explorations.proofs.exploring.explored_together.Goals as goal

pub returns-clause-output : goal.returns-clause-output
returns-clause-output g c =
    judged_exploration c.args.asked.now.settings c.in_ok-explored.explored c.in_ok-image.ensures.taken
    c.exploration_of-exploration.ensures c.in_ok-explored.ensures (c.whole.ensures ∙ c.in_ok-text.ensures) c.other_end.ensures
