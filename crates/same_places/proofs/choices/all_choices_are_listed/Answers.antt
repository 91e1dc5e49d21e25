use Rattle.same_places.proofs.TriedChoices.{tried_listed}
use Rattle.same_places.proofs.choices.all_choices_are_listed.Goals as goal

pub returns : goal.returns
returns c = tried_listed
