use Rattle.place_keys.proofs.PartCodes.{leads_back}
use Rattle.place_keys.proofs.theorems.equal_words_lead_back.Goals as goal

pub returns : goal.returns
returns c = leads_back
