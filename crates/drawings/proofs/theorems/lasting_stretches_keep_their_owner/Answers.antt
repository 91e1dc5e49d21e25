use Rattle.drawings.proofs.Stretches.{stretch-acts, stretch-owner, stretch-stay}
use Rattle.drawings.proofs.theorems.lasting_stretches_keep_their_owner.Goals as goal

pub returns : goal.returns
returns c = record { owner = stretch-owner; stay = stretch-stay; acts = stretch-acts }
