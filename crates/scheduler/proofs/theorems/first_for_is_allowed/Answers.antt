use Rattle.scheduler.proofs.FirstAllowed.{first_for-ready, first_for-allowed, first_for-none}
use Rattle.scheduler.proofs.theorems.first_for_is_allowed.Goals as goal

pub returns : goal.returns
returns c = record {
  ready = first_for-ready;
  allowed = first_for-allowed;
  none = first_for-none;
}
