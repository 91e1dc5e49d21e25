use Rattle.block_view.proofs.theorems.acts_cover_the_log.Goals as goal
use Rattle.block_view.proofs.Covering.{all_within, in_one_act, is_in_act, rising}

pub returns : goal.returns
returns c = record {
  covered = λ s log k entry at. let found = is_in_act s log k entry at in (found.place, found.act, found.at, found.has);
  once = λ s log k i j entry a b at here has there holds. in_one_act s log k i j entry a b at here has there holds;
  bounds = λ s log. all_within s log;
  order = λ s log. rising s log;
}
