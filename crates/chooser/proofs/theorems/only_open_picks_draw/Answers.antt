use Rattle.chooser.proofs.Draws.{pick-same, after_pick-settled, after_pick-own, after_pick-other}
use Rattle.chooser.proofs.theorems.only_open_picks_draw.Goals as goal

pub returns : goal.returns
returns c = record {
  unread = pick-same;
  stay = after_pick-settled;
  own = after_pick-own;
  others = after_pick-other;
}
