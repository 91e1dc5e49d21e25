use Rattle.event_facts.proofs.Lists.{four_pieces}
use Rattle.event_facts.proofs.areas.push_kept.Goals as goal

pub returns : goal.returns
returns c =
    four_pieces _ _ _ _ _ _ _ _ _ c.in_ok-push_word.ensures c.in_ok-push_word-2.ensures c.in_ok-push_word-3.ensures c.in_ok-push_word-4.ensures
