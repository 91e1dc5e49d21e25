use Rattle.event_facts.proofs.Lists.{six_pieces}
use Rattle.event_facts.proofs.areas.push_changed.Goals as goal

pub returns : goal.returns
returns c =
    six_pieces _ _ _ _ _ _ _ _ _ _ _ _ _ c.in_ok-push_word.ensures c.in_ok-push_word-2.ensures c.in_ok-push_word-3.ensures c.in_ok-push_word-4.ensures
    c.in_ok-push_word-5.ensures c.in_ok-push_word-6.ensures
