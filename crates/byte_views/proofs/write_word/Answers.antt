use Rattle.byte_views.proofs.Bytes.{with_word-part}
use Rattle.byte_views.proofs.write_word.Goals as goal

pub returns-clause-written : goal.returns-clause-written
returns-clause-written c = with_word-part _ _ _ _ _ (c.is_within.ensures.0 c.if-not-is_within.false) c.put_number.ensures
