-- The zeros are told.
use Rattle.sys_calls.proofs.Common.{None}
use Rattle.sys_calls.proofs.advice.drop_pages.Goals as goal

pub returns-clause-told : goal.returns-clause-told
returns-clause-told c = c.tell_zeros.ensures None
