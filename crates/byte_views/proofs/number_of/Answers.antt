use Rattle.std.proofs.Common.{◌∙◌}
use Rattle.byte_views.proofs.Bytes.{word_read, byte_read}
use Rattle.byte_views.proofs.number_of.Goals as goal

pub returns-in-1 : goal.returns-in-1
returns-in-1 c = c.from.ensures ∙ byte_read _ _ c.in-1.is

pub returns-in-2 : goal.returns-in-2
returns-in-2 c = c.from-in-2.ensures ∙ c.read_u16.ensures ∙ word_read _ _ 2 c.in-2.is

pub returns-in-4 : goal.returns-in-4
returns-in-4 c = c.from-in-4.ensures ∙ c.read_u32.ensures ∙ word_read _ _ 4 c.in-4.is

pub returns-in-8 : goal.returns-in-8
returns-in-8 c = c.read_u64.ensures ∙ word_read _ _ 8 c.in-8.is
