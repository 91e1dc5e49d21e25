use Rattle.std.proofs.Common.{◌∙◌, sym}
use Rattle.byte_views.proofs.Bytes.{with_word-front, byte_written, two_bytes, four_bytes}
use Rattle.byte_views.proofs.put_number.Goals as goal

pub returns-in-1 : goal.returns-in-1
returns-in-1 c = byte_written _ _ c.args.value c.in-1.is c.requires.room

pub returns-in-2 : goal.returns-in-2
returns-in-2 c = c.write_u16.ensures ∙ two_bytes c.args.value _ ∙ sym (with_word-front _ _ 2 c.args.value c.in-2.is)

pub returns-in-4 : goal.returns-in-4
returns-in-4 c = c.write_u32.ensures ∙ four_bytes c.args.value _ ∙ sym (with_word-front _ _ 4 c.args.value c.in-4.is)

pub returns-in-8 : goal.returns-in-8
returns-in-8 c = c.write_u64.ensures ∙ sym (with_word-front _ _ 8 c.args.value c.in-8.is)
