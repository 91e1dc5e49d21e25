-- All bytes can be written.
use Rattle.sys_calls.proofs.Common.{◌∙◌, can_write_in}
use Rattle.block_model.specs.Calls.System.{names_size}
use Rattle.sys_calls.proofs.ByteRanges.{bytes_pass}
use Rattle.sys_calls.proofs.system.can_write_names.Goals as goal

pub returns : goal.returns
returns c = c.can_write_range.ensures ∙ bytes_pass names_size (can_write_in c.args.pages.now) c.args.at
