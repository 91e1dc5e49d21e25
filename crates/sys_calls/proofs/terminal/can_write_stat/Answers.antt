-- All bytes can be written.
use Rattle.sys_calls.proofs.Common.{◌∙◌, can_write_in}
use Rattle.block_model.specs.Calls.Terminal.{stat_size}
use Rattle.sys_calls.proofs.ByteRanges.{bytes_pass}
use Rattle.sys_calls.proofs.terminal.can_write_stat.Goals as goal

pub returns : goal.returns
returns c = c.can_write_range.ensures ∙ bytes_pass stat_size (can_write_in c.args.pages.now) c.args.at
