-- So far all bytes can be written, and the rest decides.
use Rattle.sys_calls.proofs.Common.{◌≡◌, ◌+◌, ◌-◌, can_write_in, each_byte}
use Rattle.sys_calls.proofs.ranges.are_writable.Given as goal

abbrev pub invariant-loop-index : goal.invariant-loop-index
invariant-loop-index l = each_byte (can_write_in l.pages) l.at l.len ≡ each_byte (can_write_in l.pages) (l.at + l.index) (l.len - l.index)
