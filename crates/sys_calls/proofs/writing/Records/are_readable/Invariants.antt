-- So far all bytes can be read, and the rest decides.
use Rattle.sys_calls.proofs.Common.{◌≡◌, ◌+◌, ◌-◌, ◌*◌, Here, all_readable, byte_in, memory, spans_at}
use Rattle.sys_calls.proofs.writing.Records.are_readable.Given as goal

abbrev pub invariant-loop-index : goal.invariant-loop-index
invariant-loop-index l = (h : Here) → byte_in l.pages ≡ memory h
    → all_readable h (spans_at h (l.self.at + 16 * l.index) (l.self.count - l.index)) ≡ all_readable h (spans_at h l.self.at l.self.count)
