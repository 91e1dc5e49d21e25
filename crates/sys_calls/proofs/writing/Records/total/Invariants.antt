-- So far the records name so many bytes, and the others the rest.
use Rattle.sys_calls.proofs.Common.{◌≡◌, ◌+◌, ◌-◌, ◌*◌, ◌<◌, ◌^◌, Here, byte_in, memory, spans_at, total}
use Rattle.sys_calls.proofs.writing.Records.total.Given as goal

abbrev pub invariant-loop-index : goal.invariant-loop-index
invariant-loop-index l = record {
  small : l.length < 2 ^ 31;
  rest : (h : Here) → byte_in l.pages ≡ memory h → l.length + total (spans_at h (l.self.at + 16 * l.index) (l.self.count - l.index)) ≡ total (spans_at h l.self.at l.self.count);
}
