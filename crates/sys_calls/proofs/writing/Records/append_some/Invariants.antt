-- So far the first bytes were appended, and the rest follows as far as it fits.
use Rattle.sys_calls.proofs.Common.{◌≡◌, ◌+◌, ◌-◌, ◌*◌, ◌≤◌, ◌++◌, length, take, CONSOLE_ROOM, Here, byte_in, bytes_of, memory, spans_at}
use Rattle.sys_calls.proofs.writing.Records.append_some.Given as goal

abbrev pub invariant-loop-index : goal.invariant-loop-index
invariant-loop-index l = record {
  grown : length l.fn.console ≤ length l.console;
  room : length l.console ≤ CONSOLE_ROOM;
  rest : (h : Here) → byte_in l.pages ≡ memory h
      → l.console ++ take (CONSOLE_ROOM - length l.console) (bytes_of (memory h) (spans_at h (l.self.at + 16 * l.index) (l.self.count - l.index)))
      ≡ l.fn.console ++ take (CONSOLE_ROOM - length l.fn.console) (bytes_of (memory h) (spans_at h l.self.at l.self.count));
}
