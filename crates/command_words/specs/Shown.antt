-- What is shown of a run (own).
use Rattle.std.specs.Prelude.{List}
use Rattle.command_words.specs.declared.commands.LineSpan.{LineSpan}
use Rattle.command_words.specs.declared.spans.MemorySpan.{MemorySpan}

-- its output; its summary; the place that it comes to, with these spans of memory; its acts; its output with its gathered log; or its
-- trace, with the lines of this span
pub data Shown : Type 0 where
  Output : Shown
  Summary : Shown
  Place : (memory : List MemorySpan) → Shown
  Acts : Shown
  Gathered : Shown
  Trace : (span : LineSpan) → Shown
