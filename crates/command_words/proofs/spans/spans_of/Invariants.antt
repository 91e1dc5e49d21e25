use Rattle.std.proofs.Common.{◌≡◌, map, take}
use Rattle.command_words.specs.Spans.{spans_of}
use Rattle.command_words.proofs.spans.spans_of.Given as goal

-- the spans of the parts so far
abbrev pub invariant-loop-part : goal.invariant-loop-part
invariant-loop-part l = l.spans.items ≡ spans_of (map (λ part. part.now) (take l.part-index l.parts))
