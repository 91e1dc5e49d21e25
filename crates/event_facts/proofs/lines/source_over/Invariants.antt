use Rattle.std.proofs.Common.{◌≡◌, drop}
use Rattle.event_facts.specs.Sources.{source_over}
use Rattle.event_facts.proofs.lines.source_over.Given as goal

-- what comes of the stores that are left is what comes of all
abbrev pub invariant-loop-numbered : goal.invariant-loop-numbered
invariant-loop-numbered l = source_over (drop l.numbered-index l.waiting) l.at l.source ≡ source_over l.waiting l.at l.fn.below
