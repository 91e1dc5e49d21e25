-- Where the bytes come from that a hart reads: each byte of a load is that of the youngest store of its hart that waits and has it, or
-- else memory's (RISC-V Unprivileged ISA, "Ztso"; that lines of a log are named is own).
use Rattle.std.specs.Prelude.{ℕ, ◌==◌, Bool, true, false, List, [], ◌∷◌, if◌then◌else◌}
use Rattle.mach_types.specs.Bytes.{covers}
use Rattle.block_model.specs.History.{History}
use Rattle.fact_types.specs.declared.facts.Source.{Source}
use Rattle.fact_types.specs.declared.facts.Source.TheVariants.{Start, Memory, Waiting}
use Rattle.event_facts.specs.Lines.{memory_source, waiting_on, written_in}
use Rattle.event_facts.specs.declared.lines.Numbered.{Numbered}

-- whether two are the same
abbrev pub same_source : Source → Source → Bool
same_source Start Start = true
same_source Start (Memory n) = false
same_source Start (Waiting n) = false
same_source (Memory m) Start = false
same_source (Memory m) (Memory n) = m == n
same_source (Memory m) (Waiting n) = false
same_source (Waiting m) Start = false
same_source (Waiting m) (Memory n) = false
same_source (Waiting m) (Waiting n) = m == n

-- the byte at an address behind these stores, the oldest first: the last one that has it, else where it comes from below
abbrev pub source_over : List Numbered → ℕ → Source → Source
source_over [] a below = below
source_over (w ∷ ws) a below = source_over ws a (if covers w.store a then Waiting w.line else below)

-- the byte at an address, as hart h reads it at the end of a history
abbrev pub source_at : ℕ → History → ℕ → Source
source_at h before a = source_over (waiting_on h before) a (memory_source (written_in before a))
