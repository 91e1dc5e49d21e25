-- The lines of a log as they are kept, and how they are tied to a place of it.
use Rattle.std.specs.Prelude.{ℕ, ◌≡◌, ◌<◌, List, [], Vec, length, map, max, slice_index_or}
use Rattle.std.specs.declared.alloc.Global.{Global}
use Rattle.block_model.specs.History.{History}
use Rattle.fact_types.specs.declared.facts.Source.{Source}
use Rattle.event_facts.specs.Lines.{memory_source, waiting_on, written_in}
use Rattle.event_facts.specs.Sources.{source_over}
use Rattle.event_facts.specs.Written.{last_line, line_at}
use Rattle.event_facts.specs.declared.lines.Lines.{Lines}
use Rattle.event_facts.specs.declared.lines.Numbered.{Numbered}

-- the stores that are kept of hart k; none past the last hart
abbrev pub items_at : List (Vec Numbered Global) → ℕ → List Numbered
items_at waiting k = slice_index_or (map (λ (v : Vec Numbered Global). v.items) waiting) k []

abbrev pub kept_on : Lines → ℕ → List Numbered
kept_on x k = items_at x.waiting.items k

-- the line in which a byte was written last; 0 where it wasn't. Lines rise, so it is the later of the two that are kept
abbrev pub line_in : Lines → ℕ → ℕ
line_in x a = max (line_at x.written a) (last_line x.long.items a 0)

-- where a byte comes from that hart h reads, by what is kept
abbrev pub kept_source : Lines → ℕ → ℕ → Source
kept_source x h a = source_over (kept_on x h) a (memory_source (line_in x a))

-- they are those of a history, on so many harts
pub record AreLinesOf (count : ℕ) (before : History) (x : Lines) : Type 0 where
  pub harts : length x.waiting.items ≡ count
  pub waiting : (h : ℕ) → h < count → kept_on x h ≡ waiting_on h before
  pub written : (a : ℕ) → line_in x a ≡ written_in before a
