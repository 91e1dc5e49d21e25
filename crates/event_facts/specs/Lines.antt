-- Which line of a log did what (own): in which line each store was executed that waits, and in which line each byte of memory was
-- written last. Lines are numbered from 1, as the entries of a log.
use Rattle.std.specs.Prelude.{ℕ, ◌+◌, ◌==◌, List, [], ◌∷◌, ◌++◌, length, map, drop, if◌then◌else◌, slice_get}
use Rattle.std.specs.Option.{option_map_or}
use Rattle.mach_types.specs.declared.user_memory.Store.{Store}
use Rattle.block_model.specs.Footprints.{bytes_of_all, have_byte}
use Rattle.block_model.specs.History.{History, is_of_hart}
use Rattle.fact_types.specs.declared.facts.Source.{Source}
use Rattle.fact_types.specs.declared.facts.Source.TheVariants.{Start, Memory}
use Rattle.event_facts.specs.declared.lines.Numbered.{Numbered}

-- the number of the line that comes after a history
abbrev pub next_line : History → ℕ
next_line before = length before + 1

-- a store that was executed in a line
abbrev pub numbered : ℕ → Store → Numbered
numbered line w = record { line = line; store = w }

-- the stores that wait on hart h, the oldest first, each with its line: those that the hart executed, but for those that entered
-- memory since
abbrev pub waiting_on : ℕ → History → List Numbered
waiting_on h [] = []
waiting_on h (e ∷ before) =
    if is_of_hart h e then drop e.done.drained (waiting_on h before ++ map (numbered (next_line before)) e.done.executed)
    else waiting_on h before

-- the last line by whose event a write entered memory that has the byte; 0 where none has since the start
abbrev pub written_in : History → ℕ → ℕ
written_in [] a = 0
written_in (e ∷ before) a = if have_byte (bytes_of_all e.done.entered) a then next_line before else written_in before a

-- where a byte of memory comes from, by that line
abbrev pub memory_source : ℕ → Source
memory_source line = if line == 0 then Start else Memory line

-- the line in which the store was executed that enters memory: where a waiting store does, that of the oldest; else this line
abbrev pub line_behind : List Numbered → ℕ → ℕ → ℕ
line_behind waiting line drained = if drained == 0 then line else option_map_or (λ (w : Numbered). w.line) (slice_get waiting 0) line
