-- Restartable sequences at a place of a log (rseq(2)): what the area of a thread names there, and what the interruption of a
-- thread comes to.
use Rattle.std.specs.Prelude.{ℕ, Bool, true, List, [], ◌∷◌, Option, Some, None}
use Rattle.std.specs.Option.{option_map_or}
use Rattle.mach_types.specs.declared.sequences.Area.{Area}
use Rattle.mach_types.specs.declared.sequences.Named.{Named}
use Rattle.mach_types.specs.declared.sequences.Named.TheVariants as names
use Rattle.mach_types.specs.declared.sequences.Outcome.{Outcome}
use Rattle.mach_types.specs.declared.sequences.Outcome.TheVariants as comes_to
use Rattle.mach_types.specs.declared.threads.Saved.{Saved}
use Rattle.mach_types.specs.declared.user_memory.Write.{Write}
use Rattle.mach_types.specs.Kernel.Areas.{Words, are_words_writable, area_of, interruption, is_inside_named, named, words_entered}
use Rattle.block_model.specs.Here.{Here, is_writable, memory, view}

-- the area that is registered for thread t
abbrev pub area_here : Here → ℕ → Option Area
area_here here t = area_of t here.kernel.areas

-- what the area of thread t names at its pc where memory has these bytes; nothing where it has no area
abbrev pub named_over : (ℕ → Option ℕ) → Here → ℕ → Named
named_over byte here t = option_map_or (λ area. named byte area (here.file t).pc) (area_here here t) names.Nothing

-- of the thread that runs on the hart: as the hart sees memory
abbrev pub named_here : Here → ℕ → Named
named_here here t = named_over (view here) here t

-- of a thread that waits to run: as memory is
abbrev pub named_waiting : Here → ℕ → Named
named_waiting here t = named_over (memory here) here t

-- whether thread t is inside a good sequence, where it runs on the hart, and where it waits to run
abbrev pub is_inside_here : Here → ℕ → Bool
is_inside_here here t = is_inside_named (named_here here t) (here.file t).pc

abbrev pub is_inside_waiting : Here → ℕ → Bool
is_inside_waiting here t = is_inside_named (named_waiting here t) (here.file t).pc

-- what the interruption of thread t comes to, which isn't on a hart or whose hart has no waiting store: what is in memory counts
abbrev pub interruption_here : Here → ℕ → Outcome
interruption_here here t = interruption (memory here) (is_writable here) (area_here here t) (here.file t).pc

-- the file that an interruption sets: only the pc changes, and only where the thread goes on at its abort handler
abbrev pub files_interrupted : Here → ℕ → Outcome → List (ℕ × Saved)
files_interrupted here t comes_to.Nothing = []
files_interrupted here t comes_to.Cleared = []
files_interrupted here t (comes_to.Aborted at) = (t, record (here.file t) { pc = at }) ∷ []
files_interrupted here t (comes_to.Killed why) = []

-- the kernel's words of an area: whether they can be written, where there is an area; and what is written
abbrev pub can_write_words : Here → Option Area → Bool
can_write_words here None = true
can_write_words here (Some area) = are_words_writable (is_writable here) area

abbrev pub words_to : Here → Option Area → Words → List Write
words_to here None words = []
words_to here (Some area) words = words_entered (can_write_words here (Some area)) area words
