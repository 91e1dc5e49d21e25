-- The lines of steps (own).
use Rattle.std.specs.Prelude.{ℕ, ◌&&◌, ◌++◌, Bool, true, List, [], ◌∷◌, nat_lt, ◌+◌, Option, slice_get}
use Rattle.std.specs.List.{flat_map, list_all}
use Rattle.guest_names.specs.declared.names.Name.{Name}
use Rattle.guest_names.specs.declared.names.Name.TheVariants.{Counter, List as Lists, Pool, Dekker, Signals, Migrate, Ring, Urcu}
use Rattle.percpu_lib.specs.Adds.{add_lines}
use Rattle.percpu_lib.specs.Allocs.{alloc_lines}
use Rattle.percpu_lib.specs.Frees.{free_lines}
use Rattle.percpu_lib.specs.Lines.{is_free}
use Rattle.percpu_lib.specs.Pops.{pop_lines}
use Rattle.percpu_lib.specs.Pushes.{push_lines}
use Rattle.percpu_lib.specs.Rings.{ring_get_lines, ring_put_lines}
use Rattle.percpu_lib.specs.declared.lines.Line.{Line}
use Rattle.percpu_lib.specs.declared.lines.Line.TheVariants as line
use Rattle.percpu_lib.specs.declared.slots.Slots.{Slots}
use Rattle.rv_asm.specs.Assembly.{is_aimable}
use Rattle.rv_asm.specs.Fields.{fits_fields}
use Rattle.guest_programs.specs.Blocks.{bound_by}
use Rattle.guest_programs.specs.declared.counter.TheConstants.{COUNTER}
use Rattle.guest_programs.specs.declared.dekker.TheConstants.{DEKKER}
use Rattle.guest_programs.specs.declared.list.TheConstants.{LIST}
use Rattle.guest_programs.specs.declared.migrate.TheConstants.{MIGRATE}
use Rattle.guest_programs.specs.declared.pool.TheConstants.{POOL}
use Rattle.guest_programs.specs.declared.ring.TheConstants.{RING}
use Rattle.guest_programs.specs.declared.registers.TheConstants.{AREA, CELLS_AT, VALUE}
use Rattle.guest_programs.specs.declared.shared.TheConstants.{BEGINNING, ENDING, PINNING, PRINTING, STARTING}
use Rattle.guest_programs.specs.declared.signals.TheConstants.{SIGNALS}
use Rattle.guest_programs.specs.declared.steps.BlockKind.{BlockKind}
use Rattle.guest_programs.specs.declared.urcu.TheConstants.{URCU}
use Rattle.guest_programs.specs.declared.steps.BlockKind.TheVariants as kind
use Rattle.guest_programs.specs.declared.steps.Step.{Step}
use Rattle.guest_programs.specs.declared.steps.Step.TheVariants as step

-- what the blocks of guests work with
abbrev pub slots_of : ℕ → Slots
slots_of table = record { area = AREA; cells = CELLS_AT; value = VALUE; table = table }

-- the lines of a block, with its labels from a number on
abbrev pub lines_of_block : BlockKind → Slots → ℕ → List Line
lines_of_block kind.Add = add_lines
lines_of_block kind.Push = push_lines
lines_of_block kind.Pop = pop_lines
lines_of_block kind.Alloc = alloc_lines
lines_of_block kind.Free = free_lines
lines_of_block kind.RingPut = λ p base. ring_put_lines p base 4
lines_of_block kind.RingGet = λ p base. ring_get_lines p base 4

-- the lines of a step, and of steps
abbrev pub lines_of_step : Step → List Line
lines_of_step (step.Of l) = l ∷ []
lines_of_step (step.Block k base table) = lines_of_block k (slots_of table) base

abbrev pub lines_of : List Step → List Line
lines_of steps = flat_map lines_of_step steps

-- the steps that only a guest has
abbrev pub own_steps : Name → List Step
own_steps Counter = COUNTER
own_steps Lists = LIST
own_steps Pool = POOL
own_steps Dekker = DEKKER
own_steps Signals = SIGNALS
own_steps Migrate = MIGRATE
own_steps Ring = RING
own_steps Urcu = URCU

-- all lines of a guest: those that all guests have, and its own
abbrev pub guest_lines : Name → List Line
guest_lines name =
    lines_of BEGINNING
    ++ (lines_of STARTING ++ (lines_of ENDING ++ (lines_of PRINTING ++ (lines_of PINNING ++ lines_of (own_steps name)))))

-- a step can be appended where there are so many labels: its instruction has a word, its label is there, and the
-- descriptor of its block stands low enough
abbrev pub is_line_good : ℕ → Line → Bool
is_line_good labels (line.Label l) = true
is_line_good labels (line.Plain i) = fits_fields i
is_line_good labels (line.Branch i l) = is_aimable i && nat_lt l labels
is_line_good labels (line.Data w) = true

abbrev pub is_step_good : ℕ → Step → Bool
is_step_good labels (step.Of l) = is_line_good labels l
is_step_good labels (step.Block k base table) = nat_lt table 0x7FFFF800

abbrev pub are_good : ℕ → List Step → Bool
are_good labels steps = list_all (is_step_good labels) steps

-- eight labels from one on are free
abbrev pub are_free : List (Option ℕ) → ℕ → Bool
are_free labels base =
    list_all (λ k. is_free (slice_get labels (base + k))) (0 ∷ 1 ∷ 2 ∷ 3 ∷ 4 ∷ 5 ∷ 6 ∷ 7 ∷ [])

-- whether the labels of a step's block are free
abbrev pub has_step_room : List (Option ℕ) → Step → Bool
has_step_room labels (step.Of l) = true
has_step_room labels (step.Block k base table) = are_free labels base

-- the index of the word behind lines whose first word has an index
abbrev pub index_behind : ℕ → List Line → ℕ
index_behind index [] = index
index_behind index (line.Label l ∷ rest) = index_behind index rest
index_behind index (line.Plain i ∷ rest) = index_behind (index + 1) rest
index_behind index (line.Branch i l ∷ rest) = index_behind (index + 1) rest
index_behind index (line.Data w ∷ rest) = index_behind (index + 1) rest

-- whether the labels of each step's block are free when it is appended, where the first word has an index
abbrev pub have_room : List (Option ℕ) → ℕ → List Step → Bool
have_room labels index [] = true
have_room labels index (s ∷ rest) =
    has_step_room labels s && have_room (bound_by labels index (lines_of_step s)) (index_behind index (lines_of_step s)) rest
