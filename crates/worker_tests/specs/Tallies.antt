-- The chronicle of the tests: harts make entries by turns, four in a row, until there are `total`.
use Rattle.std.specs.Prelude.{ℕ, ◌/◌, ◌%◌, Bool, not, nat_lt, ◌==◌, List, length, Option, Some, None, if◌then◌else◌}
use Rattle.mach_types.specs.declared.events.Entry.{Entry}
use Rattle.mach_types.specs.declared.events.Hart.{Hart}
use Rattle.mach_types.specs.declared.events.Kind.TheVariants.{Exec}

-- the entry of a hart at a place of the log
abbrev pub entry_at : ℕ → Hart → Entry
entry_at place hart = record { hart = hart; kind = Exec; tid = record { 0 = 1 }; pc = place }

abbrev pub next_of : ℕ → ℕ → List Entry → Hart → Option Entry
next_of total harts log hart = if nat_lt (length log) total then (if (length log / 4) % harts == hart.0 then Some (entry_at (length log) hart) else None) else None

abbrev pub ended_of : ℕ → List Entry → Bool
ended_of total log = not (nat_lt (length log) total)
