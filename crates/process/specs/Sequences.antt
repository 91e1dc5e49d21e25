-- Restartable sequences of the thread on a hart (rseq(2)), and the ids of the threads on harts.
use Rattle.std.specs.Prelude.{ℕ, ◌==◌, ◌&&◌, Bool, Option, is_some}
use Rattle.std.specs.Option.{option_and_then, option_map, option_map_or}
use Rattle.mach_types.specs.declared.sequences.Area.{Area}
use Rattle.mach_types.specs.declared.sequences.Named.{Named}
use Rattle.mach_types.specs.declared.sequences.Named.TheVariants as names
use Rattle.rseq_area.specs.Lookups.{looked_at}
use Rattle.rseq_area.specs.declared.lookups.Lookups.{Lookups}
use Rattle.hart_state.specs.declared.hart.HartState.{HartState}
use Rattle.block_model.specs.Here.{Here, runs, view}
use Rattle.block_model.specs.Sequences.{area_here, named_here}

-- the area of the thread that runs on the hart; none where no thread runs, or where it has none
abbrev pub area_on : Here → Option Area
area_on here = option_and_then (area_here here) (runs here)

-- what it names, as the hart sees memory
abbrev pub named_on : Here → Named
named_on here = option_map_or (named_here here) (runs here) names.Nothing

-- at which bytes its check looks, as the hart sees memory; nothing where there is no area
abbrev pub looked_at_on : Here → Option Lookups
looked_at_on here = option_map (looked_at (view here)) (area_on here)

-- whether the thread on a hart holds this id
abbrev pub holds : ℕ → HartState → Bool
holds id x = is_some x.running && (x.cid == id)
