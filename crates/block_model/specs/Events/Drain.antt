-- drain: the oldest waiting store of the hart enters memory.
use Rattle.std.specs.Prelude.{List, [], ◌∷◌, Option, Some, None}
use Rattle.mach_types.specs.declared.events.Why.{Why}
use Rattle.mach_types.specs.declared.events.Why.TheVariants.{NoStore}
use Rattle.mach_types.specs.declared.user_memory.Store.{Store}
use Rattle.mach_types.specs.declared.user_memory.Write.TheVariants.{Stored}
use Rattle.block_model.specs.Here.{Here, Done, nothing, waiting_here}

abbrev pub refusal_drain_of : List Store → Option Why
refusal_drain_of [] = Some NoStore
refusal_drain_of (w ∷ ws) = None

abbrev pub refusal_drain : Here → Option Why
refusal_drain here = refusal_drain_of (waiting_here here)

abbrev pub done_drain_of : Here → List Store → Done
done_drain_of here [] = nothing here
done_drain_of here (w ∷ ws) = record (nothing here) { drained = 1; entered = Stored w ∷ [] }

abbrev pub done_drain : Here → Done
done_drain here = done_drain_of here (waiting_here here)
