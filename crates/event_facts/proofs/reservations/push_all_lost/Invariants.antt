use Rattle.std.proofs.Common.{◌≡◌, ◌++◌, ◌∷◌, []}
use Rattle.std.specs.List.{flat_map, range_with_len}
use Rattle.mach_types.specs.declared.user_memory.Write.TheVariants.{Stored}
use Rattle.event_facts.specs.Reservations.{lost_of}
use Rattle.event_facts.specs.Telling.{past_of}
use Rattle.event_facts.proofs.reservations.push_all_lost.Given as goal

-- the harts so far
abbrev pub invariant-loop-number : goal.invariant-loop-number
invariant-loop-number l =
    l.facts.items ≡ l.initial.facts.items ++ flat_map (lost_of l.hart.0 (past_of l.machine) (Stored l.store ∷ [])) (range_with_len 0 l.number)
