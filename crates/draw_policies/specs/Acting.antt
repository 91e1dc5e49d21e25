-- Whether a hart can make an event (own), by what is seen of it.
use Rattle.std.specs.Prelude.{◌||◌, Bool, if◌then◌else◌}
use Rattle.mach_types.specs.declared.events.Sight.{Sight}
use Rattle.chooser.specs.Cases.{has_stores}

-- an idle hart can where a request is pending, or a thread may begin to run there; one whose thread waits in a barrier where a
-- request is pending, or the barrier can return; another where its next instruction is allowed, or a store of it waits. So a hart
-- can't act alone where its next instruction waits for the stores of others
abbrev pub can_act : Sight → Bool → Bool
can_act seen startable =
    if seen.idle then seen.requested || startable
    else if seen.in_barrier then seen.requested || seen.all_taken
    else seen.exec_enabled || has_stores seen
