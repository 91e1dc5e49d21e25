-- Harts after writes of another hart or of the kernel.
use Rattle.std.specs.Prelude.{Bool, List, if◌then◌else◌}
use Rattle.mach_types.specs.declared.user_memory.Write.{Write}
use Rattle.hart_state.specs.declared.hart.HartState.{HartState}
use Rattle.block_model.specs.History.{lost_to, lost_after}

-- the hart's reservation ends where one of the bytes written is in it
abbrev pub lost_by_write : Write → HartState → HartState
lost_by_write w x = record x { reserved = lost_to w x.reserved }

abbrev pub lost_by_all : List Write → HartState → HartState
lost_by_all ws x = record x { reserved = lost_after ws x.reserved }

-- the same, but for the hart that wrote
abbrev pub lost_unless : Bool → List Write → HartState → HartState
lost_unless is_own ws x = if is_own then x else lost_by_all ws x
