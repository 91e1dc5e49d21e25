-- What the access of a plain event touches, as code keeps it (own).
use Rattle.std.specs.Prelude.{ℕ, ◌≡◌, not, ◌&&◌, List, [], ◌∷◌, if◌then◌else◌, Option, Some, None, is_none}
use Rattle.mach_types.specs.declared.events.Choice.{Choice}
use Rattle.mach_types.specs.declared.user_memory.Store.{Store}
use Rattle.rv_inst.specs.Class.{is_call}
use Rattle.rv_inst.specs.Execution.{is_reserved}
use Rattle.rv_inst.specs.declared.effects.Effect.{Effect}
use Rattle.rv_inst.specs.declared.effects.Effect.TheVariants as effect
use Rattle.block_model.specs.Events.{done_of}
use Rattle.rv_inst.specs.Accesses.{Bytes, bytes}
use Rattle.block_model.specs.Footprints.{bytes_of_all}
use Rattle.block_model.specs.Here.{Here}
use Rattle.block_model.specs.PlainEvents.{footprint, reserved_of}
use Rattle.block_model.specs.Sights.{effect_here, fault_here}
use Rattle.log_gather.specs.declared.accesses.Access.{Access}
use Rattle.log_gather.specs.declared.accesses.Range.{Range}

-- the bytes of a range, if there is one
abbrev pub bytes_in : Option Range → List Bytes
bytes_in None = []
bytes_in (Some x) = bytes x.at x.count ∷ []

-- the bytes of a store, if there is one
abbrev pub bytes_of_store : Option Store → List Bytes
bytes_of_store None = []
bytes_of_store (Some x) = bytes x.at x.size ∷ []

-- the bytes that an instruction with this effect writes in memory at once, on a hart that has this reserved
abbrev pub entered_by : Option ℕ → Effect → List Bytes
entered_by reserved (effect.Next rd value to) = []
entered_by reserved (effect.Load at size is_signed rd) = []
entered_by reserved (effect.Store at size value) = []
entered_by reserved (effect.Amo op at size value rd) = bytes at size ∷ []
entered_by reserved (effect.Lr at size rd) = []
entered_by reserved (effect.Sc at size value rd) = if is_reserved reserved at then bytes at size ∷ [] else []
entered_by reserved (effect.Fence full) = []
entered_by reserved effect.FenceI = []
entered_by reserved effect.Call = []
entered_by reserved effect.Break = []
entered_by reserved effect.Misaligned = []

-- the effect of the next instruction of the thread on the hart, where it makes neither a fault nor a call
abbrev pub plain_effect_of : Option ℕ → Option Effect → Option Effect
plain_effect_of fault None = None
plain_effect_of fault (Some e) = if is_none fault && not (is_call e) then Some e else None

abbrev pub plain_effect_here : Here → Option Effect
plain_effect_here here = plain_effect_of (fault_here here) (effect_here here)

-- what the access of an event of this choice touches
pub record IsAccess (c : Choice) (here : Here) (a : Access) : Type 0 where
  pub reads : bytes_in a.reads ≡ (footprint c here).reads
  pub writes : bytes_in a.writes ≡ (footprint c here).writes
  pub entered : bytes_in a.entered ≡ bytes_of_all (done_of c here).entered
  pub reserves : a.reserves ≡ reserved_of c here
