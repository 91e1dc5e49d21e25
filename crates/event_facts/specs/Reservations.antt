-- What becomes of reservations (RISC-V Unprivileged ISA, chapter "A", LR and SC; what ends one beside them is own).
use Rattle.std.specs.Prelude.{ℕ, ◌==◌, List, [], ◌∷◌, ◌++◌, if◌then◌else◌, Option, Some, None, is_none}
use Rattle.std.specs.List.{flat_map, range_with_len}
use Rattle.mach_types.specs.declared.events.Hart.{Hart}
use Rattle.mach_types.specs.declared.user_memory.Write.{Write}
use Rattle.rv_inst.specs.Execution.{is_reserved, reserved_at}
use Rattle.rv_inst.specs.declared.effects.Effect.{Effect}
use Rattle.rv_inst.specs.declared.effects.Effect.TheVariants as effect
use Rattle.block_model.specs.Footprints.{bytes_of}
use Rattle.block_model.specs.History.{History, lost_to, reservation}
use Rattle.fact_types.specs.declared.facts.Fact.{Fact}
use Rattle.fact_types.specs.declared.facts.Fact.TheVariants.{Reserved, Used, Failed, Ended, Lost}

-- a reservation that an event of its hart ends, where it was this before and is that after
abbrev pub ended_facts : Option ℕ → Option ℕ → List Fact
ended_facts None after = []
ended_facts (Some r) None = Ended r ∷ []
ended_facts (Some r) (Some after) = []

-- an LR: it reserves the 8 bytes round its address, and takes the place of a reservation of other bytes, which ends
abbrev pub replaced_facts : Option ℕ → ℕ → List Fact
replaced_facts reserved at = if is_reserved reserved at then [] else ended_facts reserved None

abbrev pub lr_facts : Option ℕ → ℕ → List Fact
lr_facts reserved at = replaced_facts reserved at ++ Reserved (reserved_at at) ∷ []

-- an SC: it uses the reservation of the 8 bytes round its address; or it fails there, and ends whichever its hart has
abbrev pub sc_facts : Option ℕ → ℕ → List Fact
sc_facts reserved at =
    if is_reserved reserved at then Used (reserved_at at) ∷ []
    else Failed (reserved_at at) ∷ ended_facts reserved None

-- an instruction with this effect, on a hart that has this reserved: LR reserves, SC uses or fails, and no other changes it
abbrev pub reserving_facts : Option ℕ → Effect → List Fact
reserving_facts reserved (effect.Next rd value to) = []
reserving_facts reserved (effect.Load at size is_signed rd) = []
reserving_facts reserved (effect.Store at size value) = []
reserving_facts reserved (effect.Amo op at size value rd) = []
reserving_facts reserved (effect.Lr at size rd) = lr_facts reserved at
reserving_facts reserved (effect.Sc at size value rd) = sc_facts reserved at
reserving_facts reserved (effect.Fence full) = []
reserving_facts reserved effect.FenceI = []
reserving_facts reserved effect.Call = []
reserving_facts reserved effect.Break = []
reserving_facts reserved effect.Misaligned = []

-- what an event makes of its hart's reservation: by the instruction that it executes, where it executes one that makes neither a fault
-- nor a call; any other event may end it
abbrev pub own_facts : Option Effect → Option ℕ → Option ℕ → List Fact
own_facts None before after = ended_facts before after
own_facts (Some e) before after = reserving_facts before e

-- the hart of a number
abbrev pub hart_of : ℕ → Hart
hart_of k = record { 0 = k }

-- hart k, which has this reserved, loses it to the first of these writes that has one of its bytes
abbrev pub lost_facts : ℕ → Option ℕ → List Write → List Fact
lost_facts k None ws = []
lost_facts k (Some r) [] = []
lost_facts k (Some r) (w ∷ ws) =
    if is_none (lost_to w (Some r)) then Lost (hart_of k) r (bytes_of w).at ∷ [] else lost_facts k (Some r) ws

-- what the writes of an event of hart h make of the reservation of another hart
abbrev pub lost_of : ℕ → History → List Write → ℕ → List Fact
lost_of h before ws k = if h == k then [] else lost_facts k (reservation k before) ws

-- and of each of so many harts
abbrev pub all_lost : ℕ → History → List Write → ℕ → List Fact
all_lost h before ws harts = flat_map (lost_of h before ws) (range_with_len 0 harts)
