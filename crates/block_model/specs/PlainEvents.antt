-- Plain events: a store enters memory, or a thread executes an instruction that makes neither a fault nor a call; and which bytes the
-- access of one touches (own; accesses are those of the RISC-V Unprivileged ISA, "Ztso").
use Rattle.std.specs.Prelude.{ℕ, Bool, true, false, not, ◌&&◌, List, [], ◌∷◌, Option, Some, None, is_none}
use Rattle.std.specs.Option.{option_and_then}
use Rattle.mach_types.specs.Events.{maker_of}
use Rattle.mach_types.specs.declared.events.Choice.{Choice}
use Rattle.mach_types.specs.declared.events.Maker.{Maker}
use Rattle.mach_types.specs.declared.events.Maker.TheVariants.{Thread, Buffer, Kernel}
use Rattle.mach_types.specs.declared.user_memory.Store.{Store}
use Rattle.rv_inst.specs.Class.{is_call}
use Rattle.rv_inst.specs.declared.effects.Effect.{Effect}
use Rattle.block_model.specs.Events.Exec.{next_effect, next_fault}
use Rattle.rv_inst.specs.Accesses.{bytes, read_by, reserved_by, written_by}
use Rattle.block_model.specs.Footprints.{Footprint}
use Rattle.block_model.specs.Here.{Here, runs, waiting_here}

-- whether the thread on the hart executes an instruction that makes neither a fault nor a call
abbrev pub is_plain_exec_of : Option ℕ → Option Effect → Bool
is_plain_exec_of fault None = false
is_plain_exec_of fault (Some e) = is_none fault && not (is_call e)

abbrev pub is_plain_exec_by : Here → Option ℕ → Bool
is_plain_exec_by here None = false
is_plain_exec_by here (Some t) = is_plain_exec_of (next_fault here t) (next_effect here t)

abbrev pub is_plain_by : Maker → Here → Bool
is_plain_by Thread here = is_plain_exec_by here (runs here)
is_plain_by Buffer here = true
is_plain_by Kernel here = false

abbrev pub is_plain : Choice → Here → Bool
is_plain c here = is_plain_by (maker_of c) here

-- the bytes that the access of an event reads and writes: of the instruction that the thread executes next, or of the oldest store
-- that waits, as it enters memory
abbrev pub no_bytes : Footprint
no_bytes = record { reads = []; writes = [] }

abbrev pub footprint_of : Option Effect → Footprint
footprint_of None = no_bytes
footprint_of (Some e) = record { reads = read_by e; writes = written_by e }

abbrev pub footprint_exec : Here → Option ℕ → Footprint
footprint_exec here None = no_bytes
footprint_exec here (Some t) = footprint_of (next_effect here t)

abbrev pub footprint_drain : List Store → Footprint
footprint_drain [] = no_bytes
footprint_drain (w ∷ ws) = record no_bytes { writes = bytes w.at w.size ∷ [] }

abbrev pub footprint_by : Maker → Here → Footprint
footprint_by Thread here = footprint_exec here (runs here)
footprint_by Buffer here = footprint_drain (waiting_here here)
footprint_by Kernel here = no_bytes

abbrev pub footprint : Choice → Here → Footprint
footprint c here = footprint_by (maker_of c) here

-- what its hart has reserved after a plain event; nothing where that is what it had
abbrev pub reserved_exec : Here → Option ℕ → Option (Option ℕ)
reserved_exec here None = None
reserved_exec here (Some t) = option_and_then reserved_by (next_effect here t)

abbrev pub reserved_by_maker : Maker → Here → Option (Option ℕ)
reserved_by_maker Thread here = reserved_exec here (runs here)
reserved_by_maker Buffer here = None
reserved_by_maker Kernel here = None

abbrev pub reserved_of : Choice → Here → Option (Option ℕ)
reserved_of c here = reserved_by_maker (maker_of c) here
