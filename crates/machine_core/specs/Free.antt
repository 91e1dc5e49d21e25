-- Whether a hart goes on whatever memory is and whatever stores wait (own).
use Rattle.std.specs.Prelude.{◌&&◌, Bool, is_none}
use Rattle.block_model.specs.Here.{Here, runs}
use Rattle.block_model.specs.Events.Exec.{refusal_exec}
use Rattle.block_model.specs.Sights.{is_local_on}

-- the thread on the hart may execute its next instruction, which touches registers and the pc alone and makes no fault
abbrev pub goes_freely : Here → Bool
goes_freely here = is_none (refusal_exec here) && is_local_on here (runs here)
