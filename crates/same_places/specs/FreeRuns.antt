-- Runs that no step limit ends (own).
use Rattle.std.specs.Prelude.{ℕ, ◌≡◌, List, [], ◌∷◌, Result, Ok}
use Rattle.mach_types.specs.Events.{choice_of}
use Rattle.mach_types.specs.declared.events.Choice.{Choice}
use Rattle.mach_types.specs.declared.events.Entry.{Entry}
use Rattle.block_model.specs.declared.refusals.Refused.{Refused}
use Rattle.block_model.specs.Plain.{Plain, plain_decide, plain_next, plain_start}
use Rattle.block_model.specs.Setting.{Setting}

-- what the plain machine answers where no event counts against the step limit: it answers as if none had been
-- made
abbrev pub free_decide : Setting → Plain → ℕ → Choice → Result Entry Refused
free_decide s p h c = plain_decide s (record p { made = 0 }) h c

-- from a place on, every entry is the one that is decided at its place
abbrev pub IsFreeFrom : Setting → Plain → List Entry → Type 0
IsFreeFrom s p [] = Unit {0}
IsFreeFrom s p (e ∷ log) =
    (free_decide s p e.hart.0 (choice_of e) ≡ Ok e) × IsFreeFrom s (plain_next s p e) log

-- a run of any number of steps
abbrev pub IsFreeRun : Setting → List Entry → Type 0
IsFreeRun s log = IsFreeFrom s (plain_start s) log
