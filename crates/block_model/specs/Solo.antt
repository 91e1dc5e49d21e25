-- The fixed rule of `solo` (own), by what a scheduler sees of hart 0: an idle hart runs the first ready thread; else, where a
-- signal is deliverable, the oldest waiting store enters memory, and where none waits the signal is delivered; else the thread
-- executes its next instruction where that is allowed, and else its oldest waiting store enters memory, where one waits. On the
-- one hart of `solo` one does, wherever an instruction isn't allowed.
use Rattle.std.specs.Prelude.{ℕ, ◌≡◌, List, [], ◌∷◌, Option, Some, None, if◌then◌else◌, nat_lt}
use Rattle.std.specs.Option.{option_map}
use Rattle.mach_types.specs.declared.events.Choice.{Choice}
use Rattle.mach_types.specs.declared.events.Choice.TheVariants as asked
use Rattle.mach_types.specs.declared.events.Entry.{Entry}
use Rattle.mach_types.specs.declared.events.Sight.{Sight}
use Rattle.mach_types.specs.Events.{choice_of}
use Rattle.block_model.specs.Setting.{Setting}
use Rattle.block_model.specs.Here.{Here}
use Rattle.block_model.specs.Sights.{sight_in}
use Rattle.block_model.specs.History.{History, here_in_history, ran}
use Rattle.block_model.specs.Deciding.{history}

-- the choice at what is seen
abbrev pub solo_rule : Sight → Option Choice
solo_rule seen =
    if seen.idle then option_map asked.Run seen.first_ready
    else if seen.deliverable then (if nat_lt 0 seen.stores then Some asked.Drain else Some asked.Signal)
    else if seen.exec_enabled then Some asked.Exec
    else if nat_lt 0 seen.stores then Some asked.Drain
    else None

-- what is read of hart 0
pub record Sighted : Type 0 where
  pub here : Here
  pub ran : ℕ

-- the choice of the rule, which no credit matters to
abbrev pub solo_choice_in : Sighted → Option Choice
solo_choice_in seen = solo_rule (sight_in seen.here seen.ran 0)

-- the choice of hart 0 at a place
abbrev pub solo_choice : Setting → History → Option Choice
solo_choice s before = solo_choice_in (record { here = here_in_history s before 0; ran = ran 0 before })

-- every entry is the choice of the rule at its place, on hart 0
abbrev pub IsSoloHistory : Setting → History → Type 0
IsSoloHistory s [] = Unit {0}
IsSoloHistory s (e ∷ before) = IsSoloHistory s before × (e.entry.hart.0 ≡ 0) × (solo_choice s before ≡ Some (choice_of e.entry))

-- every entry of the log is the choice of the rule at its place
abbrev pub IsSolo : Setting → List Entry → Type 0
IsSolo s log = IsSoloHistory s (history s log)
