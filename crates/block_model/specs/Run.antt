-- Block runs: logs of which every entry is allowed at its place.
use Rattle.std.specs.Prelude.{◌≡◌, List, [], ◌∷◌, Ok}
use Rattle.mach_types.specs.declared.events.Entry.{Entry}
use Rattle.mach_types.specs.Events.{choice_of}
use Rattle.block_model.specs.Setting.{Setting}
use Rattle.block_model.specs.History.{History}
use Rattle.block_model.specs.Deciding.{decide, event, history}
use Rattle.block_model.specs.Barriers.{HaveReturned}
use Rattle.block_model.specs.Whole.{IsWholeHistory}

-- every entry is the one that is decided at its place, and did what is done there
abbrev pub IsRunHistory : Setting → History → Type 0
IsRunHistory s [] = Unit {0}
IsRunHistory s (e ∷ before) =
    IsRunHistory s before × (decide s before e.entry.hart.0 (choice_of e.entry) ≡ Ok e.entry) × (e ≡ event s before e.entry)

-- every entry of the log is allowed at its place
abbrev pub IsAllowedLog : Setting → List Entry → Type 0
IsAllowedLog s log = IsRunHistory s (history s log)

-- a block run: every entry of the log is allowed at its place, every restartable sequence of it is whole, and every barrier that
-- returned did so properly
pub record IsBlockRun (s : Setting) (log : List Entry) : Type 0 where
  pub allowed : IsAllowedLog s log
  pub whole : IsWholeHistory s (history s log)
  pub barriers : HaveReturned s (history s log)
