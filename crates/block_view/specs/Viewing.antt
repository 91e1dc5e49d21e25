-- Viewing a log: its acts, or the first entry that a run can't have there (own).
use Rattle.std.specs.Prelude.{◌≡◌, List}
use Rattle.mach_types.specs.declared.events.Entry.{Entry}
use Rattle.block_model.specs.Replay.{IsFirstRefused, script_of}
use Rattle.block_model.specs.Run.{IsBlockRun}
use Rattle.block_model.specs.Setting.{Setting}
use Rattle.block_view.specs.Acts.{acts_of}
use Rattle.block_view.specs.declared.forms.Act.{Act}
use Rattle.block_view.specs.declared.viewing.ViewFault.{ViewFault}
use Rattle.block_view.specs.declared.viewing.ViewFault.TheVariants.{NotARun, NoMemory}

-- these are the acts of a log, which is a block run
pub record AreActs (s : Setting) (log : List Entry) (list : List Act) : Type 0 where
  pub block_run : IsBlockRun s log
  pub acts : list ≡ acts_of s log

-- why a log isn't viewed: the entry of this number is the first that isn't allowed at its place; or memory is short
abbrev pub IsViewCause : Setting → List Entry → ViewFault → Type 0
IsViewCause s log (NotARun number) = IsFirstRefused s (script_of log) number
IsViewCause s log NoMemory = Unit {0}
