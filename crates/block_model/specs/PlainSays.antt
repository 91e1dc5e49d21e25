-- What the plain machine says of a log.
use Rattle.std.specs.Prelude.{ℕ, ◌≡◌, List, Ok}
use Rattle.mach_types.specs.declared.events.Choice.{Choice}
use Rattle.mach_types.specs.declared.events.Entry.{Entry}
use Rattle.block_model.specs.Deciding.{decide, end_of, history}
use Rattle.block_model.specs.History.{console}
use Rattle.block_model.specs.Plain.{Plain, plain_decide, plain_end, plain_run, plain_solo_choice}
use Rattle.block_model.specs.Replay.{Ask}
use Rattle.block_model.specs.Setting.{Setting}
use Rattle.block_model.specs.Solo.{solo_choice}

-- what a machine says after a log is what is read by looking back through the log: its console, its end, its answer to
-- every hart and choice, and its choice under the fixed rule
pub record SaysOf (s : Setting) (log : List Entry) (m : Plain) : Type 0 where
  pub same_console : m.kernel.console ≡ console s (history s log)
  pub same_end : plain_end s m ≡ end_of s (history s log)
  pub same_answers : (h : ℕ) (choice : Choice) → plain_decide s m h choice ≡ decide s (history s log) h choice
  pub same_rule : plain_solo_choice s m ≡ solo_choice s (history s log)

-- the machine's run over a script makes this log, and the machine then says what is read from it
pub record MakesLog (s : Setting) (lines : List Ask) (log : List Entry) : Type 0 where
  pub machine : Plain
  pub made : plain_run s lines ≡ Ok (record { log = log; machine = machine })
  pub says : SaysOf s log machine
