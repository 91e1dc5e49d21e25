-- A machine as it is seen, at the end of its log.
use Rattle.std.specs.Prelude.{ℕ}
use Rattle.block_model.specs.Deciding.{history}
use Rattle.block_model.specs.Here.{Here}
use Rattle.block_model.specs.History.{History, here_in_history}
use Rattle.block_model.specs.Setting.{Seen}

-- what happened
abbrev pub past_of : Seen → History
past_of seen = history seen.setting seen.log

-- what a rule may read of hart h
abbrev pub here_of : Seen → ℕ → Here
here_of seen h = here_in_history seen.setting (past_of seen) h
