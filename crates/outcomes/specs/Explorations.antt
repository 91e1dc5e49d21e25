-- The text of an exploration (own).
use Rattle.std.specs.Prelude.{ℕ, ◌≡◌, Bool, List, Option, Some, None, find, not, option_map}
use Rattle.mach_types.specs.declared.limits.End.{End}
use Rattle.elf_load.specs.declared.image.Image.{Image}
use Rattle.block_model.specs.Setting.{setting_of}
use Rattle.command_words.specs.declared.commands.Settings.{Settings}
use Rattle.explored_runs.specs.Accounts.{Account, same_end}
use Rattle.explored_runs.specs.Explored.{IsExploredAs}
use Rattle.explored_runs.specs.Text.{explored_text}
use Rattle.explored_runs.specs.declared.exploration.Exploration.{Exploration}
use Rattle.explored_runs.specs.declared.explored.Found.{Found}
use Rattle.explored_runs.specs.declared.explored.Others.{Others}
use Rattle.call_reasons.specs.declared.reasons.OtherEnd.{OtherEnd}
use Rattle.outcomes.specs.Programs.{Files, IsProgram}

-- the exploration that these settings ask for
abbrev pub exploration_of : Settings → Exploration
exploration_of settings = record {
  policies = settings.draws.policies;
  calm = settings.draws.calm;
  first = settings.seed;
  runs = settings.runs;
  until = settings.until;
  apart = settings.apart;
}

-- the text of an exploration of the program of this name: what is told of its runs
pub record IsExploreOutput (files : Files) (program : List ℕ) (settings : Settings) (written : List ℕ) : Type 0 where
  pub image : Image
  pub taken : IsProgram files program settings.limits image
  pub account : Account
  pub told : IsExploredAs (setting_of image settings.limits) (exploration_of settings) account
  pub text : written ≡ explored_text settings.apart account

-- the runs of an outcome ended otherwise than is expected
abbrev pub ends_otherwise : End → Found → Bool
ends_otherwise expected f = not (same_end f.end expected)

-- of an outcome: how its runs ended, and the seed of the first
abbrev pub end_found : Found → OtherEnd
end_found f = record { end = Some f.end; seed = f.seed }

-- of the runs that came to none of the outcomes that are told apart: how they ended isn't told
abbrev pub end_untold : Others → OtherEnd
end_untold o = record { end = None; seed = o.seed }

-- an outcome, or else those runs, if there are any
abbrev pub found_or : Option Others → Option Found → Option OtherEnd
found_or others None = option_map end_untold others
found_or others (Some f) = Some (end_found f)

-- the first outcome that is told whose runs ended otherwise than is expected, where an end is. Runs that came to none of the outcomes
-- that are told apart count as such: it isn't known how they ended
abbrev pub other_end : Option End → Account → Option OtherEnd
other_end None a = None
other_end (Some expected) a = found_or a.others (find (ends_otherwise expected) a.found)

-- the text of an exploration of the program of this name, of which this is the first outcome that ended otherwise than is expected
pub record IsJudgedExploration
    (files : Files) (program : List ℕ) (settings : Settings) (other : Option OtherEnd) (written : List ℕ) : Type 0 where
  pub image : Image
  pub taken : IsProgram files program settings.limits image
  pub account : Account
  pub told : IsExploredAs (setting_of image settings.limits) (exploration_of settings) account
  pub text : written ≡ explored_text settings.apart account
  pub judged : other ≡ other_end settings.expected account
