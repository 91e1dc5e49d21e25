-- What `draw` prints of an outcome that `explore` tells (own).
use Rattle.std.specs.Prelude.{ℕ, ◌≡◌, List, length}
use Rattle.mach_types.specs.declared.events.Entry.{Entry}
use Rattle.draw_policies.specs.declared.policies.Policies.{Policies}
use Rattle.explored_runs.specs.Made.{kept}
use Rattle.explored_runs.specs.declared.explored.Found.{Found}
use Rattle.command_words.specs.Commands.{Drawn, Run}
use Rattle.command_words.specs.Shown.{Output}
use Rattle.command_words.specs.declared.commands.Settings.{Settings}
use Rattle.outcomes.specs.Explorations.{exploration_of}
use Rattle.run_texts.specs.Text.{output_text}

-- the run that `draw` makes of the seed of an outcome, by these policies and with all else as the exploration has it
abbrev pub drawing : List ℕ → Settings → Policies → Found → Run
drawing program settings policies f = record {
  program = program;
  source = Drawn f.seed (record settings.draws { policies = policies });
  shown = Output;
  limits = settings.limits;
}

-- the text of a run with this outcome: with its end, with its console where the exploration keeps consoles, and with a log of so many
-- entries as are told of its first run
pub record HasOutcome (settings : Settings) (f : Found) (written : List ℕ) : Type 0 where
  pub console : List ℕ
  pub log : List Entry
  pub text : written ≡ output_text console log f.end
  pub same : f.console ≡ kept (exploration_of settings).apart console
  pub steps : f.steps ≡ length log
