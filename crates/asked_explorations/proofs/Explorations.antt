-- From what is told of runs to the text of an exploration.
use Rattle.std.proofs.Common.{◌≡◌, ◌∙◌, ℕ, List, Option, ap, subst}
use Rattle.elf_load.specs.declared.image.Image.{Image}
use Rattle.block_model.specs.Setting.{setting_of}
use Rattle.command_words.specs.declared.commands.Settings.{Settings}
use Rattle.explored_runs.specs.declared.exploration.Exploration.{Exploration}
use Rattle.explored_runs.specs.declared.explored.Explored.{Explored}
use Rattle.explored_runs.specs.Accounts.{account_of}
use Rattle.explored_runs.specs.Explored.{IsExplored, IsExploredAs}
use Rattle.explored_runs.specs.Text.{explored_text}
use Rattle.outcomes.specs.Explorations.{IsJudgedExploration, exploration_of, other_end}
use Rattle.call_reasons.specs.declared.reasons.OtherEnd.{OtherEnd}
use Rattle.outcomes.specs.Programs.{Files, IsProgram}

pub judged_exploration : {files : Files} {program : List ℕ} {image : Image} {x : Exploration} {text : List ℕ}
    {other : Option OtherEnd} (settings : Settings) (e : Explored) → IsProgram files program settings.limits image
    → x ≡ exploration_of settings → IsExplored (setting_of image settings.limits) x e
    → text ≡ explored_text x.apart (account_of e) → other ≡ other_end settings.expected (account_of e)
    → IsJudgedExploration files program settings other text
judged_exploration {image = image} settings e taken same told is judged = record {
  image = image;
  taken = taken;
  account = account_of e;
  told = subst (λ (y : Exploration). IsExploredAs (setting_of image settings.limits) y (account_of e)) same told;
  text = is ∙ ap (λ (y : Exploration). explored_text y.apart (account_of e)) same;
  judged = judged;
}
