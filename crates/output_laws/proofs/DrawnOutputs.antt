-- What `draw` prints of a seed that `explore` tells.
use Rattle.std.proofs.Common.{◌≡◌, ◌∙◌, ℕ, List, Some, refl, sym, ap, ap₂, subst, All}
use Rattle.std.specs.Prelude.{IsSome}
use Rattle.elf_load.specs.declared.image.Image.{Image}
use Rattle.block_model.specs.Deciding.{history}
use Rattle.block_model.specs.History.{console}
use Rattle.block_model.specs.Setting.{Setting, setting_of}
use Rattle.draw_policies.specs.Policies.{policy_for}
use Rattle.draw_policies.specs.declared.policies.Policies.{Policies}
use Rattle.draw_policies.specs.declared.policies.Policy.{Policy}
use Rattle.drawn_runs.specs.Manners.{manner_for}
use Rattle.drawn_runs.specs.WholeRuns.{IsDrawnRun}
use Rattle.drawn_runs.specs.declared.manner.Manner.{Manner}
use Rattle.explored_runs.specs.DrawnOutcomes.{IsDrawnOutcome}
use Rattle.explored_runs.specs.Explorations.{manner_at}
use Rattle.explored_runs.specs.declared.explored.Found.{Found}
use Rattle.explored_runs.proofs.DrawnOutcomes.{drawn_outcomes}
use Rattle.command_words.specs.Commands.{Runs}
use Rattle.command_words.specs.Shown.{Output}
use Rattle.command_words.specs.declared.commands.Settings.{Settings}
use Rattle.outcomes.specs.Explorations.{IsExploreOutput, exploration_of}
use Rattle.outcomes.specs.Outputs.{IsRunOutput, shown_text}
use Rattle.outcomes.specs.Programs.{Files, IsProgram}
use Rattle.run_texts.specs.Text.{output_text}
use Rattle.output_laws.specs.DrawnOutcomes.{HasOutcome, drawing}
use Rattle.output_laws.proofs.OneOutput.{one_output}
use Rattle.output_laws.proofs.Repeats.{taken_again}

-- an output of the run, with the outcome
pub record IsDrawnOutput (files : Files) (program : List ℕ) (settings : Settings) (policies : Policies) (f : Found) : Type 0 where
  pub written : List ℕ
  pub output : IsRunOutput files (drawing program settings policies f) written
  pub outcome : HasOutcome settings f written

module _ (files later : Files) (program : List ℕ) (settings : Settings) (policies : Policies) (image : Image) (f : Found)
    (is : IsDrawnOutcome (setting_of image settings.limits) (exploration_of settings) settings.runs f)
    (chosen : policy_for policies f.seed ≡ f.policy) where
  abbrev s : Setting
  s = setting_of image settings.limits

  abbrev there : Manner
  there = manner_at s (exploration_of settings) is.place

  -- the manner of its place is that of its seed and its policy
  same_manner : there ≡ manner_for policies settings.draws.calm f.seed s.limits.steps
  same_manner =
      ap₂ (λ (seed : ℕ) (policy : Policy). record there { seed = seed; policy = policy }) (sym is.seed)
      (sym is.policy ∙ sym chosen)

  drawn : IsDrawnRun s (manner_for policies settings.draws.calm f.seed s.limits.steps) is.log
  drawn = subst (λ (m : Manner). IsDrawnRun s m is.log) same_manner is.run

  abbrev text : List ℕ
  text = shown_text Output s is.log

  has_outcome : HasOutcome settings f text
  has_outcome = record {
    console = console s (history s is.log);
    log = is.log;
    text = ap (output_text (console s (history s is.log)) is.log) (sym is.end);
    same = is.console;
    steps = is.steps;
  }

  drawn_output : later program ≡ files program → IsProgram files program settings.limits image
      → IsDrawnOutput later program settings policies f
  drawn_output same taken = record {
    written = text;
    output = record {
      image = image;
      taken = taken_again files later program settings.limits image same taken;
      log = is.log;
      made = drawn;
      text = refl;
    };
    outcome = has_outcome;
  }

-- so it is of each outcome that is told
pub drawn_of_each : (files later : Files) (program written : List ℕ) (settings : Settings) (policies : Policies)
    → later program ≡ files program → (output : IsExploreOutput files program settings written)
    → All (λ (f : Found). policy_for policies f.seed ≡ f.policy → IsDrawnOutput later program settings policies f)
    output.account.found
drawn_of_each files later program written settings policies same output k d lt chosen =
    let s = setting_of output.image settings.limits in
    drawn_output files later program settings policies output.image _
    (drawn_outcomes s (exploration_of settings) output.account output.told k d lt) chosen same output.taken

-- and where the program is told, each output has the outcome
only_one : (later : Files) (program : List ℕ) (settings : Settings) (policies : Policies) (f : Found) → IsSome (later program)
    → IsDrawnOutput later program settings policies f → (text : List ℕ)
    → IsRunOutput later (drawing program settings policies f) text → HasOutcome settings f text
only_one later program settings policies f told its text other =
    subst (HasOutcome settings f)
    (one_output later (Some (Runs (drawing program settings policies f))) its.written text refl told its.output other)
    its.outcome

pub only_drawn : (files later : Files) (program written : List ℕ) (settings : Settings) (policies : Policies)
    → later program ≡ files program → IsSome (later program) → (output : IsExploreOutput files program settings written)
    → All (λ (f : Found). policy_for policies f.seed ≡ f.policy → (text : List ℕ)
    → IsRunOutput later (drawing program settings policies f) text → HasOutcome settings f text) output.account.found
only_drawn files later program written settings policies same told output k d lt chosen text other =
    only_one later program settings policies _ told
    (drawn_of_each files later program written settings policies same output k d lt chosen) text other
