-- From a script that was read to the run that it made, and from a run to what is shown of it.
use Rattle.std.proofs.Common.{◌≡◌, ℕ, List, subst}
use Rattle.mach_types.specs.declared.limits.Limits.{Limits}
use Rattle.elf_load.specs.declared.image.Image.{Image}
use Rattle.block_model.specs.Setting.{Setting, Seen, setting_of}
use Rattle.command_words.specs.Commands.{Run, Script}
use Rattle.outcomes.specs.Outputs.{HasRun, IsRunOutput, shown_text}
use Rattle.outcomes.specs.Programs.{Files, IsProgram, IsScript}
use Rattle.whole_runs.specs.Runs.{IsPlayedRun, IsWholePlay}

pub run_by_script : (files same : Files) (program script lines given : List ℕ) (limits : Limits)
    (image : Image) (m : Seen) → same ≡ files → given ≡ lines → IsProgram files program limits image
    → IsScript same script lines → IsWholePlay (setting_of image limits) given m
    → HasRun files program (Script script) limits image m
run_by_script files same program script lines given limits image m is equal taken read whole = record {
  taken = taken;
  setting = whole.setting;
  made = record {
    lines = lines;
    read = subst (λ f. IsScript f script lines) is read;
    run = subst (λ t. IsPlayedRun (setting_of image limits) t m.log) equal whole.run;
  };
}

-- what is shown of a run is its output
pub output_of_run : (files : Files) (asked : Run) (image : Image) (m : Seen) (text : List ℕ)
    → HasRun files asked.program asked.source asked.limits image m
    → text ≡ shown_text asked.shown m.setting m.log → IsRunOutput files asked text
output_of_run files asked image m text run is = record {
  image = image;
  taken = run.taken;
  log = m.log;
  made = run.made;
  text = subst (λ (s : Setting). text ≡ shown_text asked.shown s m.log) run.setting is;
}
