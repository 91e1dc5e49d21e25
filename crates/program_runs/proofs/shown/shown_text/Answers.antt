use Rattle.command_words.specs.Kept.{run_said}
use Rattle.outcomes.specs.Outputs.{setting_for}
use Rattle.run_texts.proofs.Digits.{digits_of}
use Rattle.program_runs.proofs.shown.shown_text.Goals as goal

pub run_output-requires : goal.run_output-requires
run_output-requires c =
    digits_of (setting_for (run_said c.args.run.now) c.args.image.now) c.args.machine c.requires.limits.eight_harts
    c.requires.setting c.requires.run
