-- A gathered log, played.
use Rattle.std.proofs.Common.{◌≡◌, ◌∙◌, ℕ, List, ap, ap₂, sym}
use Rattle.mach_types.specs.declared.events.Entry.{Entry}
use Rattle.mach_types.specs.declared.limits.End.{End}
use Rattle.mach_types.specs.Limits.{InRange}
use Rattle.step_log.specs.Grammar.{log_text}
use Rattle.block_model.specs.Setting.{Setting}
use Rattle.block_model.specs.Swaps.{IsEquivalentRun}
use Rattle.log_gather.specs.Gathered.{gathered}
use Rattle.log_gather.proofs.Laws.{gathered_run, same_console, same_end}
use Rattle.command_words.specs.Shown.{Shown, Gathered}
use Rattle.command_words.specs.Commands.{Run}
use Rattle.outcomes.specs.Outputs.{IsPlayOutput, IsRunOutput, setting_for, shown_text}
use Rattle.run_texts.specs.LogTexts.{log_output}
use Rattle.outcomes.specs.Programs.{Files, IsReadAs}
use Rattle.run_texts.specs.Text.{output_text}
use Rattle.output_laws.proofs.Repeats.{block_run_of, output_again}

-- the gathered log of a run comes to the console and the end that are shown with it
gathered_output : (s : Setting) (log : List Entry) → IsEquivalentRun s log (gathered s log)
    → shown_text Gathered s log ≡ log_output s (gathered s log)
gathered_output s log alike = ap₂ (λ (bytes : List ℕ) (end : End). output_text bytes (gathered s log) end)
    (sym (same_console s log (gathered s log) alike)) (sym (same_end s log (gathered s log) alike))

-- so played it gives the text with which it is shown
pub gathered_again : (files later : Files) (run : Run) (script written : List ℕ)
    → InRange run.limits → run.shown ≡ Gathered → later run.program ≡ files run.program
    → (output : IsRunOutput files run written)
    → IsReadAs later script (log_text (gathered (setting_for run output.image) output.log))
    → IsPlayOutput later run.program script run.limits written
gathered_again files later run script written range shows same output read =
    let s = setting_for run output.image in
    let log = gathered s output.log in
    let alike = gathered_run s output.log (block_run_of files run.source s output.log output.made) in
    output_again files later run.program script run.limits written output.image log range same output.taken
    alike.block_run
    (output.text ∙ ap (λ (x : Shown). shown_text x s output.log) shows ∙ gathered_output s output.log alike) read
