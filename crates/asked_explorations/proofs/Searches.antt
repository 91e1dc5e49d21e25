-- From what a search found to its text.
use Rattle.std.proofs.Common.{◌≡◌, ◌≤◌, ℕ, List, Option, All}
use Rattle.elf_load.specs.declared.image.Image.{Image}
use Rattle.std.proofs.lemmas.List.Elements.{All-contains}
use Rattle.block_model.specs.Run.{IsBlockRun}
use Rattle.block_model.specs.Setting.{Setting, setting_of}
use Rattle.command_words.specs.declared.commands.SearchSettings.{SearchSettings}
use Rattle.search_reductions.specs.declared.signals.Signals.{Signals}
use Rattle.found_outcomes.specs.Found.{IsShown}
use Rattle.found_outcomes.specs.Reduced.{IsSearchBy}
use Rattle.found_outcomes.specs.Search.{IsSearchOf}
use Rattle.found_outcomes.specs.declared.findings.Findings.{Findings}
use Rattle.found_outcomes.specs.declared.findings.OutcomeFound.{OutcomeFound}
use Rattle.search_text.specs.Text.{AreDigits, HasDigits, findings_text}
use Rattle.run_texts.proofs.Digits.{digits}
use Rattle.outcomes.specs.Programs.{Files, IsProgram}
use Rattle.outcomes.specs.Searches.{IsSearchOutput}

-- each hart in the logs that were found is one digit
pub found_digits : (s : Setting) (signals : Signals) (os : List OutcomeFound) → s.limits.harts ≤ 8 → All (IsShown s signals) os → All HasDigits os
found_digits s signals os eight shown = λ k d lt. digits s _ eight (shown k d lt).0.run

-- and in that which leads to the nearest hopeless place
pub nearest_digits : (s : Setting) (signals : Signals) (most : ℕ) (preemptions : Option ℕ) (found : Findings) → s.limits.harts ≤ 8 → IsSearchOf s signals most preemptions found → AreDigits found.hopeless.nearest.items
nearest_digits s signals most preemptions found eight search =
    digits s found.hopeless.nearest.items eight (All-contains (IsBlockRun s) search.logs found.hopeless.nearest.items search.visited.runs search.nearest)

pub output_of_search : {files : Files} {program : List ℕ} {image : Image} {text : List ℕ} (settings : SearchSettings)
    (found : Findings) → IsProgram files program settings.limits image
    → IsSearchBy (setting_of image settings.limits) settings.signals settings.reductions settings.places settings.preemptions found → text ≡ findings_text settings.apart settings.signals settings.scripts found
    → IsSearchOutput files program settings text
output_of_search {image = image} settings found taken searched text =
    record { image = image; taken = taken; found = found; searched = searched; text = text }
