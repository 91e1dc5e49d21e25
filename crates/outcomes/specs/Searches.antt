-- The text of a search for all outcomes of a program (own).
use Rattle.std.specs.Prelude.{ℕ, ◌≡◌, List}
use Rattle.elf_load.specs.declared.image.Image.{Image}
use Rattle.block_model.specs.Setting.{setting_of}
use Rattle.command_words.specs.declared.commands.SearchSettings.{SearchSettings}
use Rattle.found_outcomes.specs.Reduced.{IsSearchBy}
use Rattle.found_outcomes.specs.declared.findings.Findings.{Findings}
use Rattle.search_text.specs.Text.{findings_text}
use Rattle.outcomes.specs.Programs.{Files, IsProgram}

-- the text of a search of all runs of the program of this name, with so many places at most, and with these reductions: what was found. At
-- `Complete` it has the outcome of every run that ends; at `Within` of each that ends and has so many preemptions at most as are asked for
pub record IsSearchOutput (files : Files) (program : List ℕ) (settings : SearchSettings) (written : List ℕ) : Type 0 where
  pub image : Image
  pub taken : IsProgram files program settings.limits image
  pub found : Findings
  pub searched : IsSearchBy (setting_of image settings.limits) settings.signals settings.reductions settings.places settings.preemptions found
  pub text : written ≡ findings_text settings.apart settings.signals settings.scripts found
