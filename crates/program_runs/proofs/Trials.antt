-- From the file of a guest to its image, and from a whole run by rounds to the text of a trial.
use Rattle.std.proofs.Common.{◌≡◌, ◌∙◌, ◌⊎◌, inl, inr, ℕ, List, None, Some, ap, ap₂, subst, sym}
use Rattle.mach_types.specs.declared.limits.Limits.{Limits}
use Rattle.elf_load.specs.declared.fault.ElfFault.{ElfFault}
use Rattle.elf_load.specs.declared.fault.ElfFault.TheVariants.{NoMemory}
use Rattle.elf_load.specs.declared.image.Image.{Image}
use Rattle.elf_load.specs.Faults.{first_fault}
use Rattle.elf_load.specs.Images.{IsImage}
use Rattle.block_model.specs.Run.{IsBlockRun}
use Rattle.block_model.specs.Setting.{Seen, Setting, setting_of}
use Rattle.command_words.specs.declared.commands.Guest.{Guest}
use Rattle.command_words.specs.declared.commands.Trial.{Trial}
use Rattle.command_words.specs.Commands.{trial_limits}
use Rattle.outcomes.specs.Guests.{IsGuestImage, IsGuestOutput, IsTrialOutput}
use Rattle.run_texts.specs.LogTexts.{tried_text}
use Rattle.whole_runs.specs.Rounds.{IsRoundsRun, IsWholeRounds}

-- the image of a guest's file
pub image_of_guest : (guest : Guest) (limits : Limits) (bytes given : List ℕ) (image : Image) → given ≡ bytes
    → IsGuestOutput guest bytes → first_fault given limits.frames ≡ None → IsImage given image
    → IsGuestImage guest limits image
image_of_guest guest limits bytes given image same made none loaded = record {
  bytes = bytes;
  made = made;
  good = record {
    fits = made.file.small;
    no_fault = subst (λ (b : List ℕ). first_fault b limits.frames ≡ None) same none;
  };
  loaded = subst (λ (b : List ℕ). IsImage b image) same loaded;
}

-- such a file has no fault, so the loader wants memory alone
pub only_memory : (guest : Guest) (limits : Limits) (bytes given : List ℕ) (fault : ElfFault) → given ≡ bytes
    → limits.frames ≡ 4096 → IsGuestOutput guest bytes
    → (fault ≡ NoMemory) ⊎ (first_fault given limits.frames ≡ Some fault) → fault ≡ NoMemory
only_memory guest limits bytes given fault same frames made (inl is) = is
only_memory guest limits bytes given fault same frames made (inr is) =
    let none : first_fault given limits.frames ≡ None = ap₂ first_fault same frames ∙ made.file.taken in
    absurd (cc (sym none ∙ is))

-- a machine at the end of a whole run by rounds made a block run
pub block_run_of_rounds : (s : Setting) (seed : ℕ) (m : Seen) → IsWholeRounds s seed m → IsBlockRun m.setting m.log
block_run_of_rounds s seed m whole =
    subst (λ (t : Setting). IsBlockRun t m.log) (sym whole.setting) whole.run.block_run

-- what is shown of it is the text of the trial
pub output_of_trial : (trial : Trial) (limits : Limits) (image : Image) (m : Seen) (text : List ℕ)
    → limits ≡ trial_limits trial → IsGuestImage trial.guest limits image
    → IsWholeRounds (setting_of image limits) trial.seed m → text ≡ tried_text m.setting m.log
    → IsTrialOutput trial text
output_of_trial trial limits image m text same taken whole is = record {
  image = image;
  taken = subst (λ (l : Limits). IsGuestImage trial.guest l image) same taken;
  log = m.log;
  made = subst (λ (l : Limits). IsRoundsRun (setting_of image l) trial.seed m.log) same whole.run;
  text = is ∙ ap (λ (s : Setting). tried_text s m.log) (whole.setting ∙ ap (setting_of image) same);
}
