-- The file of a guest, and a trial of it (own).
use Rattle.std.specs.Prelude.{ℕ, ◌≡◌, ◌++◌, List, Ok, true}
use Rattle.mach_types.specs.declared.events.Entry.{Entry}
use Rattle.mach_types.specs.declared.limits.End.{End}
use Rattle.mach_types.specs.declared.limits.Limits.{Limits}
use Rattle.elf_load.specs.declared.image.Image.{Image}
use Rattle.elf_load.specs.Images.{IsImage}
use Rattle.guest_names.specs.Guests.{is_size}
use Rattle.guest_programs.specs.Guests.{IsGuestFile}
use Rattle.block_model.specs.Deciding.{end_of, history}
use Rattle.block_model.specs.History.{console}
use Rattle.block_model.specs.Plain.{PlainRun, plain_end, plain_run}
use Rattle.block_model.specs.Replay.{script_of}
use Rattle.block_model.specs.Setting.{Setting, setting_of}
use Rattle.block_view.specs.Acts.{acts_of}
use Rattle.command_words.specs.declared.commands.Guest.{Guest}
use Rattle.command_words.specs.declared.commands.Trial.{Trial}
use Rattle.command_words.specs.Commands.{trial_limits}
use Rattle.outcomes.specs.Programs.{IsGood}
use Rattle.whole_runs.specs.Rounds.{IsRoundsRun}
use Rattle.run_texts.specs.LogTexts.{trial_text, tried_text}

-- the bytes are a file of the guest, which takes its size
pub record IsGuestOutput (guest : Guest) (written : List ℕ) : Type 0 where
  pub taken : is_size guest.name guest.size ≡ true
  pub file : IsGuestFile guest.name guest.size written

-- a file of the guest was taken under these limits, and this is its image
pub record IsGuestImage (guest : Guest) (limits : Limits) (image : Image) : Type 0 where
  pub bytes : List ℕ
  pub made : IsGuestOutput guest bytes
  pub good : IsGood limits bytes
  pub loaded : IsImage bytes image

-- what a trial starts from, where this is the image of its guest
abbrev pub setting_tried : Trial → Image → Setting
setting_tried trial image = setting_of image (trial_limits trial)

-- the text of a trial: what is shown of the log of a whole run of its guest by rounds
pub record IsTrialOutput (trial : Trial) (written : List ℕ) : Type 0 where
  pub image : Image
  pub taken : IsGuestImage trial.guest (trial_limits trial) image
  pub log : List Entry
  pub made : IsRoundsRun (setting_tried trial image) trial.seed log
  pub text : written ≡ tried_text (setting_tried trial image) log

-- this is the plain machine's run over the events of a log by rounds
pub record IsPlainRoundsRun (s : Setting) (seed : ℕ) (run : PlainRun) : Type 0 where
  pub log : List Entry
  pub rounds : IsRoundsRun s seed log
  pub made : plain_run s (script_of log) ≡ Ok run

-- what the plain machine prints of a trial
pub record IsPlainTrialOutput (trial : Trial) (written : List ℕ) : Type 0 where
  pub image : Image
  pub taken : IsGuestImage trial.guest (trial_limits trial) image
  pub run : PlainRun
  pub made : IsPlainRoundsRun (setting_tried trial image) trial.seed run
  pub text : let s = setting_tried trial image in
      written ≡ trial_text s run.machine.kernel.console run.log (plain_end s run.machine)
