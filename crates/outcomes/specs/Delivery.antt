-- Writing a text and giving its status.
use Rattle.std.specs.Prelude.{ℕ, ◌≡◌, ◌⊎◌, List, Option, Some, None, Result, Ok, Err, false, option_map}
use Rattle.std.specs.declared.io.ErrorKind.{ErrorKind}
use Rattle.mach_types.specs.declared.limits.Limits.{Limits}
use Rattle.elf_load.specs.Faults.{first_fault}
use Rattle.guest_names.specs.Guests.{is_size}
use Rattle.outside.specs.Counts.{Rose}
use Rattle.outside.specs.Told.{Gained, GainedPrefix}
use Rattle.command_words.specs.declared.commands.Guest.{Guest as AskedGuest}
use Rattle.call_reasons.specs.declared.reasons.Explained.{Explained}
use Rattle.call_reasons.specs.declared.reasons.FileRole.{FileRole}
use Rattle.call_reasons.specs.declared.reasons.OtherEnd.{OtherEnd}
use Rattle.call_reasons.specs.declared.reasons.Reason.{Reason}
use Rattle.call_reasons.specs.declared.reasons.Reason.TheVariants.{Words, Unread, NoMemory, TooBig, Elf, Script, Guest, EndedOtherwise, Unwritten}
use Rattle.outcomes.specs.ElfPlaces.{place_of}
use Rattle.outcomes.specs.Judged.{output_status}
use Rattle.outcomes.specs.Programs.{Files, IsTooBig}
use Rattle.call_reasons.specs.Reasons.{most_program_bytes}
use Rattle.outcomes.specs.Reasons.{IsRefusedAbout}
use Rattle.call_reasons.specs.Reasons.{most_bytes, reason_status}

-- the status was due and the sink gained the whole text
pub record IsWritten (old new : Option (List ℕ)) (text : List ℕ) (due answered : ℕ) : Type 0 where
  pub status : answered ≡ due
  pub gained : Gained old new text

-- the status is that of a failed sink, whose count of faults rose, and it gained a prefix of the text
pub record IsCutShort
    (old new : Option (List ℕ)) (before after : ℕ) (text : List ℕ) (answered : ℕ) : Type 0 where
  pub status : answered ≡ 6
  pub rose : Rose before after
  pub gained : GainedPrefix old new text

-- one of the two
abbrev pub IsDelivered : Option (List ℕ) → Option (List ℕ) → ℕ → ℕ → List ℕ → ℕ → ℕ → Type 0
IsDelivered old new before after text due status =
    IsWritten old new text due status ⊎ IsCutShort old new before after text status

-- how a call that has this answer is explained where it is written
abbrev pub due_for : Result (List ℕ × Option OtherEnd) Reason → Explained
due_for (Ok judged) =
    record { status = output_status judged.1; reason = option_map EndedOtherwise judged.1; untold = None }
due_for (Err reason) = record { status = reason_status reason; reason = Some reason; untold = None }

-- the sink failed, whose count of faults rose and which says this of it, and what was due is untold
pub record IsUnwritten (before after : ℕ) (said : Option ErrorKind) (due explained : Explained) : Type 0 where
  pub failed : explained ≡ record { status = 6; reason = Some (Unwritten said); untold = due.reason }
  pub rose : Rose before after

-- a call is explained as it was due, or the sink failed
abbrev pub IsAsDue : ℕ → ℕ → Option ErrorKind → Explained → Explained → Type 0
IsAsDue before after said due explained = (explained ≡ due) ⊎ IsUnwritten before after said due explained

-- the file of this name couldn't be read, which has this role; the shelf's count rose, and it says this of it
pub record IsUnreadFile
    (name : List ℕ) (file : FileRole) (old new : List ℕ → ℕ) (said : Option ErrorKind) (other : FileRole)
    (trouble : Option ErrorKind) : Type 0 where
  pub role : other ≡ file
  pub rose : Rose (old name) (new name)
  pub trouble_told : trouble ≡ said

-- why the file of this name isn't read, which has this role
abbrev pub IsFileReason :
    Files → List ℕ → FileRole → (List ℕ → ℕ) → (List ℕ → ℕ) → Option ErrorKind → Reason → Type 0
IsFileReason files name file old new said (Words fault) = ⊥
IsFileReason files name file old new said (Unread other trouble) =
    IsUnreadFile name file old new said other trouble
IsFileReason files name file old new said NoMemory = Unit {0}
IsFileReason files name file old new said (TooBig other) =
    (other ≡ file) × IsTooBig files name (most_bytes file)
IsFileReason files name file old new said (Elf other fault about) = ⊥
IsFileReason files name file old new said (Script number fault) = ⊥
IsFileReason files name file old new said (Guest number) = ⊥
IsFileReason files name file old new said (EndedOtherwise found) = ⊥
IsFileReason files name file old new said (Unwritten trouble) = ⊥

-- why no image is taken from these bytes, which are those of a file of this role
abbrev pub IsLoadReason : FileRole → List ℕ → Limits → Reason → Type 0
IsLoadReason file bytes limits (Words fault) = ⊥
IsLoadReason file bytes limits (Unread other trouble) = ⊥
IsLoadReason file bytes limits NoMemory = Unit {0}
IsLoadReason file bytes limits (TooBig other) = ⊥
IsLoadReason file bytes limits (Elf other fault about) =
    (other ≡ file) × (first_fault bytes limits.frames ≡ Some fault) × (about ≡ place_of bytes limits fault)
IsLoadReason file bytes limits (Script number fault) = ⊥
IsLoadReason file bytes limits (Guest number) = ⊥
IsLoadReason file bytes limits (EndedOtherwise found) = ⊥
IsLoadReason file bytes limits (Unwritten trouble) = ⊥

-- why the program of this name isn't taken, which has this role: its file isn't read, or no image is taken from its bytes
abbrev pub IsTakeReason :
    Files → List ℕ → FileRole → Limits → (List ℕ → ℕ) → (List ℕ → ℕ) → Option ErrorKind → Reason → Type 0
IsTakeReason files name file limits old new said (Words fault) = ⊥
IsTakeReason files name file limits old new said (Unread other trouble) =
    IsUnreadFile name file old new said other trouble
IsTakeReason files name file limits old new said NoMemory = Unit {0}
IsTakeReason files name file limits old new said (TooBig other) =
    (other ≡ file) × IsTooBig files name most_program_bytes
IsTakeReason files name file limits old new said (Elf other fault about) =
    (other ≡ file) × IsRefusedAbout files name limits fault about
IsTakeReason files name file limits old new said (Script number fault) = ⊥
IsTakeReason files name file limits old new said (Guest number) = ⊥
IsTakeReason files name file limits old new said (EndedOtherwise found) = ⊥
IsTakeReason files name file limits old new said (Unwritten trouble) = ⊥

-- why the file of a guest isn't made: memory is short, or the guest doesn't take its size
abbrev pub IsGuestReason : AskedGuest → Reason → Type 0
IsGuestReason guest (Words fault) = ⊥
IsGuestReason guest (Unread file trouble) = ⊥
IsGuestReason guest NoMemory = Unit {0}
IsGuestReason guest (TooBig file) = ⊥
IsGuestReason guest (Elf file fault about) = ⊥
IsGuestReason guest (Script number fault) = ⊥
IsGuestReason guest (Guest number) = (is_size guest.name guest.size ≡ false) × (number ≡ guest.size)
IsGuestReason guest (EndedOtherwise found) = ⊥
IsGuestReason guest (Unwritten trouble) = ⊥
