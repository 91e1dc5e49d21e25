-- Why a call gives no output.
use Rattle.std.specs.Prelude.{ℕ, ◌≡◌, ◌⊎◌, IsSome, List, Option, None, false}
use Rattle.mach_types.specs.declared.limits.Limits.{Limits}
use Rattle.elf_load.specs.declared.fault.ElfFault.{ElfFault}
use Rattle.elf_load.specs.declared.image.Image.{Image}
use Rattle.guest_names.specs.Guests.{is_size}
use Rattle.outside.specs.Counts.{Rose}
use Rattle.block_model.specs.Setting.{setting_of}
use Rattle.call_reasons.specs.declared.faults.Fault.{Fault}
use Rattle.call_reasons.specs.declared.faults.Fault.TheVariants.{Usage, Read, Memory, Big, Elf, Script, Guest}
use Rattle.command_words.specs.Commands.{Command}
use Rattle.outcomes.specs.Needs as need
use Rattle.outcomes.specs.PairFiles.{AfterBoth, AfterFirst, IsPairScriptRefused}
use Rattle.outcomes.specs.Programs.{Files, IsProgram, IsRefused, IsScript, IsTooBig}
use Rattle.call_reasons.specs.Reasons.{most_program_bytes}
use Rattle.call_reasons.specs.Reasons.{most_script_bytes}
use Rattle.whole_runs.specs.Runs.{IsFirstBadLine}
use Rattle.command_words.specs.Words.{command_of}

-- a program that is needed is refused for this fault: of a pair the first one that is
abbrev pub IsRefusalOf : Files → need.Needs → ElfFault → Type 0
IsRefusalOf files need.Nothing fault = ⊥
IsRefusalOf files (need.Program program limits) fault = IsRefused files program limits fault
IsRefusalOf files (need.Script program script limits) fault = IsRefused files program limits fault
IsRefusalOf files (need.Guest guest) fault = ⊥
IsRefusalOf files (need.Pair pair) fault =
    IsRefused files pair.first pair.limits fault ⊎ AfterFirst files pair (IsRefused files pair.second pair.limits fault)

-- a script is refused at the line of this number, after its program was taken
pub record IsScriptRefused
    (files : Files) (program script : List ℕ) (limits : Limits) (number : ℕ) : Type 0 where
  pub image : Image
  pub taken : IsProgram files program limits image
  pub lines : List ℕ
  pub read : IsScript files script lines
  pub first : IsFirstBadLine (setting_of image limits) lines number

-- the script that is needed is refused at the line of this number
abbrev pub IsScriptRefusalOf : Files → need.Needs → ℕ → Type 0
IsScriptRefusalOf files need.Nothing number = ⊥
IsScriptRefusalOf files (need.Program program limits) number = ⊥
IsScriptRefusalOf files (need.Script program script limits) number =
    IsScriptRefused files program script limits number
IsScriptRefusalOf files (need.Guest guest) number = ⊥
IsScriptRefusalOf files (need.Pair pair) number = IsPairScriptRefused files pair number

-- a script has too many bytes, after its program was taken
pub record IsBigScript (files : Files) (program script : List ℕ) (limits : Limits) : Type 0 where
  pub image : Image
  pub taken : IsProgram files program limits image
  pub big : IsTooBig files script most_script_bytes

-- a file that is needed has too many bytes: the program, or the script after the program was taken; of a pair the first file
-- that has
abbrev pub HasBigFile : Files → need.Needs → Type 0
HasBigFile files need.Nothing = ⊥
HasBigFile files (need.Program program limits) = IsTooBig files program most_program_bytes
HasBigFile files (need.Script program script limits) =
    IsTooBig files program most_program_bytes ⊎ IsBigScript files program script limits
HasBigFile files (need.Guest guest) = ⊥
HasBigFile files (need.Pair pair) =
    IsTooBig files pair.first most_program_bytes
    ⊎ AfterFirst files pair (IsTooBig files pair.second most_program_bytes)
    ⊎ AfterBoth files pair (IsTooBig files pair.script most_script_bytes)

-- a script couldn't be read, after its program was taken: the count of faults of its name rose
pub record IsUnreadScript
    (files : Files) (program script : List ℕ) (limits : Limits) (old new : List ℕ → ℕ) : Type 0 where
  pub image : Image
  pub taken : IsProgram files program limits image
  pub rose : Rose (old script) (new script)

-- a file that is needed couldn't be read: the count of faults of the program's name rose, or that of the
-- script's after the program was taken; of a pair that of a file's name after those before it were taken
abbrev pub ReadFailed : Files → need.Needs → (List ℕ → ℕ) → (List ℕ → ℕ) → Type 0
ReadFailed files need.Nothing old new = ⊥
ReadFailed files (need.Program program limits) old new = Rose (old program) (new program)
ReadFailed files (need.Script program script limits) old new =
    Rose (old program) (new program) ⊎ IsUnreadScript files program script limits old new
ReadFailed files (need.Guest guest) old new = ⊥
ReadFailed files (need.Pair pair) old new =
    Rose (old pair.first) (new pair.first) ⊎ AfterFirst files pair (Rose (old pair.second) (new pair.second))
    ⊎ AfterBoth files pair (Rose (old pair.script) (new pair.script))

-- the guest that is needed doesn't take its size, which is this number
abbrev pub IsOutsideGuest : need.Needs → ℕ → Type 0
IsOutsideGuest need.Nothing number = ⊥
IsOutsideGuest (need.Program program limits) number = ⊥
IsOutsideGuest (need.Script program script limits) number = ⊥
IsOutsideGuest (need.Guest guest) number = (is_size guest.name guest.size ≡ false) × (number ≡ guest.size)
IsOutsideGuest (need.Pair pair) number = ⊥

-- why a fault comes where a command is asked for, or none; for a command want of memory is free, and for none it is
-- no cause: what is wrong with words is found without memory
abbrev pub IsCauseOf : Files → Option Command → (List ℕ → ℕ) → (List ℕ → ℕ) → Fault → Type 0
IsCauseOf files command old new Usage = command ≡ None
IsCauseOf files command old new Read = ReadFailed files (need.needs_of command) old new
IsCauseOf files command old new Memory = IsSome command
IsCauseOf files command old new Big = HasBigFile files (need.needs_of command)
IsCauseOf files command old new (Elf fault) = IsRefusalOf files (need.needs_of command) fault
IsCauseOf files command old new (Script number) = IsScriptRefusalOf files (need.needs_of command) number
IsCauseOf files command old new (Guest number) = IsOutsideGuest (need.needs_of command) number

-- the same, by the words
abbrev pub IsCause : Files → List (List ℕ) → (List ℕ → ℕ) → (List ℕ → ℕ) → Fault → Type 0
IsCause files words old new fault = IsCauseOf files (command_of words) old new fault
