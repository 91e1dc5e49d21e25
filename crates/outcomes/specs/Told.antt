-- What a shelf that tells its files tells of those that are needed: which answer is due where no device fails
-- and memory suffices. A guest is in no file.
use Rattle.std.specs.Prelude.{ℕ, ◌≡◌, ◌<◌, ◌≤◌, ◌⊎◌, List, Some, IsSome, length, true}
use Rattle.mach_types.specs.declared.events.Entry.{Entry}
use Rattle.mach_types.specs.declared.limits.Limits.{Limits}
use Rattle.elf_load.specs.declared.fault.ElfFault.{ElfFault}
use Rattle.elf_load.specs.declared.image.Image.{Image}
use Rattle.elf_load.specs.Images.{IsImage}
use Rattle.guest_names.specs.Guests.{is_size}
use Rattle.block_model.specs.Setting.{setting_of}
use Rattle.shared_procs.specs.Pairs.{pair_setting_of}
use Rattle.command_words.specs.Commands.{PairRun}
use Rattle.outcomes.specs.Needs.{Needs, Nothing, Program, Script, Guest, Pair}
use Rattle.whole_runs.specs.PlayedPairs.{IsFirstBadOfPair, IsPlayedPair}
use Rattle.outcomes.specs.Programs.{Files, IsFaulty, IsGood}
use Rattle.call_reasons.specs.Reasons.{most_program_bytes, most_script_bytes}
use Rattle.whole_runs.specs.Runs.{IsFirstBadLine, IsPlayedRun}

-- the file of this name is told, and its bytes are a program that the loader takes
pub record TellsGood (files : Files) (name : List ℕ) (limits : Limits) : Type 0 where
  pub bytes : List ℕ
  pub told : files name ≡ Some bytes
  pub good : IsGood limits bytes

-- it is told, and its bytes are a program that is refused
pub record TellsFaulty (files : Files) (name : List ℕ) (limits : Limits) : Type 0 where
  pub bytes : List ℕ
  pub told : files name ≡ Some bytes
  pub fault : ElfFault
  pub faulty : IsFaulty limits bytes fault

-- it is told, and has more bytes than it may
pub record TellsBig (files : Files) (name : List ℕ) (most : ℕ) : Type 0 where
  pub bytes : List ℕ
  pub told : files name ≡ Some bytes
  pub big : most < length bytes

-- a good program and the script beside it are told, and the script isn't too big; this is the program's image
pub record TellsBoth (files : Files) (program script : List ℕ) (limits : Limits) : Type 0 where
  pub bytes : List ℕ
  pub told : files program ≡ Some bytes
  pub good : IsGood limits bytes
  pub image : Image
  pub loaded : IsImage bytes image
  pub lines : List ℕ
  pub script_told : files script ≡ Some lines
  pub fits : length lines ≤ most_script_bytes

-- each line of the script can be read, and its event is allowed
pub record TellsAllowed (files : Files) (program script : List ℕ) (limits : Limits) : Type 0 where
  pub both : TellsBoth files program script limits
  pub log : List Entry
  pub run : IsPlayedRun (setting_of both.image limits) both.lines log

-- a line of the script is the first that can't be read, isn't allowed, or differs
pub record TellsBadLine (files : Files) (program script : List ℕ) (limits : Limits) : Type 0 where
  pub both : TellsBoth files program script limits
  pub number : ℕ
  pub first : IsFirstBadLine (setting_of both.image limits) both.lines number

-- two good programs and the script beside them are told, and the script isn't too big; these are the programs' images
pub record TellsPair (files : Files) (pair : PairRun) : Type 0 where
  pub first : TellsGood files pair.first pair.limits
  pub one : Image
  pub first_loaded : IsImage first.bytes one
  pub second : TellsGood files pair.second pair.limits
  pub two : Image
  pub second_loaded : IsImage second.bytes two
  pub lines : List ℕ
  pub script_told : files pair.script ≡ Some lines
  pub fits : length lines ≤ most_script_bytes

-- each line of the script can be read, and its event is allowed
pub record TellsAllowedPair (files : Files) (pair : PairRun) : Type 0 where
  pub all : TellsPair files pair
  pub log : List Entry
  pub run : IsPlayedPair (pair_setting_of all.one all.two pair.limits) all.lines log

-- a line of the script is the first that can't be read, isn't allowed, or differs
pub record TellsBadLineOfPair (files : Files) (pair : PairRun) : Type 0 where
  pub all : TellsPair files pair
  pub number : ℕ
  pub first : IsFirstBadOfPair (pair_setting_of all.one all.two pair.limits) all.lines number

-- the files that are needed are told, and nothing else is needed
abbrev pub AreTold : Files → Needs → Type 0
AreTold files Nothing = Unit {0}
AreTold files (Program program limits) = IsSome (files program)
AreTold files (Script program script limits) = IsSome (files program) × IsSome (files script)
AreTold files (Guest guest) = ⊥
AreTold files (Pair pair) = IsSome (files pair.first) × IsSome (files pair.second) × IsSome (files pair.script)

-- the files that are needed are told and give a whole output, or the guest that is needed takes its size
abbrev pub TellsGoodFiles : Files → Needs → Type 0
TellsGoodFiles files Nothing = ⊥
TellsGoodFiles files (Program program limits) = TellsGood files program limits
TellsGoodFiles files (Script program script limits) = TellsAllowed files program script limits
TellsGoodFiles files (Guest guest) = is_size guest.name guest.size ≡ true
TellsGoodFiles files (Pair pair) = TellsAllowedPair files pair

-- the program that is needed is told and is refused; of a pair the first, or the second beside a good one
abbrev pub TellsFaultyProgram : Files → Needs → Type 0
TellsFaultyProgram files Nothing = ⊥
TellsFaultyProgram files (Program program limits) = TellsFaulty files program limits
TellsFaultyProgram files (Script program script limits) = TellsFaulty files program limits
TellsFaultyProgram files (Guest guest) = ⊥
TellsFaultyProgram files (Pair pair) =
    TellsFaulty files pair.first pair.limits
    ⊎ (TellsGood files pair.first pair.limits × TellsFaulty files pair.second pair.limits)

-- the script that is needed is told and is refused
abbrev pub TellsBadScript : Files → Needs → Type 0
TellsBadScript files Nothing = ⊥
TellsBadScript files (Program program limits) = ⊥
TellsBadScript files (Script program script limits) = TellsBadLine files program script limits
TellsBadScript files (Guest guest) = ⊥
TellsBadScript files (Pair pair) = TellsBadLineOfPair files pair

-- a file that is needed is told and is too big: the program, or the script beside a good program; of a pair a file beside good
-- programs before it
abbrev pub TellsBigFile : Files → Needs → Type 0
TellsBigFile files Nothing = ⊥
TellsBigFile files (Program program limits) = TellsBig files program most_program_bytes
TellsBigFile files (Script program script limits) =
    TellsBig files program most_program_bytes
    ⊎ (TellsGood files program limits × TellsBig files script most_script_bytes)
TellsBigFile files (Guest guest) = ⊥
TellsBigFile files (Pair pair) =
    TellsBig files pair.first most_program_bytes
    ⊎ (TellsGood files pair.first pair.limits × TellsBig files pair.second most_program_bytes)
    ⊎ (TellsGood files pair.first pair.limits × TellsGood files pair.second pair.limits
    × TellsBig files pair.script most_script_bytes)
