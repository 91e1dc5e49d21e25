-- What is asked of the files of a pair: two programs, and a script for both. Each is read once those before it were taken.
use Rattle.std.specs.Prelude.{ℕ, ◌≡◌, List}
use Rattle.elf_load.specs.declared.image.Image.{Image}
use Rattle.shared_procs.specs.Pairs.{pair_setting_of}
use Rattle.shared_procs.specs.PairRuns.{PairSeen}
use Rattle.command_words.specs.Commands.{PairRun}
use Rattle.run_texts.specs.PairText.{pair_output}
use Rattle.whole_runs.specs.PlayedPairs.{IsFirstBadOfPair, IsPlayedPair}
use Rattle.outcomes.specs.Programs.{Files, IsProgram, IsScript}

-- both programs were taken, and these are their images
pub record AreTaken (files : Files) (pair : PairRun) (one two : Image) : Type 0 where
  pub first : IsProgram files pair.first pair.limits one
  pub second : IsProgram files pair.second pair.limits two

-- the first program was taken, and this holds
pub record AfterFirst (files : Files) (pair : PairRun) (P : Type 0) : Type 0 where
  pub image : Image
  pub taken : IsProgram files pair.first pair.limits image
  pub holds : P

-- both were taken, and this holds
pub record AfterBoth (files : Files) (pair : PairRun) (P : Type 0) : Type 0 where
  pub one : Image
  pub two : Image
  pub taken : AreTaken files pair one two
  pub holds : P

-- both were taken, the script was read, and this is a pair at the end of a whole run by its lines
pub record HasPairRun (files : Files) (pair : PairRun) (v : PairSeen) : Type 0 where
  pub one : Image
  pub two : Image
  pub taken : AreTaken files pair one two
  pub setting : v.setting ≡ pair_setting_of one two pair.limits
  pub lines : List ℕ
  pub read : IsScript files pair.script lines
  pub run : IsPlayedPair (pair_setting_of one two pair.limits) lines v.log

-- the text of a pair: what is shown of it at the end of such a run
pub record IsPairOutput (files : Files) (pair : PairRun) (written : List ℕ) : Type 0 where
  pub seen : PairSeen
  pub made : HasPairRun files pair seen
  pub text : written ≡ pair_output seen

-- both were taken, and the script is refused at the line of this number
pub record IsPairScriptRefused (files : Files) (pair : PairRun) (number : ℕ) : Type 0 where
  pub one : Image
  pub two : Image
  pub taken : AreTaken files pair one two
  pub lines : List ℕ
  pub read : IsScript files pair.script lines
  pub first : IsFirstBadOfPair (pair_setting_of one two pair.limits) lines number
