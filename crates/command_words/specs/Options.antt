-- The options of a command line (own): their words, and the values that they take.
use Rattle.std.specs.Prelude.{ℕ, ◌-◌, ◌^◌, Bool, true, false, not, List, [], ◌∷◌, ◌++◌, find, Option, Some, None, if◌then◌else◌, codes}
use Rattle.std.specs.Option.{is_some}
use Rattle.std.specs.Str.{bytes_eq}
use Rattle.draw_policies.specs.OutcomeKeys.{key_of_word}
use Rattle.draw_policies.specs.Policies.{policies_of_word}
use Rattle.search_reductions.specs.Reductions.{reductions_without}
use Rattle.search_reductions.specs.Signals.{signals_of_word}
use Rattle.command_words.specs.Spans.{are_spans}
use Rattle.command_words.specs.Ends.{end_named}
pub use Rattle.command_words.specs.Decimals.{Range, number_in, number_of, range_of}

-- the options that commands have: how many harts there are, how many frames of 4,096 bytes, how many lines
-- the log may have, the seed of what is chosen, which policies draw, from how many events on a run goes on fairly, and the script
-- behind which events are drawn; how many runs are explored, how many different outcomes are enough, by what they are told apart, and
-- how many host threads make the runs; from which line and to which line a log is told; which bytes of memory are shown;
-- how all runs of an exploration are expected to end; and of a search how many places are kept, how many events lead to a place at most,
-- whether the scripts of outcomes are printed, which reduction is left out, how many preemptions its runs have at most, and when the
-- signals come in them that a thread causes itself
pub data OptionName : Type 0 where
  Harts : OptionName
  Frames : OptionName
  Steps : OptionName
  Seed : OptionName
  Policy : OptionName
  Calm : OptionName
  After : OptionName
  RunCount : OptionName
  Until : OptionName
  By : OptionName
  Jobs : OptionName
  From : OptionName
  To : OptionName
  Memory : OptionName
  Expect : OptionName
  Places : OptionName
  Deep : OptionName
  Scripts : OptionName
  Without : OptionName
  Preemptions : OptionName
  OwnSignals : OptionName

abbrev pub all_options : List OptionName
all_options = Harts ∷ Frames ∷ Steps ∷ Seed ∷ Policy ∷ Calm ∷ After ∷ RunCount ∷ Until ∷ By ∷ Jobs ∷ From ∷ To ∷ Memory ∷ Expect ∷ Places ∷ Deep ∷ Scripts ∷ Without ∷ Preemptions ∷ OwnSignals ∷ []

-- the name of an option
abbrev pub long_name : OptionName → List ℕ
long_name Harts = codes "harts"
long_name Frames = codes "frames"
long_name Steps = codes "steps"
long_name Seed = codes "seed"
long_name Policy = codes "policy"
long_name Calm = codes "calm"
long_name After = codes "after"
long_name RunCount = codes "runs"
long_name Until = codes "until"
long_name By = codes "by"
long_name Jobs = codes "jobs"
long_name From = codes "from"
long_name To = codes "to"
long_name Memory = codes "memory"
long_name Expect = codes "expect"
long_name Places = codes "places"
long_name Deep = codes "deep"
long_name Scripts = codes "scripts"
long_name Without = codes "without"
long_name Preemptions = codes "preemptions"
long_name OwnSignals = codes "signals"

-- the word of an option
abbrev pub option_word : OptionName → List ℕ
option_word option = codes "--" ++ long_name option

-- the option that a word names
abbrev pub option_named : List ℕ → Option OptionName
option_named word = find (λ option. bytes_eq word (option_word option)) all_options

-- whether two options are the same
abbrev pub same_option : OptionName → OptionName → Bool
same_option one other = bytes_eq (option_word one) (option_word other)

-- the values of an option: numbers, the names of policies, by what outcomes are told apart, the names of files, spans of memory, ends,
-- `yes` and `no`, the names of reductions, or `prompt` and `any`
pub data Values : Type 0 where
  Numbers : (range : Range) → Values
  PolicyNames : Values
  KeyNames : Values
  FileNames : Values
  MemorySpans : Values
  EndNames : Values
  YesOrNo : Values
  ReductionNames : Values
  PromptOrAny : Values

-- what `yes` and `no` say
abbrev pub yes_or_no : List ℕ → Option Bool
yes_or_no text =
    if bytes_eq text (codes "yes") then Some true else if bytes_eq text (codes "no") then Some false else None

abbrev pub values_of : OptionName → Values
values_of Harts = Numbers (range_of 1 8)
values_of Frames = Numbers (range_of 128 16384)
values_of Steps = Numbers (range_of 1 1000000)
values_of Seed = Numbers (range_of 0 (2 ^ 64 - 1))
values_of Policy = PolicyNames
values_of Calm = Numbers (range_of 0 1000000)
values_of After = FileNames
values_of RunCount = Numbers (range_of 1 1000000000)
values_of Until = Numbers (range_of 1 64)
values_of By = KeyNames
values_of Jobs = Numbers (range_of 1 64)
values_of From = Numbers (range_of 1 1000000)
values_of To = Numbers (range_of 1 1000000)
values_of Memory = MemorySpans
values_of Expect = EndNames
values_of Places = Numbers (range_of 1 16000000)
values_of Deep = Numbers (range_of 1 1000000)
values_of Scripts = YesOrNo
values_of Without = ReductionNames
values_of Preemptions = Numbers (range_of 0 255)
values_of OwnSignals = PromptOrAny

-- whether a text is one of these values. A file's name is any text but `-`, which can't stand alone behind an option
abbrev pub is_value : Values → List ℕ → Bool
is_value (Numbers range) text = is_some (number_in range text)
is_value PolicyNames text = is_some (policies_of_word text)
is_value KeyNames text = is_some (key_of_word text)
is_value FileNames text = not (bytes_eq text (codes "-"))
is_value MemorySpans text = are_spans text
is_value EndNames text = is_some (end_named text)
is_value YesOrNo text = is_some (yes_or_no text)
is_value ReductionNames text = is_some (reductions_without text)
is_value PromptOrAny text = is_some (signals_of_word text)
