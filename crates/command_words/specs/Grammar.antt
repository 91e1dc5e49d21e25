-- The grammar of a command line (own): which lists of words are a command, and which command they are. A word
-- is the list of its bytes, and the program's own name isn't among the words.
--
--     line ::= command item*  |  command item* `--` word*
--     item ::= name  |  option value  |  option=value
--
-- Names and options stand in any order. Behind `--` each word is a name, a further `--` too.
use Rattle.std.specs.Prelude.{ℕ, ◌≡◌, ◌-◌, ◌^◌, Bool, ◌&&◌, true, false, List, [], ◌∷◌, ◌++◌, ◌⊎◌, length, map, Option, Some}
use Rattle.std.specs.Prelude.{None, if◌then◌else◌, nat_le, nat_lt, nat_eq, codes, slice_get}
use Rattle.std.specs.List.{list_all, starts_with}
use Rattle.std.specs.Option.{option_map, unwrap_or}
use Rattle.mach_types.specs.declared.limits.Limits.{Limits}
use Rattle.draw_policies.specs.OutcomeKeys.{key_of_word}
use Rattle.draw_policies.specs.Policies.{policies_of_word}
use Rattle.draw_policies.specs.declared.outcome_keys.OutcomeKey.{OutcomeKey}
use Rattle.draw_policies.specs.declared.outcome_keys.OutcomeKey.TheVariants.{ByText}
use Rattle.draw_policies.specs.declared.policies.Policies.{Policies}
use Rattle.draw_policies.specs.declared.policies.Policies.TheVariants.{All}
use Rattle.guest_names.specs.Guests.{name_of}
use Rattle.search_reductions.specs.Reductions.{all_reductions, reductions_without}
use Rattle.search_reductions.specs.Signals.{signals_of_word}
use Rattle.search_reductions.specs.declared.reductions.Reductions.{Reductions}
use Rattle.search_reductions.specs.declared.signals.Signals.{Signals}
use Rattle.search_reductions.specs.declared.signals.Signals.TheVariants.{Prompt}
use Rattle.step_log.specs.Script.{◌>>=◌}
use Rattle.command_words.specs.declared.commands.Guest.{Guest}
use Rattle.command_words.specs.declared.commands.LineSpan.{LineSpan}
use Rattle.command_words.specs.declared.commands.Settings.{Settings}
use Rattle.command_words.specs.declared.commands.Trial.{Trial}
use Rattle.command_words.specs.declared.table.CommandKind.{CommandKind}
use Rattle.command_words.specs.declared.table.CommandKind.TheVariants as kind
use Rattle.command_words.specs.declared.table.ShownKind.{ShownKind}
use Rattle.command_words.specs.declared.table.ShownKind.TheVariants as kinds
use Rattle.command_words.specs.declared.table.SourceKind.{SourceKind}
use Rattle.command_words.specs.declared.table.SourceKind.TheVariants.{ByRule, ByScript, ByWorkers, ByDraws}
use Rattle.command_words.specs.Ends.{expected_end}
use Rattle.command_words.specs.Commands.{Command, PairRun, Run, Runs, Makes, Tries, Explores, Searches, Pairs, Source, Rule, Script, Workers, Drawn, DrawnAfter}
use Rattle.command_words.specs.Options.{OptionName, Harts, Frames, Steps, Seed, Policy, Calm, After, RunCount, Until, By, Jobs, From, To, Memory, Expect, Places, Deep, Scripts, Without, Preemptions, OwnSignals}
use Rattle.command_words.specs.Options.{Range, all_options, is_value}
use Rattle.command_words.specs.Options.{number_in, number_of, option_word, range_of, same_option, values_of, yes_or_no}
use Rattle.command_words.specs.Shown.{Shown}
use Rattle.command_words.specs.Shown as shows
use Rattle.command_words.specs.Spans.{spans_given}
use Rattle.command_words.specs.Table.{command_kind}
use Rattle.command_words.specs.Takes.{Takes, has, takes_kind}

-- what a command is given behind its word: a name, or an option with the text of its value
pub data Item : Type 0 where
  Name : (text : List ℕ) → Item
  Given : (option : OptionName) (text : List ℕ) → Item

-- a word begins with `-`
abbrev pub begins_with_dash : List ℕ → Bool
begins_with_dash word = starts_with nat_eq word (codes "-")

-- a word that can't be a name before `--`: it begins with `-` and is longer than one character
abbrev pub is_option : List ℕ → Bool
is_option word = nat_lt 1 (length word) && begins_with_dash word

-- the words that write an item before `--`: a name is one; an option with its value is one, with `=` between
-- them, or two, of which the second doesn't begin with `-`
abbrev pub IsWritten : Item → List (List ℕ) → Type 0
IsWritten (Name text) words = (words ≡ text ∷ []) × (is_option text ≡ false)
IsWritten (Given option text) words =
    (words ≡ (option_word option ++ codes "=" ++ text) ∷ [])
    ⊎ ((words ≡ option_word option ∷ text ∷ []) × (begins_with_dash text ≡ false))

-- the words that write items, one behind the other
abbrev pub AreWritten : List Item → List (List ℕ) → Type 0
AreWritten [] words = words ≡ []
AreWritten (item ∷ more) words =
    (first : List (List ℕ)) × (rest : List (List ℕ)) × (words ≡ first ++ rest)
    × IsWritten item first × AreWritten more rest

-- the items of a line of which the last are names behind `--`
pub record IsEndedLine (items : List Item) (words : List (List ℕ)) : Type 0 where
  pub before : List Item
  pub front : List (List ℕ)
  pub names : List (List ℕ)
  pub all : items ≡ before ++ map Name names
  pub parts : words ≡ front ++ codes "--" ∷ names
  pub written : AreWritten before front

-- the words behind a command's are a line of these items
abbrev pub IsLine : List Item → List (List ℕ) → Type 0
IsLine items words = AreWritten items words ⊎ IsEndedLine items words

-- the names among items, in their order
abbrev pub names_in : List Item → List (List ℕ)
names_in [] = []
names_in (Name text ∷ more) = text ∷ names_in more
names_in (Given option text ∷ more) = names_in more

-- the values that items give an option
abbrev pub values_in : OptionName → List Item → List (List ℕ)
values_in option [] = []
values_in option (Name text ∷ more) = values_in option more
values_in option (Given other text ∷ more) =
    if same_option other option then text ∷ values_in option more else values_in option more

-- what a command is given: its names, and the value of each option that is given
pub record Arguments : Type 0 where
  pub names : List (List ℕ)
  pub values : OptionName → Option (List ℕ)

-- the arguments that items make: each option is given at most once
abbrev pub arguments_in : List Item → Option Arguments
arguments_in items =
    if list_all (λ option. nat_le (length (values_in option items)) 1) all_options
    then Some (record { names = names_in items; values = λ option. slice_get (values_in option items) 0 })
    else None

-- the value of an option suits a command where it is given: the option is one of the command's, and takes the value
abbrev pub suits : Takes → OptionName → Option (List ℕ) → Bool
suits takes option None = true
suits takes option (Some text) = has takes.options option && is_value (values_of option) text

abbrev pub all_suit : Takes → (OptionName → Option (List ℕ)) → Bool
all_suit takes values = list_all (λ option. suits takes option (values option)) all_options

-- the number that an option comes to: that of its value, or the default where none that it takes is given
abbrev pub number_or : ℕ → Range → Option (List ℕ) → ℕ
number_or default range value = unwrap_or (value >>= number_in range) default

-- which policies draw: those of the name that is given, or all in turn
abbrev pub policies_or_all : Option (List ℕ) → Policies
policies_or_all value = unwrap_or (value >>= policies_of_word) All

-- the number that an option comes to that has no default: none where no number that it takes is given
abbrev pub number_given : Range → Option (List ℕ) → Option ℕ
number_given range value = value >>= number_in range

-- by what outcomes are told apart: as it is said, or by their texts
abbrev pub apart_or_text : Option (List ℕ) → OutcomeKey
apart_or_text value = unwrap_or (value >>= key_of_word) ByText

-- whether it is said, or else yes
abbrev pub said_or_yes : Option (List ℕ) → Bool
said_or_yes value = unwrap_or (value >>= yes_or_no) true

-- which reductions a search makes: all but the one of the name that is given
abbrev pub reductions_made : Option (List ℕ) → Reductions
reductions_made value = unwrap_or (value >>= reductions_without) all_reductions

-- of which runs a search speaks: as it is said, or of those in which a thread's own signals come at once
abbrev pub signals_or_prompt : Option (List ℕ) → Signals
signals_or_prompt value = unwrap_or (value >>= signals_of_word) Prompt

-- what the options come to
abbrev pub settings_of : (OptionName → Option (List ℕ)) → Settings
settings_of values = record {
  limits = record {
    harts = number_or 2 (range_of 1 8) (values Harts);
    frames = number_or 4096 (range_of 128 16384) (values Frames);
    steps = number_or 200000 (range_of 1 1000000) (values Steps);
  };
  seed = number_or 1 (range_of 0 (2 ^ 64 - 1)) (values Seed);
  draws = record {
    policies = policies_or_all (values Policy);
    calm = number_given (range_of 0 1000000) (values Calm);
  };
  runs = number_or 10000 (range_of 1 1000000000) (values RunCount);
  until = number_given (range_of 1 64) (values Until);
  apart = apart_or_text (values By);
  jobs = number_given (range_of 1 64) (values Jobs);
  span = record {
    from = number_or 1 (range_of 1 1000000) (values From);
    to = number_given (range_of 1 1000000) (values To);
  };
  expected = expected_end (values Expect);
  search = record {
    limits = record {
      harts = number_or 2 (range_of 1 8) (values Harts);
      frames = number_or 4096 (range_of 128 16384) (values Frames);
      steps = number_or 100000 (range_of 1 1000000) (values Deep);
    };
    places = number_or 1000000 (range_of 1 16000000) (values Places);
    scripts = said_or_yes (values Scripts);
    reductions = reductions_made (values Without);
    preemptions = number_given (range_of 0 255) (values Preemptions);
    signals = signals_or_prompt (values OwnSignals);
    apart = apart_or_text (values By);
  };
}

-- how many harts there are: one by the fixed rule
abbrev pub harts_for : SourceKind → ℕ → ℕ
harts_for ByRule harts = 1
harts_for ByScript harts = harts
harts_for ByWorkers harts = harts
harts_for ByDraws harts = harts

-- the program that one name gives, where there is one
abbrev pub one_name : Source → List (List ℕ) → Option (List ℕ × Source)
one_name source (program ∷ []) = Some (program, source)
one_name source _ = None

-- the program and the script that two names give, where there are two
abbrev pub two_names : List (List ℕ) → Option (List ℕ × Source)
two_names (program ∷ script ∷ []) = Some (program, Script script)
two_names _ = None

-- how a drawn log comes about with these settings: from the first event on, or behind the script of this name
abbrev pub drawn_source : Settings → Option (List ℕ) → Source
drawn_source settings None = Drawn settings.seed settings.draws
drawn_source settings (Some script) = DrawnAfter script settings.seed settings.draws

-- the program that names give, and how the log comes about with these settings, and behind this script where one is named
abbrev pub files_for : SourceKind → List (List ℕ) → Settings → Option (List ℕ) → Option (List ℕ × Source)
files_for ByRule names settings after = one_name Rule names
files_for ByScript names settings after = two_names names
files_for ByWorkers names settings after = one_name (Workers settings.seed) names
files_for ByDraws names settings after = one_name (drawn_source settings after) names

-- what is shown: of a place the spans of memory that a text writes, if one is given, and of a trace the lines of this span
abbrev pub shown_for : ShownKind → LineSpan → Option (List ℕ) → Shown
shown_for kinds.Output span memory = shows.Output
shown_for kinds.Summary span memory = shows.Summary
shown_for kinds.Place span memory = shows.Place (spans_given memory)
shown_for kinds.Acts span memory = shows.Acts
shown_for kinds.Gathered span memory = shows.Gathered
shown_for kinds.Trace span memory = shows.Trace span

-- the run of these files with these settings, and with these spans of memory where they are given
abbrev pub run_for : SourceKind → ShownKind → Settings → Option (List ℕ) → List ℕ × Source → Run
run_for source shown settings memory files = record {
  program = files.0;
  source = files.1;
  shown = shown_for shown settings.span memory;
  limits = record settings.limits { harts = harts_for source settings.limits.harts };
}

-- the guest of this name and this size, where the name is a guest's and the size is a number; whether the guest takes it
-- isn't asked here
abbrev pub guest_named : List ℕ → List ℕ → Option Guest
guest_named word text = do
  name ← name_of word
  size ← number_of text
  Some (record { name = name; size = size })

-- the guest that two names give, where there are two
abbrev pub guest_for : List (List ℕ) → Option Guest
guest_for (word ∷ text ∷ []) = guest_named word text
guest_for _ = None

-- the trial of this guest with these settings
abbrev pub trial_of : Settings → Guest → Trial
trial_of settings guest =
    record { guest = guest; harts = settings.limits.harts; steps = settings.limits.steps; seed = settings.seed }

-- the program that one name gives, where there is one
abbrev pub program_for : List (List ℕ) → Option (List ℕ)
program_for (program ∷ []) = Some program
program_for _ = None

-- the two programs and the script that three names give, where there are three
abbrev pub pair_for : Limits → List (List ℕ) → Option PairRun
pair_for limits (first ∷ second ∷ script ∷ []) =
    Some (record { first = first; second = second; script = script; limits = limits })
pair_for limits _ = None

-- the command of this kind with these settings, behind this script where one is named, with these spans of memory where they are
-- given, and with these names
abbrev pub command_for : CommandKind → Settings → Option (List ℕ) → Option (List ℕ) → List (List ℕ) → Option Command
command_for (kind.Runs source shown) settings after memory names =
    option_map (λ files. Runs (run_for source shown settings memory files)) (files_for source names settings after)
command_for kind.Makes settings after memory names = option_map Makes (guest_for names)
command_for kind.Tries settings after memory names = option_map (λ guest. Tries (trial_of settings guest)) (guest_for names)
command_for kind.Explores settings after memory names = option_map (λ program. Explores program settings) (program_for names)
command_for kind.Searches settings after memory names =
    option_map (λ program. Searches program settings.search) (program_for names)
command_for kind.Pairs settings after memory names = option_map Pairs (pair_for settings.limits names)

-- what such a command asks for with these arguments: each value that is given suits it
abbrev pub asked_for : CommandKind → Arguments → Option Command
asked_for kind given =
    if all_suit (takes_kind kind) given.values
    then command_for kind (settings_of given.values) (given.values After) (given.values Memory) given.names
    else None

-- what a command's word asks for with them
abbrev pub asked_by : List ℕ → Arguments → Option Command
asked_by word given = do
  kind ← command_kind word
  asked_for kind given

-- what it asks for with these items behind it
unfoldable pub command_in : List ℕ → List Item → Option Command
command_in word items = do
  given ← arguments_in items
  asked_by word given

-- these words are this command
pub record IsCommandLine (words : List (List ℕ)) (command : Command) : Type 0 where
  pub word : List ℕ
  pub rest : List (List ℕ)
  pub items : List Item
  pub parts : words ≡ word ∷ rest
  pub line : IsLine items rest
  pub asks : command_in word items ≡ Some command
