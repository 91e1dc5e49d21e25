-- What each command takes behind its word (own): which names, and which options.
use Rattle.std.specs.Prelude.{ℕ, Bool, true, false, List, [], ◌∷◌, Option, option_map}
use Rattle.command_words.specs.declared.table.CommandKind.{CommandKind}
use Rattle.command_words.specs.declared.table.CommandKind.TheVariants.{Runs, Makes, Tries, Explores, Searches, Pairs}
use Rattle.command_words.specs.declared.table.ShownKind.{ShownKind}
use Rattle.command_words.specs.declared.table.ShownKind.TheVariants as shows
use Rattle.command_words.specs.declared.table.SourceKind.{SourceKind}
use Rattle.command_words.specs.declared.table.SourceKind.TheVariants.{ByRule, ByScript, ByWorkers, ByDraws}
use Rattle.command_words.specs.declared.takes.NameKind.{NameKind}
use Rattle.command_words.specs.declared.takes.NameKind.TheVariants.{Program, SecondProgram, Script, Guest, Size}
use Rattle.command_words.specs.Options.{OptionName, Harts, Frames, Steps, Seed, Policy, Calm, After, RunCount, Until, By, Jobs, From, To, Memory, Expect, Places, Deep, Scripts, Without, Preemptions, OwnSignals}
use Rattle.command_words.specs.Table.{command_kind}

-- some of the options
pub record OptionSet : Type 0 where
  pub harts : Bool
  pub frames : Bool
  pub steps : Bool
  pub seed : Bool
  pub policy : Bool
  pub calm : Bool
  pub after : Bool
  pub run_count : Bool
  pub until : Bool
  pub by : Bool
  pub jobs : Bool
  pub from : Bool
  pub to : Bool
  pub memory : Bool
  pub expect : Bool
  pub places : Bool
  pub deep : Bool
  pub scripts : Bool
  pub without : Bool
  pub preemptions : Bool
  pub signals : Bool

-- none of them
abbrev pub no_options : OptionSet
no_options = record {
  harts = false;
  frames = false;
  steps = false;
  seed = false;
  policy = false;
  calm = false;
  after = false;
  run_count = false;
  until = false;
  by = false;
  jobs = false;
  from = false;
  to = false;
  memory = false;
  expect = false;
  places = false;
  deep = false;
  scripts = false;
  without = false;
  preemptions = false;
  signals = false;
}

-- whether an option is among them
abbrev pub has : OptionSet → OptionName → Bool
has options Harts = options.harts
has options Frames = options.frames
has options Steps = options.steps
has options Seed = options.seed
has options Policy = options.policy
has options Calm = options.calm
has options After = options.after
has options RunCount = options.run_count
has options Until = options.until
has options By = options.by
has options Jobs = options.jobs
has options From = options.from
has options To = options.to
has options Memory = options.memory
has options Expect = options.expect
has options Places = options.places
has options Deep = options.deep
has options Scripts = options.scripts
has options Without = options.without
has options Preemptions = options.preemptions
has options OwnSignals = options.signals

-- these and one more
abbrev pub with_option : OptionSet → OptionName → OptionSet
with_option options Harts = record options { harts = true }
with_option options Frames = record options { frames = true }
with_option options Steps = record options { steps = true }
with_option options Seed = record options { seed = true }
with_option options Policy = record options { policy = true }
with_option options Calm = record options { calm = true }
with_option options After = record options { after = true }
with_option options RunCount = record options { run_count = true }
with_option options Until = record options { until = true }
with_option options By = record options { by = true }
with_option options Jobs = record options { jobs = true }
with_option options From = record options { from = true }
with_option options To = record options { to = true }
with_option options Memory = record options { memory = true }
with_option options Expect = record options { expect = true }
with_option options Places = record options { places = true }
with_option options Deep = record options { deep = true }
with_option options Scripts = record options { scripts = true }
with_option options Without = record options { without = true }
with_option options Preemptions = record options { preemptions = true }
with_option options OwnSignals = record options { signals = true }

-- what a command takes: these names in this order, and these options in any
pub record Takes : Type 0 where
  pub names : List NameKind
  pub options : OptionSet

-- what a run on one hart takes: it chooses nothing
abbrev pub taken_alone : Takes
taken_alone = record { names = Program ∷ []; options = record no_options { frames = true; steps = true } }

-- the options of a run on the events of a script: it chooses nothing
abbrev pub options_on_script : OptionSet
options_on_script = record no_options { harts = true; frames = true; steps = true }

-- what such a run takes
abbrev pub taken_on_script : Takes
taken_on_script = record { names = Program ∷ Script ∷ []; options = options_on_script }

-- what such a run of two programs takes
abbrev pub taken_by_pair : Takes
taken_by_pair = record { names = Program ∷ SecondProgram ∷ Script ∷ []; options = options_on_script }

-- the options of a run that chooses by a seed
abbrev pub options_by_seed : OptionSet
options_by_seed = record no_options { harts = true; frames = true; steps = true; seed = true }

-- those of runs that a seed draws
abbrev pub options_by_draws : OptionSet
options_by_draws = record options_by_seed { policy = true; calm = true }

-- what a run by workers takes
abbrev pub taken_by_workers : Takes
taken_by_workers = record { names = Program ∷ []; options = options_by_seed }

-- what a run by draws takes: it may begin with a script
abbrev pub taken_by_draws : Takes
taken_by_draws = record { names = Program ∷ []; options = record options_by_draws { after = true } }

-- what an exploration takes
abbrev pub taken_by_explore : Takes
taken_by_explore =
    record {
      names = Program ∷ [];
      options = record options_by_draws { run_count = true; until = true; by = true; jobs = true; expect = true };
    }

-- what a search for all outcomes takes
abbrev pub taken_by_search : Takes
taken_by_search =
    record {
      names = Program ∷ [];
      options = record no_options { harts = true; frames = true; places = true; deep = true; scripts = true; without = true; preemptions = true; signals = true; by = true };
    }

-- what the making of a guest takes
abbrev pub taken_by_make : Takes
taken_by_make = record { names = Guest ∷ Size ∷ []; options = no_options }

-- what a trial of a guest takes
abbrev pub taken_by_trial : Takes
taken_by_trial =
    record { names = Guest ∷ Size ∷ []; options = record no_options { harts = true; steps = true; seed = true } }

-- what a run takes by how its log comes about
abbrev pub takes_by : SourceKind → Takes
takes_by ByRule = taken_alone
takes_by ByScript = taken_on_script
takes_by ByWorkers = taken_by_workers
takes_by ByDraws = taken_by_draws

-- the options of a run by what is shown of it: a place takes which bytes of memory are shown, and a trace the lines from which and to
-- which it is told
abbrev pub options_for : ShownKind → OptionSet → OptionSet
options_for shows.Output options = options
options_for shows.Summary options = options
options_for shows.Place options = record options { memory = true }
options_for shows.Acts options = options
options_for shows.Gathered options = options
options_for shows.Trace options = record options { from = true; to = true }

-- what a command takes
abbrev pub takes_kind : CommandKind → Takes
takes_kind (Runs source shown) =
    record (takes_by source) { options = options_for shown (takes_by source).options }
takes_kind Makes = taken_by_make
takes_kind Tries = taken_by_trial
takes_kind Explores = taken_by_explore
takes_kind Searches = taken_by_search
takes_kind Pairs = taken_by_pair

-- what the command of a word takes, if a command has the word
abbrev pub takes_of : List ℕ → Option Takes
takes_of word = option_map takes_kind (command_kind word)
