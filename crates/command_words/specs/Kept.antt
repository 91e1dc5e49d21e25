-- What the code keeps of the words, in the grammar's terms.
use Rattle.std.specs.Prelude.{ℕ, List, [], ◌∷◌, Option}
use Rattle.std.specs.Option.{option_copied}
use Rattle.command_words.specs.declared.arguments.Arguments.{Arguments}
use Rattle.command_words.specs.declared.arguments.FileNames.{FileNames as KeptNames}
use Rattle.command_words.specs.declared.arguments.FileNames.TheVariants.{Zero, One, Two, Three}
use Rattle.command_words.specs.declared.commands.Command.{Command}
use Rattle.command_words.specs.declared.commands.Command.TheVariants as command
use Rattle.command_words.specs.declared.commands.PairRun.{PairRun}
use Rattle.command_words.specs.declared.commands.Run.{Run}
use Rattle.command_words.specs.declared.commands.Source.{Source}
use Rattle.command_words.specs.declared.commands.Shown.{Shown}
use Rattle.command_words.specs.declared.commands.Shown.TheVariants as shown
use Rattle.command_words.specs.declared.commands.Source.TheVariants as code
use Rattle.command_words.specs.declared.options.Numbers.{Numbers}
use Rattle.command_words.specs.declared.options.OptionName.{OptionName}
use Rattle.command_words.specs.declared.options.OptionName.TheVariants as option
use Rattle.command_words.specs.declared.options.Values.{Values}
use Rattle.command_words.specs.declared.options.Values.TheVariants as values
use Rattle.command_words.specs.declared.reader.Reader.{Reader}
use Rattle.command_words.specs.declared.reader.Reading.{Reading}
use Rattle.command_words.specs.declared.reader.Reading.TheVariants as reading
use Rattle.command_words.specs.declared.spans.MemorySpan.{MemorySpan}
use Rattle.command_words.specs.declared.spans.MemorySpans.{MemorySpans}
use Rattle.command_words.specs.declared.takes.NameKind.{NameKind}
use Rattle.command_words.specs.declared.takes.NameKinds.{NameKinds}
use Rattle.command_words.specs.declared.takes.NameKinds.TheVariants as kinds
use Rattle.command_words.specs.declared.takes.OptionSet.{OptionSet}
use Rattle.command_words.specs.declared.takes.Takes.{Takes}
use Rattle.command_words.specs.Commands.{Command as Asked, PairRun as AskedPair, Run as AskedRun, Runs, Makes, Tries, Explores, Searches, Pairs}
use Rattle.command_words.specs.Commands.{Source as FromSource, Rule, Script, Workers, Drawn, DrawnAfter}
use Rattle.command_words.specs.Grammar.{Arguments as Stated}
use Rattle.command_words.specs.Options.{OptionName as Named, Harts, Frames, Steps, Seed, Policy, Calm, After, RunCount, Until, By, Jobs, From, To, Memory, Expect, Places, Deep, Scripts, Without, Preemptions, OwnSignals, Range}
use Rattle.command_words.specs.Options.{Values as ItsValues, Numbers as InRange, PolicyNames, KeyNames, FileNames, MemorySpans as SpansOfMemory, EndNames as NamesOfEnds, YesOrNo, ReductionNames, PromptOrAny}
use Rattle.command_words.specs.Shown.{Shown as AskedShown}
use Rattle.command_words.specs.Shown as shows
use Rattle.command_words.specs.Spans.{spans_given}
use Rattle.command_words.specs.Takes.{OptionSet as SomeOptions, Takes as Taken}
use Rattle.command_words.specs.WordFaults.{SoFar}
use Rattle.command_words.specs.Words.{Reading as Read, Options, Value, Names}

-- an option
abbrev pub named : OptionName → Named
named option.Harts = Harts
named option.Frames = Frames
named option.Steps = Steps
named option.Seed = Seed
named option.Policy = Policy
named option.Calm = Calm
named option.After = After
named option.RunCount = RunCount
named option.Until = Until
named option.By = By
named option.Jobs = Jobs
named option.From = From
named option.To = To
named option.Memory = Memory
named option.Expect = Expect
named option.Places = Places
named option.Deep = Deep
named option.Scripts = Scripts
named option.Without = Without
named option.Preemptions = Preemptions
named option.OwnSignals = OwnSignals

-- the numbers that an option takes
abbrev pub range : Numbers → Range
range numbers = record { least = numbers.least; most = numbers.most }

-- the values that it takes
abbrev pub values_kept : Values → ItsValues
values_kept (values.Numbers numbers) = InRange (range numbers)
values_kept values.PolicyNames = PolicyNames
values_kept values.KeyNames = KeyNames
values_kept values.FileNames = FileNames
values_kept values.MemorySpans = SpansOfMemory
values_kept values.EndNames = NamesOfEnds
values_kept values.YesOrNo = YesOrNo
values_kept values.ReductionNames = ReductionNames
values_kept values.PromptOrAny = PromptOrAny

-- the names, as texts
abbrev pub names_kept : KeptNames → List (List ℕ)
names_kept Zero = []
names_kept (One first) = first.now ∷ []
names_kept (Two first second) = first.now ∷ second.now ∷ []
names_kept (Three first second third) = first.now ∷ second.now ∷ third.now ∷ []

-- the text of an option's value, if it is given
abbrev pub value_kept : Arguments → Named → Option (List ℕ)
value_kept kept Harts = option_copied kept.harts
value_kept kept Frames = option_copied kept.frames
value_kept kept Steps = option_copied kept.steps
value_kept kept Seed = option_copied kept.seed
value_kept kept Policy = option_copied kept.policy
value_kept kept Calm = option_copied kept.calm
value_kept kept After = option_copied kept.after
value_kept kept RunCount = option_copied kept.run_count
value_kept kept Until = option_copied kept.until
value_kept kept By = option_copied kept.by
value_kept kept Jobs = option_copied kept.jobs
value_kept kept From = option_copied kept.from
value_kept kept To = option_copied kept.to
value_kept kept Memory = option_copied kept.memory
value_kept kept Expect = option_copied kept.expect
value_kept kept Places = option_copied kept.places
value_kept kept Deep = option_copied kept.deep
value_kept kept Scripts = option_copied kept.scripts
value_kept kept Without = option_copied kept.without
value_kept kept Preemptions = option_copied kept.preemptions
value_kept kept OwnSignals = option_copied kept.signals

-- the arguments, with the texts of their words
abbrev pub stated : Arguments → Stated
stated kept = record { names = names_kept kept.names; values = value_kept kept }

-- how the log comes about, with the text of the script's name
abbrev pub source_said : Source → FromSource
source_said code.Rule = Rule
source_said (code.Script name) = Script name.now
source_said (code.Workers seed) = Workers seed
source_said (code.Drawn seed draws) = Drawn seed draws
source_said (code.DrawnAfter script seed draws) = DrawnAfter script.now seed draws

-- the spans of memory that are kept as a text
abbrev pub spans_kept : MemorySpans → List MemorySpan
spans_kept memory = spans_given (option_copied memory.text)

-- what is shown, with its spans of memory
abbrev pub shown_said : Shown → AskedShown
shown_said shown.Output = shows.Output
shown_said shown.Summary = shows.Summary
shown_said (shown.Place memory) = shows.Place (spans_kept memory)
shown_said shown.Acts = shows.Acts
shown_said shown.Gathered = shows.Gathered
shown_said (shown.Trace span) = shows.Trace span

-- the run, with the texts of its names
abbrev pub run_said : Run → AskedRun
run_said run = record {
  program = run.program.now;
  source = source_said run.source;
  shown = shown_said run.shown;
  limits = run.limits;
}

-- the pair, with the texts of its names
abbrev pub pair_said : PairRun → AskedPair
pair_said pair = record {
  first = pair.first.now;
  second = pair.second.now;
  script = pair.script.now;
  limits = pair.limits;
}

-- the command, with the texts of its names
abbrev pub said : Command → Asked
said (command.Runs run) = Runs (run_said run)
said (command.Makes guest) = Makes guest
said (command.Tries trial) = Tries trial
said (command.Explores explore) = Explores explore.program.now explore.settings
said (command.Searches search) = Searches search.program.now search.settings
said (command.Pairs pair) = Pairs (pair_said pair)

-- some of the options
abbrev pub options_kept : OptionSet → SomeOptions
options_kept options = record {
  harts = options.harts;
  frames = options.frames;
  steps = options.steps;
  seed = options.seed;
  policy = options.policy;
  calm = options.calm;
  after = options.after;
  run_count = options.run_count;
  until = options.until;
  by = options.by;
  jobs = options.jobs;
  from = options.from;
  to = options.to;
  memory = options.memory;
  expect = options.expect;
  places = options.places;
  deep = options.deep;
  scripts = options.scripts;
  without = options.without;
  preemptions = options.preemptions;
  signals = options.signals;
}

-- what the names of a command are
abbrev pub kinds_kept : NameKinds → List NameKind
kinds_kept (kinds.One first) = first ∷ []
kinds_kept (kinds.Two first second) = first ∷ second ∷ []
kinds_kept (kinds.Three first second third) = first ∷ second ∷ third ∷ []

-- what a command takes
abbrev pub takes_kept : Takes → Taken
takes_kept takes = record { names = kinds_kept takes.names; options = options_kept takes.options }

-- how the next word is read
abbrev pub reading_kept : Reading → Read
reading_kept reading.Options = Options
reading_kept (reading.Value option) = Value (named option)
reading_kept reading.Names = Names

-- how far the words are read
abbrev pub so_far : Reader → SoFar
so_far reader = record {
  takes = takes_kept reader.takes;
  next = reader.next;
  reading = reading_kept reader.reading;
  names = reader.names;
  options = options_kept reader.options;
}
