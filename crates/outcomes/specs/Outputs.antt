-- The output of a command: what it shows of a whole run of its program, the file of its guest, the text of its trial, that of its
-- exploration, that of its search for all outcomes, or that of its pair.
use Rattle.std.specs.Prelude.{ℕ, ◌≡◌, ◌++◌, List, Option, Some, None, Ok, length, map}
use Rattle.std.specs.List.{flat_map}
use Rattle.mach_types.specs.declared.events.Entry.{Entry}
use Rattle.mach_types.specs.declared.limits.End.{End}
use Rattle.mach_types.specs.declared.limits.Limits.{Limits}
use Rattle.elf_load.specs.declared.image.Image.{Image}
use Rattle.block_model.specs.Setting.{Seen, Setting, setting_of}
use Rattle.block_model.specs.History.{console}
use Rattle.block_model.specs.Deciding.{history, end_of}
use Rattle.block_model.specs.Plain.{PlainRun, plain_end, plain_run, plain_solo}
use Rattle.block_model.specs.Replay.{Ask, script_of}
use Rattle.drawn_runs.specs.Manners.{manner_behind, manner_for}
use Rattle.drawn_runs.specs.WholeRuns.{IsDrawnRun}
use Rattle.block_view.specs.Acts.{acts_of}
use Rattle.log_gather.specs.Gathered.{gathered}
use Rattle.command_words.specs.declared.commands.Draws.{Draws}
use Rattle.command_words.specs.declared.commands.Trial.{Trial}
use Rattle.command_words.specs.Commands.{Command, Run, Runs, Makes, Tries, Explores, Searches, Pairs, Source, Rule, Script, Workers, Drawn, DrawnAfter}
use Rattle.command_words.specs.Shown.{Shown}
use Rattle.command_words.specs.Shown as shows
use Rattle.command_words.specs.Words.{command_of}
use Rattle.outcomes.specs.Explorations.{IsExploreOutput}
use Rattle.outcomes.specs.Guests.{IsGuestOutput, IsPlainTrialOutput, IsTrialOutput}
use Rattle.outcomes.specs.PairFiles.{IsPairOutput}
use Rattle.run_texts.specs.Places.{asked_place}
use Rattle.outcomes.specs.Programs.{Files, IsProgram, IsScript}
use Rattle.outcomes.specs.Searches.{IsSearchOutput}
use Rattle.whole_runs.specs.Asks.{asks_of}
use Rattle.whole_runs.specs.Runs.{IsChosenRun, IsSoloRun, IsPlayedRun}
use Rattle.run_texts.specs.Summary.{act_line, summary_text}
use Rattle.run_texts.specs.Text.{output_text}
use Rattle.trace_text.specs.Traces.{trace_text}

-- what is shown of a log with this console and this end
abbrev pub text_of : Shown → Setting → List ℕ → List Entry → End → List ℕ
text_of shows.Output s bytes log end = output_text bytes log end
text_of shows.Summary s bytes log end = summary_text s.limits.harts (acts_of s log) log end
text_of (shows.Place memory) s bytes log end = asked_place memory s (history s log)
text_of shows.Acts s bytes log end = flat_map act_line (acts_of s log)
text_of shows.Gathered s bytes log end = output_text bytes (gathered s log) end
text_of (shows.Trace span) s bytes log end = trace_text span s log

-- of a log, with the console and the end that it comes to
abbrev pub shown_text : Shown → Setting → List Entry → List ℕ
shown_text shown s log = text_of shown s (console s (history s log)) log (end_of s (history s log))

-- what a run starts from, where this is the image of its program
abbrev pub setting_for : Run → Image → Setting
setting_for run image = setting_of image run.limits

-- the script of this name was read, and a whole run by its lines made this log
pub record IsScriptRun (files : Files) (name : List ℕ) (s : Setting) (log : List Entry) : Type 0 where
  pub lines : List ℕ
  pub read : IsScript files name lines
  pub run : IsPlayedRun s lines log

-- a run by the lines of the script of this name made the first entries of a log, and those behind them are drawn
pub record IsDrawnAfter
    (files : Files) (name : List ℕ) (seed : ℕ) (draws : Draws) (s : Setting) (log : List Entry) : Type 0 where
  pub first : List Entry
  pub script : IsScriptRun files name s first
  pub more : List Entry
  pub whole : log ≡ first ++ more
  pub drawn : IsDrawnRun s
      (manner_behind (length first) (manner_for draws.policies draws.calm seed s.limits.steps)) log

-- a log came about in this way
abbrev pub IsLogOf : Files → Source → Setting → List Entry → Type 0
IsLogOf files Rule s log = IsSoloRun s log
IsLogOf files (Script name) s log = IsScriptRun files name s log
IsLogOf files (Workers seed) s log = IsChosenRun s seed log
IsLogOf files (Drawn seed draws) s log = IsDrawnRun s (manner_for draws.policies draws.calm seed s.limits.steps) log
IsLogOf files (DrawnAfter name seed draws) s log = IsDrawnAfter files name seed draws s log

-- the program of this name was taken, and a machine is at the end of a run of this image, whose log came about in
-- this way
pub record HasRun
    (files : Files) (program : List ℕ) (source : Source) (limits : Limits) (image : Image) (m : Seen) : Type 0 where
  pub taken : IsProgram files program limits image
  pub setting : m.setting ≡ setting_of image limits
  pub made : IsLogOf files source (setting_of image limits) m.log

-- the text of a run that is asked for: what is shown of the log of a whole run of its program, which came about as it
-- says
pub record IsRunOutput (files : Files) (run : Run) (written : List ℕ) : Type 0 where
  pub image : Image
  pub taken : IsProgram files run.program run.limits image
  pub log : List Entry
  pub made : IsLogOf files run.source (setting_for run image) log
  pub text : written ≡ shown_text run.shown (setting_for run image) log

-- the output of a command, by what that of a run is, and that of a trial
abbrev pub IsOutputBy :
    (Run → List ℕ → Type 0) → (Trial → List ℕ → Type 0) → Files → Option Command → List ℕ → Type 0
IsOutputBy IsOfRun IsOfTrial files None written = ⊥
IsOutputBy IsOfRun IsOfTrial files (Some (Runs run)) written = IsOfRun run written
IsOutputBy IsOfRun IsOfTrial files (Some (Makes guest)) written = IsGuestOutput guest written
IsOutputBy IsOfRun IsOfTrial files (Some (Tries trial)) written = IsOfTrial trial written
IsOutputBy IsOfRun IsOfTrial files (Some (Explores program settings)) written = IsExploreOutput files program settings written
IsOutputBy IsOfRun IsOfTrial files (Some (Searches program settings)) written = IsSearchOutput files program settings written
IsOutputBy IsOfRun IsOfTrial files (Some (Pairs pair)) written = IsPairOutput files pair written

-- the output of a command
abbrev pub IsOutputOf : Files → Option Command → List ℕ → Type 0
IsOutputOf files command written = IsOutputBy (IsRunOutput files) IsTrialOutput files command written

-- the output of the words
abbrev pub IsOutput : Files → List (List ℕ) → List ℕ → Type 0
IsOutput files words written = IsOutputOf files (command_of words) written

-- the run that `play` asks for on a program and a script, and its output
abbrev pub playing : List ℕ → List ℕ → Limits → Run
playing program script limits =
    record { program = program; source = Script script; shown = shows.Output; limits = limits }

abbrev pub IsPlayOutput : Files → List ℕ → List ℕ → Limits → List ℕ → Type 0
IsPlayOutput files program script limits written = IsRunOutput files (playing program script limits) written

-- what is shown of the plain machine's run, with what it holds on its console, the entries that it made, and its end
abbrev pub plain_text : Shown → Setting → PlainRun → List ℕ
plain_text shown s run = text_of shown s run.machine.kernel.console run.log (plain_end s run.machine)

-- the script of this name was read, and this is the plain machine's run over its lines
pub record IsPlainScriptRun (files : Files) (name : List ℕ) (s : Setting) (run : PlainRun) : Type 0 where
  pub lines : List ℕ
  pub read : IsScript files name lines
  pub asks : List Ask
  pub readable : asks_of lines ≡ map Some asks
  pub made : plain_run s asks ≡ Ok run

-- this is the plain machine's run over the hart and the choice of each entry of a log that is of this kind
pub record IsPlainRunOver (s : Setting) (IsOfKind : List Entry → Type 0) (run : PlainRun) : Type 0 where
  pub log : List Entry
  pub kind : IsOfKind log
  pub made : plain_run s (script_of log) ≡ Ok run

-- the plain machine's run came about in this way: by the fixed rule it is its own run, for as many steps as the
-- limits allow; by workers and by draws it goes over the log of such a run
abbrev pub IsPlainRunOf : Files → Source → Setting → PlainRun → Type 0
IsPlainRunOf files Rule s run = run ≡ plain_solo s s.limits.steps
IsPlainRunOf files (Script name) s run = IsPlainScriptRun files name s run
IsPlainRunOf files (Workers seed) s run = IsPlainRunOver s (IsChosenRun s seed) run
IsPlainRunOf files (Drawn seed draws) s run = IsPlainRunOver s (IsDrawnRun s (manner_for draws.policies draws.calm seed s.limits.steps)) run
IsPlainRunOf files (DrawnAfter name seed draws) s run = IsPlainRunOver s (IsDrawnAfter files name seed draws s) run

-- what the plain machine prints of a run that is asked for
pub record IsPlainRunOutput (files : Files) (asked : Run) (written : List ℕ) : Type 0 where
  pub image : Image
  pub taken : IsProgram files asked.program asked.limits image
  pub run : PlainRun
  pub made : IsPlainRunOf files asked.source (setting_for asked image) run
  pub text : written ≡ plain_text asked.shown (setting_for asked image) run

-- the plain machine's output of a command; for the file of a guest no machine runs, and of an exploration, a search and a pair this
-- says no more than their own definitions
abbrev pub IsPlainOutputOf : Files → Option Command → List ℕ → Type 0
IsPlainOutputOf files command written = IsOutputBy (IsPlainRunOutput files) IsPlainTrialOutput files command written

-- the plain machine's output of the words
abbrev pub IsPlainOutput : Files → List (List ℕ) → List ℕ → Type 0
IsPlainOutput files words written = IsPlainOutputOf files (command_of words) written
