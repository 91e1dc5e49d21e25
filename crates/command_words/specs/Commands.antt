-- What can be asked for (own): to run a program, and to show something of the run; to make the file of a guest; to try a
-- guest; to explore runs of a program; to find all its outcomes; or to run two programs together. The names are those of files.
use Rattle.std.specs.Prelude.{ℕ, ◌≡◌, ◌<◌, ◌≤◌, ◌==◌, Bool, true, false, not, List, Option, Some, None, IfSome}
use Rattle.mach_types.specs.declared.limits.Limits.{Limits}
use Rattle.mach_types.specs.Limits.{InRange}
use Rattle.command_words.specs.declared.commands.Draws.{Draws}
use Rattle.command_words.specs.declared.commands.Guest.{Guest}
use Rattle.command_words.specs.declared.commands.SearchSettings.{SearchSettings}
use Rattle.command_words.specs.declared.commands.Settings.{Settings}
use Rattle.command_words.specs.declared.commands.Trial.{Trial}
use Rattle.command_words.specs.Shown.{Shown, Output, Summary, Place, Acts, Gathered, Trace}

-- how the log of the run comes about: on one hart by the fixed rule; by the events of a script; by workers, one for
-- each hart, that choose by a seed; by the events that a seed draws, by these policies; or by the events of a script and those drawn
-- behind them
pub data Source : Type 0 where
  Rule : Source
  Script : (name : List ℕ) → Source
  Workers : (seed : ℕ) → Source
  Drawn : (seed : ℕ) (draws : Draws) → Source
  DrawnAfter : (name : List ℕ) (seed : ℕ) (draws : Draws) → Source

pub record Run : Type 0 where
  pub program : List ℕ
  pub source : Source
  pub shown : Shown
  pub limits : Limits

-- two programs that run together, on the events of a script
pub record PairRun : Type 0 where
  pub first : List ℕ
  pub second : List ℕ
  pub script : List ℕ
  pub limits : Limits

-- a command runs this, makes the file of this guest, makes this trial, explores runs of this program, finds all its outcomes, or
-- runs this pair
pub data Command : Type 0 where
  Runs : (run : Run) → Command
  Makes : (guest : Guest) → Command
  Tries : (trial : Trial) → Command
  Explores : (program : List ℕ) (settings : Settings) → Command
  Searches : (program : List ℕ) (settings : SearchSettings) → Command
  Pairs : (pair : PairRun) → Command

-- the limits of a trial: it has no option for the frames
abbrev pub trial_limits : Trial → Limits
trial_limits trial = record { harts = trial.harts; frames = 4096; steps = trial.steps }

-- whether the log comes about by workers
abbrev pub is_by_workers : Source → Bool
is_by_workers Rule = false
is_by_workers (Script name) = false
is_by_workers (Workers seed) = true
is_by_workers (Drawn seed draws) = false
is_by_workers (DrawnAfter name seed draws) = false

-- whether runs are made by one host thread alone
abbrev pub is_alone : Option ℕ → Bool
is_alone None = false
is_alone (Some jobs) = jobs == 1

-- whether a command needs workers, or other host threads
abbrev pub needs_workers : Command → Bool
needs_workers (Runs run) = is_by_workers run.source
needs_workers (Makes guest) = false
needs_workers (Tries trial) = false
needs_workers (Explores program settings) = not (is_alone settings.jobs)
needs_workers (Searches program settings) = false
needs_workers (Pairs pair) = false

-- whether the words ask for a run by workers, or for runs by several host threads
abbrev pub is_run : Option Command → Bool
is_run None = false
is_run (Some command) = needs_workers command

-- whether a text hangs on more than the words and the files: on how workers take turns, or on how much memory a search has
abbrev pub depends_on_host : Option Command → Bool
depends_on_host None = false
depends_on_host (Some (Runs run)) = is_by_workers run.source
depends_on_host (Some (Makes guest)) = false
depends_on_host (Some (Tries trial)) = false
depends_on_host (Some (Explores program settings)) = false
depends_on_host (Some (Searches program settings)) = true
depends_on_host (Some (Pairs pair)) = false

-- what the options of a search come to is in their ranges
pub record AreSearchable (settings : SearchSettings) : Type 0 where
  pub limits : InRange settings.limits
  pub some : 0 < settings.places
  pub most : settings.places ≤ 16000000

-- what options come to is in their ranges
pub record AreInRange (settings : Settings) : Type 0 where
  pub limits : InRange settings.limits
  pub runs : settings.runs ≤ 1000000000
  pub jobs : IfSome settings.jobs (λ jobs. 0 < jobs)
  pub search : AreSearchable settings.search

-- the limits of a run, a trial or a pair, and the settings of an exploration and of a search, are in their ranges
abbrev pub HasLimits : Command → Type 0
HasLimits (Runs run) = InRange run.limits
HasLimits (Makes guest) = Unit {0}
HasLimits (Tries trial) = InRange (trial_limits trial)
HasLimits (Explores program settings) = AreInRange settings
HasLimits (Searches program settings) = AreSearchable settings
HasLimits (Pairs pair) = InRange pair.limits

-- the fixed rule runs on one hart
abbrev pub HasHartsOf : Source → Limits → Type 0
HasHartsOf Rule limits = limits.harts ≡ 1
HasHartsOf (Script name) limits = Unit {0}
HasHartsOf (Workers seed) limits = Unit {0}
HasHartsOf (Drawn seed draws) limits = Unit {0}
HasHartsOf (DrawnAfter name seed draws) limits = Unit {0}

abbrev pub HasItsHarts : Command → Type 0
HasItsHarts (Runs run) = HasHartsOf run.source run.limits
HasItsHarts (Makes guest) = Unit {0}
HasItsHarts (Tries trial) = Unit {0}
HasItsHarts (Explores program settings) = Unit {0}
HasItsHarts (Searches program settings) = Unit {0}
HasItsHarts (Pairs pair) = Unit {0}

-- the log comes about by a script alone
abbrev pub IsByScript : Source → Type 0
IsByScript Rule = ⊥
IsByScript (Script name) = Unit {0}
IsByScript (Workers seed) = ⊥
IsByScript (Drawn seed draws) = ⊥
IsByScript (DrawnAfter name seed draws) = ⊥

-- what is shown of a run that comes about so: a summary and a trace of one by a script alone, since they are made event by event
abbrev pub IsShownOf : Source → Shown → Type 0
IsShownOf source Output = Unit {0}
IsShownOf source Summary = IsByScript source
IsShownOf source (Place memory) = Unit {0}
IsShownOf source Acts = Unit {0}
IsShownOf source Gathered = Unit {0}
IsShownOf source (Trace span) = IsByScript source

abbrev pub HasItsShown : Command → Type 0
HasItsShown (Runs run) = IsShownOf run.source run.shown
HasItsShown (Makes guest) = Unit {0}
HasItsShown (Tries trial) = Unit {0}
HasItsShown (Explores program settings) = Unit {0}
HasItsShown (Searches program settings) = Unit {0}
HasItsShown (Pairs pair) = Unit {0}

-- it is shown of a run at its end, and not made event by event
abbrev pub IsShownAtEnd : Shown → Type 0
IsShownAtEnd Output = Unit {0}
IsShownAtEnd Summary = ⊥
IsShownAtEnd (Place memory) = Unit {0}
IsShownAtEnd Acts = Unit {0}
IsShownAtEnd Gathered = Unit {0}
IsShownAtEnd (Trace span) = ⊥
