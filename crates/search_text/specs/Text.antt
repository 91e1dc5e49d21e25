-- The text of what a search found (own). Characters are ASCII codes, and numbers are decimal.
use Rattle.std.specs.Prelude.{ℕ, ◌+◌, ◌<◌, ◌&&◌, ◌==◌, Bool, if◌then◌else◌, true, false, not, All, List, [], ◌∷◌, ◌++◌, length, codes}
use Rattle.std.specs.List.{list_any}
use Rattle.mach_types.specs.declared.events.Entry.{Entry}
use Rattle.mach_types.specs.declared.limits.End.{End}
use Rattle.draw_policies.specs.declared.outcome_keys.OutcomeKey.{OutcomeKey}
use Rattle.draw_policies.specs.declared.outcome_keys.OutcomeKey.TheVariants.{ByText, ByEnd}
use Rattle.found_outcomes.specs.Found.{same_end}
use Rattle.found_outcomes.specs.declared.findings.Closing.{Closing}
use Rattle.found_outcomes.specs.declared.findings.Closing.TheVariants.{Complete, Within, Places, Deep, Memory}
use Rattle.found_outcomes.specs.declared.findings.Findings.{Findings}
use Rattle.found_outcomes.specs.declared.findings.HopelessPlaces.{HopelessPlaces}
use Rattle.found_outcomes.specs.declared.findings.OutcomeFound.{OutcomeFound}
use Rattle.search_reductions.specs.declared.signals.Signals.{Signals}
use Rattle.search_reductions.specs.declared.signals.Signals.TheVariants.{Any, Prompt}
use Rattle.place_text.specs.Ends.{console_text, end_line, number_line}
use Rattle.step_log.specs.Grammar.{log_text}

-- how many lines the log of an outcome has, and these lines, which `play` takes; nothing where scripts aren't printed
abbrev pub script_text : Bool → List Entry → List ℕ
script_text true log = number_line (codes "script") (length log) ++ log_text log
script_text false log = []

-- the console of an outcome, where outcomes are told apart by it
abbrev pub console_part : OutcomeKey → List ℕ → List ℕ
console_part ByText console = console_text console
console_part ByEnd console = []

-- an outcome of this number: how the run ends, what it leaves on the console, and its script
abbrev pub outcome_text : OutcomeKey → Bool → ℕ → OutcomeFound → List ℕ
outcome_text apart scripts number o =
    number_line (codes "outcome") number ++ end_line o.end ++ console_part apart o.console ++ script_text scripts o.log.items

-- whether one of the outcomes has this end
abbrev pub has_end : End → List OutcomeFound → Bool
has_end end os = list_any (λ (o : OutcomeFound). same_end o.end end) os

-- whether an outcome is printed after these: where ends alone are told apart, only the first with its end is
abbrev pub is_printed : OutcomeKey → List OutcomeFound → OutcomeFound → Bool
is_printed ByText before o = true
is_printed ByEnd before o = not (has_end o.end before)

-- those of some outcomes that are printed, where these stand before them
abbrev pub printed_of : OutcomeKey → List OutcomeFound → List OutcomeFound → List OutcomeFound
printed_of apart before [] = []
printed_of apart before (o ∷ more) =
    if is_printed apart before o then o ∷ printed_of apart (before ++ o ∷ []) more
    else printed_of apart (before ++ o ∷ []) more

abbrev pub printed : OutcomeKey → List OutcomeFound → List OutcomeFound
printed apart os = printed_of apart [] os

-- these outcomes, where so many stand before them
abbrev pub outcomes_text : OutcomeKey → Bool → ℕ → List OutcomeFound → List ℕ
outcomes_text apart scripts before [] = []
outcomes_text apart scripts before (o ∷ more) =
    outcome_text apart scripts (before + 1) o ++ outcomes_text apart scripts (before + 1) more

-- why the search ended; a number of preemptions is said where runs with more were left out
abbrev pub closing_line : Closing → List ℕ
closing_line Complete = codes "complete\n"
closing_line (Within most) = number_line (codes "complete preemptions") most
closing_line Places = codes "unfinished places\n"
closing_line Deep = codes "unfinished deep\n"
closing_line Memory = codes "unfinished memory\n"

-- whether some run executes instructions without end
abbrev pub endless_line : Bool → List ℕ
endless_line true = codes "endless yes\n"
endless_line false = codes "endless no\n"

-- how many places are hopeless, and where there is one the script that leads to the nearest
abbrev pub hopeless_text : Bool → HopelessPlaces → List ℕ
hopeless_text scripts h =
    number_line (codes "hopeless") h.number ++ script_text (scripts && not (h.number == 0)) h.nearest.items

-- where runs end, if all places were visited
unfoldable pub endings_text : Bool → Closing → Bool → HopelessPlaces → List ℕ
endings_text scripts Complete endless h = endless_line endless ++ hopeless_text scripts h
endings_text scripts (Within most) endless h = []
endings_text scripts Places endless h = []
endings_text scripts Deep endless h = []
endings_text scripts Memory endless h = []

-- of which runs is spoken: of those in which a signal of a thread's own comes before the thread goes on, or of all
abbrev pub signals_line : Signals → List ℕ
signals_line Prompt = codes "signals prompt\n"
signals_line Any = codes "signals any\n"

-- how many places were visited, how long the longest log is that was, where runs end, and of which runs is spoken
abbrev pub places_text : Signals → Bool → Findings → List ℕ
places_text signals scripts found =
    number_line (codes "places") found.places ++ number_line (codes "deepest") found.deepest
    ++ endings_text scripts found.closing found.endless found.hopeless ++ signals_line signals

-- the whole text
unfoldable pub findings_text : OutcomeKey → Signals → Bool → Findings → List ℕ
findings_text apart signals scripts found =
    number_line (codes "outcomes") (length (printed apart found.outcomes.items))
    ++ outcomes_text apart scripts 0 (printed apart found.outcomes.items)
    ++ places_text signals scripts found ++ closing_line found.closing

-- the number of each hart in a log is one digit
abbrev pub AreDigits : List Entry → Type 0
AreDigits log = All (λ (e : Entry). e.hart.0 < 8) log

-- and in the log of an outcome
abbrev pub HasDigits : OutcomeFound → Type 0
HasDigits o = AreDigits o.log.items
