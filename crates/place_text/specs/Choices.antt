-- The lines of choices: those that a hart may make, and why it may not make the others.
use Rattle.std.specs.Prelude.{ℕ, List, [], ◌∷◌, ◌++◌, map, Result, Ok, Err, codes}
use Rattle.std.specs.Fmt.{decimal}
use Rattle.std.specs.List.{flat_map}
use Rattle.mach_types.specs.Events.{kind_of, own_choices}
use Rattle.mach_types.specs.Kernel.Threads.{Thread}
use Rattle.mach_types.specs.declared.events.Choice.{Choice}
use Rattle.mach_types.specs.declared.events.Choice.TheVariants.{Run}
use Rattle.mach_types.specs.declared.events.Entry.{Entry}
use Rattle.mach_types.specs.declared.events.Why.{Why}
use Rattle.mach_types.specs.declared.events.Why.TheVariants as why
use Rattle.block_model.specs.Deciding.{decide}
use Rattle.block_model.specs.History.{History}
use Rattle.block_model.specs.Setting.{Setting}
use Rattle.block_model.specs.declared.refusals.Refused.{Refused}
use Rattle.block_model.specs.declared.refusals.Refused.TheVariants.{Ended, Full, NotEnabled}
use Rattle.step_log.specs.Grammar.{run_field}
use Rattle.step_log.specs.Text.{kind_word}
use Rattle.place_text.specs.Fields.{line, value_text}

-- a condition of an event by its name
abbrev pub why_word : Why → List ℕ
why_word why.NoHart = codes "NoHart"
why_word why.Idle = codes "Idle"
why_word why.InBarrier = codes "InBarrier"
why_word why.Waiting = codes "Waiting"
why_word why.FullBuffer = codes "FullBuffer"
why_word why.Others = codes "Others"
why_word why.NoStore = codes "NoStore"
why_word why.NoRequest = codes "NoRequest"
why_word why.NotInBarrier = codes "NotInBarrier"
why_word why.Targets = codes "Targets"
why_word why.Busy = codes "Busy"
why_word why.NotReady = codes "NotReady"
why_word why.NotAllowed = codes "NotAllowed"
why_word why.NoSignal = codes "NoSignal"

-- why a choice is refused: the first condition that fails; or the run has ended, or the log is full
abbrev pub refusal_word : Refused → List ℕ
refusal_word (Ended end) = codes "Ended"
refusal_word Full = codes "Full"
refusal_word (NotEnabled which) = why_word which

-- the fields of a choice: its kind, and the thread of a `run`
abbrev pub choice_fields : Choice → List (List ℕ)
choice_fields choice = kind_word (kind_of choice) ∷ run_field choice

-- `not H KIND WHY`, or `not H run T WHY`
abbrev pub refused_line : ℕ → Choice → Refused → List ℕ
refused_line h choice refused = line (codes "not") (decimal h ∷ choice_fields choice ++ refusal_word refused ∷ [])

-- `may H KIND TID PC`: the entry of a choice that is allowed, as its line in a log has it
abbrev pub allowed_line : Entry → List ℕ
allowed_line entry =
    line (codes "may") (decimal entry.hart.0 ∷ kind_word entry.kind ∷ decimal entry.tid.0 ∷ value_text entry.pc ∷ [])

-- the line of a choice that is answered so
abbrev pub choice_line : ℕ → Choice → Result Entry Refused → List ℕ
choice_line h choice (Ok entry) = allowed_line entry
choice_line h choice (Err refused) = refused_line h choice refused

-- the choices to run a live thread, in their order
abbrev pub run_choices : List Thread → List Choice
run_choices live = map (λ th. Run (record { 0 = th.tid })) live

-- one line for each of these choices of hart h
abbrev pub choice_lines : Setting → History → ℕ → List Choice → List ℕ
choice_lines s before h choices = flat_map (λ choice. choice_line h choice (decide s before h choice)) choices

-- the lines of the choices of hart h: its own, and those to run a thread
unfoldable pub choices_text : Setting → History → List Choice → ℕ → List ℕ
choices_text s before runs h = choice_lines s before h own_choices ++ choice_lines s before h runs
