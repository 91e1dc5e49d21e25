-- The sequences of a log by its acts: each named by its hart and its number among the hart's acts.
use Rattle.std.specs.Prelude.{ℕ, zero, suc, ◌+◌, ◌-◌, ◌==◌, ◌≡◌, ◌&&◌, List, [], ◌∷◌, ◌++◌, fold, map, take, drop, if◌then◌else◌, Bool, true, false, Option, Some, None}
use Rattle.std.specs.List.{list_all}
use Rattle.std.specs.Option.{option_map_or}
use Rattle.mach_types.specs.declared.events.Entry.{Entry}
use Rattle.block_model.specs.Run.{IsBlockRun}
use Rattle.block_model.specs.Setting.{Setting}
use Rattle.block_view.specs.declared.forms.Act.{Act}
use Rattle.block_view.specs.declared.forms.Form.{Form}
use Rattle.block_view.specs.declared.forms.Form.TheVariants.{Step, Kernel, Sequence}
use Rattle.block_view.specs.Acts.{acts_of}
use Rattle.block_view.specs.Counting.{is_ended, is_left}
use Rattle.log_gather.specs.LogEvents.{LogEvent, Name, entry_of, is_own, is_undisturbed, log_events, others_of, own_of}
use Rattle.log_gather.specs.Facts.{first_place, own_entries}

abbrev pub is_sequence_form : Form → Bool
is_sequence_form Step = false
is_sequence_form Kernel = false
is_sequence_form (Sequence end) = true

-- in the order of the acts, where so many of each hart came before
abbrev pub names_in : (ℕ → ℕ) → List Act → List Name
names_in acts [] = []
names_in acts (a ∷ as') =
    let rest = names_in (λ k. if a.hart.0 == k then acts k + 1 else acts k) as' in
    if is_sequence_form a.form then record { hart = a.hart.0; number = acts a.hart.0 } ∷ rest else rest

-- act n of hart h, counted from 0
abbrev pub nth_act : ℕ → ℕ → List Act → Option Act
nth_act h n [] = None
nth_act h zero (a ∷ as') = if a.hart.0 == h then Some a else nth_act h zero as'
nth_act h (suc n) (a ∷ as') = if a.hart.0 == h then nth_act h n as' else nth_act h (suc n) as'

-- the events of its span: from its first entry to its last
abbrev pub span_of : Act → List LogEvent → List LogEvent
span_of a ms = take (a.last + 1 - a.first) (drop (a.first - 1) ms)

-- a sequence is private that ended by leaving its range, in whose span nothing disturbs
abbrev pub is_private_act : List LogEvent → Act → Bool
is_private_act ms a = is_ended is_left a.form && is_undisturbed a.hart.0 (span_of a ms)

-- it is gathered, if it is private: the others' entries of its span come before its first entry
abbrev pub gathered_act : List LogEvent → Act → List LogEvent
gathered_act ms a =
    let span = span_of a ms in
    if is_private_act ms a then take (a.first - 1) ms ++ ((others_of a.hart.0 span ++ own_of a.hart.0 span) ++ drop a.last ms) else ms

abbrev pub gathered_if_there : List LogEvent → Option Act → List LogEvent
gathered_if_there ms o = option_map_or (gathered_act ms) o ms

unfoldable pub gather_named : Setting → List Entry → Name → List Entry
gather_named s log x = map entry_of (gathered_if_there (log_events s (first_place s) log) (nth_act x.hart x.number (acts_of s log)))

-- the gathered log, by the acts of each log as it then stands
unfoldable pub gathered : Setting → List Entry → List Entry
gathered s log = fold (gather_named s) log (names_in (λ k. 0) (acts_of s log))

-- a sequence is private in a log
pub record IsPrivate (s : Setting) (log : List Entry) (x : Name) : Type 0 where
  pub act : Act
  pub there : nth_act x.hart x.number (acts_of s log) ≡ Some act
  pub private : is_private_act (log_events s (first_place s) log) act ≡ true

-- the entries of a log from an act's first to its last, those of other harts with them
abbrev pub span_entries : Setting → List Entry → Act → List Entry
span_entries s log a = map entry_of (span_of a (log_events s (first_place s) log))

-- an act of an earlier log stands together in a log: in its span there is none of another hart, and this span is what the hart had of
-- the act's span in the earlier log
pub record StandsTogether (s : Setting) (earlier : List Entry) (was : Act) (log : List Entry) (x : Name) : Type 0 where
  pub act : Act
  pub there : nth_act x.hart x.number (acts_of s log) ≡ Some act
  pub alone : list_all (is_own x.hart) (span_of act (log_events s (first_place s) log)) ≡ true
  pub entries : span_entries s log act ≡ own_entries x.hart (span_entries s earlier was)

-- these are the entries of the gathered log of a log, which is a block run
pub record IsGathered (s : Setting) (log : List Entry) (entries : List Entry) : Type 0 where
  pub block_run : IsBlockRun s log
  pub entries_are : entries ≡ gathered s log
