-- How the acts of a log stand at a place: those that have ended, the sequences that go on, and those that hang. Each event changes
-- them in one way, and the acts of a whole log are what becomes of them by the events that follow.
use Rattle.std.specs.Prelude.{◌&&◌, not, List, [], ◌∷◌, ◌++◌, map, if◌then◌else◌, Option, Some, None}
use Rattle.block_model.specs.declared.acts.SeqEnd.TheVariants as ends
use Rattle.block_model.specs.Acts.{Sequence as Known, end_at_verdict, end_before, is_inside_at, is_taken_in, sequence_on, with_event}
use Rattle.block_model.specs.History.{Event, History, is_of_hart}
use Rattle.block_model.specs.Setting.{Setting}
use Rattle.block_view.specs.Acts.{act_alone, act_of, begins_to_run, followed, verdict}
use Rattle.mach_types.specs.Events.{is_preempt}
use Rattle.block_view.specs.declared.forms.Act.{Act}

-- an act at a place
pub data Standing : Type 0 where
  Over : (act : Act) → Standing
  Going : (sequence : Known) → Standing
  Hanging : (sequence : Known) → Standing

-- as it is listed there: a sequence that has no end yet is unended
abbrev pub unended : Known → Act
unended q = act_of (record { sequence = q; end = ends.Unended })

abbrev pub listed : Standing → Act
listed (Over act) = act
listed (Going q) = unended q
listed (Hanging q) = unended q

-- what becomes of it by the events that follow, oldest first
abbrev pub at_the_end : Setting → History → List Event → Standing → Act
at_the_end s before later (Over act) = act
at_the_end s before later (Going q) = act_of (followed s q before later)
at_the_end s before later (Hanging q) = act_of (record { sequence = q; end = verdict s q before later })

-- a sequence that goes on, after one event more
abbrev pub going_after : Setting → Event → History → Known → Standing
going_after s e before q =
    if not (is_of_hart q.hart e) then Going q
    else if is_inside_at s q.hart before && is_taken_in e.entry.kind e.done.interrupted then Going (with_event e before q)
    else if is_inside_at s q.hart before && is_preempt e.entry.kind then Hanging q
    else Over (act_of (record { sequence = q; end = end_before s q e before }))

-- one that hangs
abbrev pub hanging_after : Setting → Event → History → Known → Standing
hanging_after s e before q =
    if begins_to_run q.thread e then Over (act_of (record { sequence = q; end = end_at_verdict s q e before })) else Hanging q

abbrev pub after : Setting → Event → History → Standing → Standing
after s e before (Over act) = Over act
after s e before (Going q) = going_after s e before q
after s e before (Hanging q) = hanging_after s e before q

-- the act that begins with an event, by the sequence that the event before it on its hart is of and that which it is of itself
abbrev pub begun_by : Event → History → Option Known → Option Known → List Standing
begun_by e before earlier None = Over (act_alone e before) ∷ []
begun_by e before None (Some q) = Going q ∷ []
begun_by e before (Some earlier) (Some q) = []

abbrev pub begun : Setting → Event → History → List Standing
begun s e before = begun_by e before (sequence_on s e.entry.hart.0 before) (sequence_on s e.entry.hart.0 (e ∷ before))

-- the acts that began before a place, in the order of their first events
abbrev pub standings : Setting → History → List Standing
standings s [] = []
standings s (e ∷ before) = map (after s e before) (standings s before) ++ begun s e before
