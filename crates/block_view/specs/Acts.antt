-- The acts of a log (own): its events, grouped. A restartable sequence (rseq(2)) is one act, from the instruction with which it
-- begins on; each other event is an act of its own. What a sequence takes in is decided by the events that follow it, and so is how
-- it ends.
use Rattle.std.specs.Prelude.{ℕ, ◌+◌, ◌==◌, ◌&&◌, Bool, not, List, [], ◌∷◌, ◌++◌, if◌then◌else◌, length, reverse, Option, Some, None}
use Rattle.std.specs.Option.{option_to_list}
use Rattle.mach_types.specs.Events.{is_preempt, is_run, nature_of}
use Rattle.mach_types.specs.declared.events.Entry.{Entry}
use Rattle.mach_types.specs.declared.events.Kind.{Kind}
use Rattle.mach_types.specs.declared.events.Maker.{Maker}
use Rattle.mach_types.specs.declared.events.Maker.TheVariants as maker
use Rattle.block_model.specs.declared.acts.SeqEnd.{SeqEnd}
use Rattle.block_model.specs.declared.acts.SeqEnd.TheVariants as ends
use Rattle.block_model.specs.Acts.{Sequence as Known, end_at_verdict, end_before, end_so_far, is_inside_at, is_taken_in, sequence_on, with_event}
use Rattle.block_model.specs.Deciding.{history}
use Rattle.block_model.specs.History.{Event, History, is_of_hart}
use Rattle.block_model.specs.Setting.{Setting}
use Rattle.block_view.specs.declared.forms.Act.{Act}
use Rattle.block_view.specs.declared.forms.Form.{Form}
use Rattle.block_view.specs.declared.forms.Form.TheVariants.{Step, Kernel, Sequence}

-- WHAT BECOMES OF A SEQUENCE

-- a sequence as it is after its last event, and how it ended
pub record Whole : Type 0 where
  pub sequence : Known
  pub end : SeqEnd

-- whether thread t begins to run by an event
abbrev pub begins_to_run : ℕ → Event → Bool
begins_to_run t e = is_run e.entry.kind && (e.entry.tid.0 == t)

-- the end of a sequence that hangs, by the events that follow, oldest first: its thread was preempted inside, and the next event by
-- which it begins to run is the verdict. Without one the sequence has no end
abbrev pub verdict : Setting → Known → History → List Event → SeqEnd
verdict s q before [] = ends.Unended
verdict s q before (e ∷ later) = if begins_to_run q.thread e then end_at_verdict s q e before else verdict s q (e ∷ before) later

-- what becomes of a sequence that is known at a place, by the events that follow, oldest first. Those of other harts don't matter. It
-- takes in its hart's next event, where its thread is inside before that and it is an instruction, a store that enters memory, or a
-- take of requests that interrupts nothing; it hangs where that event preempts its thread inside; else it ends there
abbrev pub followed : Setting → Known → History → List Event → Whole
followed s q before [] = record { sequence = q; end = end_so_far s q before }
followed s q before (e ∷ later) =
    if not (is_of_hart q.hart e) then followed s q (e ∷ before) later
    else if is_inside_at s q.hart before && is_taken_in e.entry.kind e.done.interrupted then followed s (with_event e before q) (e ∷ before) later
    else if is_inside_at s q.hart before && is_preempt e.entry.kind then record { sequence = q; end = verdict s q (e ∷ before) later }
    else record { sequence = q; end = end_before s q e before }

-- ACTS

-- the number of the entry that comes after a history: entries are numbered from 1
abbrev pub next_number : History → ℕ
next_number before = length before + 1

-- the act that an event is by itself: a step, where it is an instruction or a store that enters memory, or one of the kernel
abbrev pub form_by : Maker → Form
form_by maker.Thread = Step
form_by maker.Buffer = Step
form_by maker.Kernel = Kernel

abbrev pub form_alone : Kind → Form
form_alone k = form_by (nature_of k).maker

abbrev pub act_alone : Event → History → Act
act_alone e before = record {
  hart = e.entry.hart;
  first = next_number before;
  last = next_number before;
  tid = e.entry.tid;
  form = form_alone e.entry.kind;
}

-- the act that a whole sequence is
abbrev pub act_of : Whole → Act
act_of whole = record {
  hart = record { 0 = whole.sequence.hart };
  first = next_number whole.sequence.begun;
  last = length whole.sequence.reached;
  tid = record { 0 = whole.sequence.thread };
  form = Sequence whole.end;
}

-- the act that begins with an event, by the sequence that the event before it on its hart is of and that which it is of itself: none
-- where it is of one that began before
abbrev pub act_begun_by : Setting → Event → History → List Event → Option Known → Option Known → Option Act
act_begun_by s e before later earlier None = Some (act_alone e before)
act_begun_by s e before later None (Some q) = Some (act_of (followed s q (e ∷ before) later))
act_begun_by s e before later (Some earlier) (Some q) = None

abbrev pub act_begun : Setting → Event → History → List Event → Option Act
act_begun s e before later =
    act_begun_by s e before later (sequence_on s e.entry.hart.0 before) (sequence_on s e.entry.hart.0 (e ∷ before))

-- the acts that begin after a place, in the order of their first events
abbrev pub acts_after : Setting → History → List Event → List Act
acts_after s before [] = []
acts_after s before (e ∷ later) = option_to_list (act_begun s e before later) ++ acts_after s (e ∷ before) later

-- the acts of a log
unfoldable pub acts_of : Setting → List Entry → List Act
acts_of s log = acts_after s [] (reverse (history s log))
