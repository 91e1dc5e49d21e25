-- Acts: the events of each hart, grouped (own). A sequence begins at an instruction of a thread that is inside what its area names
-- (rseq(2)), and takes in each following event of its hart that is an instruction, a store that enters memory, or the taking of
-- barrier requests that interrupts nothing, as long as the thread is inside before it. Every other instruction, and every other
-- store that enters memory, is an act of its own; so is every other event, as an act of the kernel.
use Rattle.std.specs.Prelude.{ℕ, ◌==◌, ◌&&◌, ◌||◌, Bool, true, false, not, [], ◌∷◌, if◌then◌else◌, Option, Some, None, is_some}
use Rattle.std.specs.Option.{option_map_or}
use Rattle.mach_types.specs.Events.{is_instruction, nature_of}
use Rattle.mach_types.specs.declared.events.BarrierPart.{BarrierPart}
use Rattle.mach_types.specs.declared.events.BarrierPart.TheVariants.{Apart, Takes, Returns}
use Rattle.mach_types.specs.declared.events.Kind.{Kind}
use Rattle.mach_types.specs.declared.events.Maker.{Maker}
use Rattle.mach_types.specs.declared.events.Maker.TheVariants.{Thread, Buffer, Kernel}
use Rattle.mach_types.specs.declared.events.Movement.{Movement}
use Rattle.mach_types.specs.declared.events.Movement.TheVariants.{Stays, Leaves, Begins}
use Rattle.mach_types.specs.declared.sequences.Named.{Named}
use Rattle.mach_types.specs.declared.sequences.Named.TheVariants as names
use Rattle.mach_types.specs.declared.sequences.Outcome.{Outcome}
use Rattle.mach_types.specs.declared.sequences.Outcome.TheVariants as comes_to
use Rattle.mach_types.specs.Kernel.Areas.{is_inside_named}
use Rattle.block_model.specs.declared.acts.SeqEnd.{SeqEnd}
use Rattle.block_model.specs.declared.acts.SeqEnd.TheVariants as ends
use Rattle.block_model.specs.History.{Event, History, file, here_in_history, is_of_hart, running}
use Rattle.block_model.specs.Sequences.{is_inside_here, is_inside_waiting, named_here}
use Rattle.block_model.specs.Setting.{Setting}

-- INSIDE

-- what the area of the thread on hart h names at the end of a history, as its hart sees memory; nothing on an idle hart
abbrev pub named_at : Setting → ℕ → History → Named
named_at s h before = option_map_or (named_here (here_in_history s before h)) (running s h before) names.Nothing

-- whether the thread on hart h is inside there
abbrev pub is_inside_at : Setting → ℕ → History → Bool
is_inside_at s h before = option_map_or (is_inside_here (here_in_history s before h)) (running s h before) false

-- WHICH EVENTS A SEQUENCE HAS

-- whether a sequence takes in an event of its hart before which its thread is inside, and which interrupts
-- a thread or doesn't: one that the hart makes; and of the kernel's, that it takes requests and interrupts
-- nothing
abbrev pub takes_in_of_kernel : BarrierPart → Bool → Bool
takes_in_of_kernel Apart interrupts = false
takes_in_of_kernel Takes interrupts = not interrupts
takes_in_of_kernel Returns interrupts = false

abbrev pub takes_in_by : Maker → BarrierPart → Bool → Bool
takes_in_by Thread barriers interrupts = true
takes_in_by Buffer barriers interrupts = true
takes_in_by Kernel barriers interrupts = takes_in_of_kernel barriers interrupts

abbrev pub takes_in : Kind → Bool → Bool
takes_in k interrupts = takes_in_by (nature_of k).maker (nature_of k).barriers interrupts

abbrev pub is_taken_in : Kind → Option Outcome → Bool
is_taken_in k interrupted = takes_in k (is_some interrupted)

-- a sequence as it is known at a place: its hart and its thread; the place before its first event, the place before the last of
-- its instructions so far, and the place after its last event so far
pub record Sequence : Type 0 where
  pub hart : ℕ
  pub thread : ℕ
  pub begun : History
  pub last_instruction : History
  pub reached : History

-- a sequence that begins with an event
abbrev pub begun_with : ℕ → Event → History → Sequence
begun_with h e before = record { hart = h; thread = e.entry.tid.0; begun = before; last_instruction = before; reached = e ∷ before }

-- a sequence that takes in one more event
abbrev pub with_event : Event → History → Sequence → Sequence
with_event e before q = record q {
  last_instruction = if is_instruction e.entry.kind then before else q.last_instruction;
  reached = e ∷ before;
}

-- the sequence of an event of a hart before which its thread is inside, where the hart's event before it was of this sequence, or
-- of none
abbrev pub taken_up : ℕ → Event → History → Option Sequence → Option Sequence
taken_up h e before None = if is_instruction e.entry.kind then Some (begun_with h e before) else None
taken_up h e before (Some q) = if is_taken_in e.entry.kind e.done.interrupted then Some (with_event e before q) else None

-- the sequence that the newest event of hart h is of
abbrev pub sequence_on : Setting → ℕ → History → Option Sequence
sequence_on s h [] = None
sequence_on s h (e ∷ before) =
    if not (is_of_hart h e) then sequence_on s h before
    else if is_inside_at s h before then taken_up h e before (sequence_on s h before)
    else None

-- SEQUENCES THAT HANG

-- the sequence of thread t that hangs: its thread was preempted inside, and hasn't begun to run since
abbrev pub hanging_moved : Setting → Event → History → Movement → Option Sequence → Option Sequence
hanging_moved s e before Stays still = still
hanging_moved s e before Leaves still =
    if is_inside_at s e.entry.hart.0 before then sequence_on s e.entry.hart.0 before else None
hanging_moved s e before Begins still = None

abbrev pub hanging_after : Setting → ℕ → Event → History → Kind → Option Sequence → Option Sequence
hanging_after s t e before k still = hanging_moved s e before (nature_of k).movement still

abbrev pub hanging : Setting → ℕ → History → Option Sequence
hanging s t [] = None
hanging s t (e ∷ before) =
    if e.entry.tid.0 == t then hanging_after s t e before e.entry.kind (hanging s t before) else hanging s t before

-- HOW A SEQUENCE ENDS

-- the last instruction moved the pc out of the range that was named before it
abbrev pub moved_out : Setting → Sequence → Bool
moved_out s q = not (is_inside_named (named_at s q.hart q.last_instruction) (file s q.thread q.reached).pc)

-- whether an event ended the process
abbrev pub has_killed : Event → Bool
has_killed e = is_some e.done.ended

-- whether an event of a sequence so far ended the process: only the newest can
abbrev pub has_died : Sequence → Bool
has_died q = elim q.reached [ [] ↦ false | e ∷ before ↦ has_killed e ]

-- the address to which an interruption sends its thread
abbrev pub abort_of : Option Outcome → Option ℕ
abort_of (Some (comes_to.Aborted at)) = Some at
abort_of other = None

-- whether an event is an interruption that ended the process
abbrev pub is_fatal : Event → Bool
is_fatal e = is_some e.done.interrupted && has_killed e

-- the end of a sequence that an interruption cuts where its thread is inside, and that ends so otherwise
abbrev pub cut_or : SeqEnd → Bool → Option ℕ → SeqEnd
cut_or other inside None = other
cut_or other inside (Some at) = if inside then ends.Cut at else other

abbrev pub left_or_dropped : Setting → Sequence → Bool → SeqEnd
left_or_dropped s q true = ends.Unended
left_or_dropped s q false = if moved_out s q then ends.Left else ends.Dropped

-- of one whose hart goes on with e, where the thread isn't preempted inside
abbrev pub end_before : Setting → Sequence → Event → History → SeqEnd
end_before s q e before =
    let inside = is_inside_at s q.hart before in
    if has_died q || (is_fatal e && not (moved_out s q && not inside)) then ends.Dead
    else cut_or (left_or_dropped s q inside) inside (abort_of e.done.interrupted)

-- of one that hangs, whose thread begins to run by e
abbrev pub end_at_verdict : Setting → Sequence → Event → History → SeqEnd
end_at_verdict s q e before =
    let inside = is_inside_waiting (here_in_history s before e.entry.hart.0) q.thread in
    if has_killed e then ends.Dead
    else cut_or (if inside then ends.Unended else ends.Dropped) inside (abort_of e.done.interrupted)

-- of one whose hart makes no event after it, at the end of a log. One that hangs there is unended
abbrev pub end_so_far : Setting → Sequence → History → SeqEnd
end_so_far s q before = if has_died q then ends.Dead else left_or_dropped s q (is_inside_at s q.hart before)
