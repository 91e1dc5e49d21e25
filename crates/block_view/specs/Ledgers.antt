-- What an entry makes of the acts so far, as a ledger keeps them.
use Rattle.std.specs.Prelude.{ℕ, ◌+◌, ◌≡◌, ◌<◌, ◌==◌, zero, suc, List, [], ◌∷◌, ◌++◌, length, filter, find, replicate, slice_get, slice_set, slice_index_or, Bool, true, false, ◌&&◌, ◌||◌, not, if◌then◌else◌, Option, Some, None, is_none, is_some}
use Rattle.std.specs.Option.{option_map, option_map_or}
use Rattle.mach_types.specs.Events.{is_instruction, is_preempt, is_run}
use Rattle.mach_types.specs.Kernel.Areas.{is_inside}
use Rattle.mach_types.specs.declared.events.Tid.{Tid}
use Rattle.mach_types.specs.declared.sequences.Seq.{Seq}
use Rattle.block_model.specs.Acts.{takes_in}
use Rattle.block_model.specs.declared.acts.SeqEnd.{SeqEnd}
use Rattle.block_model.specs.declared.acts.SeqEnd.TheVariants as ends
use Rattle.block_view.specs.Acts.{form_alone}
use Rattle.block_view.specs.declared.course.Course.{Course}
use Rattle.block_view.specs.declared.forms.Act.{Act}
use Rattle.block_view.specs.declared.forms.Form.{Form}
use Rattle.block_view.specs.declared.forms.Form.TheVariants.{Sequence}
use Rattle.block_view.specs.declared.ledger.Going.{Going}
use Rattle.block_view.specs.declared.ledger.Hanging.{Hanging}
use Rattle.block_view.specs.declared.ledger.Ledger.{Ledger}
use Rattle.block_view.specs.declared.passing.Passed.{Passed}
use Rattle.block_view.specs.declared.turns.Turn.{Turn}
use Rattle.block_view.specs.declared.turns.Turn.TheVariants.{Begins, Ends}

-- WHAT AN ENTRY IS

-- an interruption that ended the process
abbrev pub is_fatal : Passed → Bool
is_fatal p = p.interrupts && p.killed

-- a sequence begins with it, where its hart was in none
abbrev pub begins : Passed → Bool
begins p = is_some p.inside && is_instruction p.entry.kind

-- the sequence that its hart was in takes it in
abbrev pub is_more : Passed → Bool
is_more p = is_some p.inside && takes_in p.entry.kind p.interrupts

-- it preempted its thread inside
abbrev pub leaves_inside : Passed → Bool
leaves_inside p = is_some p.inside && is_preempt p.entry.kind

-- it moved the pc out of the sequence that its thread was inside before it
abbrev pub moves_out : Passed → Bool
moves_out p = option_map_or (λ sequence. not (is_inside sequence p.pc)) p.inside true

-- how a sequence that hangs ends, whose thread begins to run by it
abbrev pub verdict_by : Passed → SeqEnd
verdict_by p = if p.killed then ends.Dead else if p.pc == p.entry.pc then ends.Dropped else ends.Cut p.pc

-- HOW A SEQUENCE ENDS THAT GOES ON

-- where it goes on no longer and no event interrupts it
abbrev pub left_or_dropped : Course → SeqEnd
left_or_dropped c = if c.moved_out then ends.Left else ends.Dropped

-- inside, by an event that interrupts its thread or doesn't
abbrev pub cut_or_unended : Bool → Seq → SeqEnd
cut_or_unended interrupts sequence = if interrupts then ends.Cut sequence.abort else ends.Unended

-- with the next event of its hart, which isn't of it and doesn't preempt its thread inside
abbrev pub end_by : Course → Passed → SeqEnd
end_by c p =
    if c.died || (is_fatal p && not (c.moved_out && is_none p.inside)) then ends.Dead
    else option_map_or (cut_or_unended p.interrupts) p.inside (left_or_dropped c)

-- where the log ends, with its thread inside or not
abbrev pub end_here : Course → Bool → SeqEnd
end_here c inside = if c.died then ends.Dead else if inside then ends.Unended else left_or_dropped c

-- THE COURSE OF A SEQUENCE

-- of one that begins with an entry, and of one that takes in one entry more
abbrev pub course_by : Passed → Course
course_by p = record { moved_out = moves_out p; died = p.killed }

abbrev pub gone_by : Course → Passed → Course
gone_by c p = record { moved_out = if is_instruction p.entry.kind then moves_out p else c.moved_out; died = p.killed }

-- WHAT IS KEPT

-- the acts, in the order of their first entries; the sequence that goes on, of each hart; and the sequences that hang
pub record Kept : Type 0 where
  pub acts : List Act
  pub going : List (Option Going)
  pub hanging : List Hanging

abbrev pub kept_in : Ledger → Kept
kept_in ledger = record { acts = ledger.list.items; going = ledger.going.items; hanging = ledger.hanging.items }

-- of a log with no entries, on so many harts
abbrev pub nothing_kept : ℕ → Kept
nothing_kept harts = record { acts = []; going = replicate harts None; hanging = [] }

-- the sequence that goes on on a hart
abbrev pub going_on : Kept → ℕ → Option Going
going_on k h = slice_index_or k.going h None

-- the sequence of a thread that hangs
abbrev pub is_of : Tid → Hanging → Bool
is_of tid x = x.tid.0 == tid.0

abbrev pub hanging_of : Kept → Tid → Option Hanging
hanging_of k tid = find (is_of tid) k.hanging

-- whether an act at a place is that of a sequence which goes on or hangs
abbrev pub is_place : ℕ → Option ℕ → Bool
is_place place o = option_map_or (λ n. n == place) o false

abbrev pub is_open : Kept → ℕ → Act → Bool
is_open k place act =
    is_place place (option_map (λ g. g.place) (going_on k act.hart.0)) || is_place place (option_map (λ x. x.place) (hanging_of k act.tid))

-- of an act at a place, and of acts from a place on, those of such sequences
abbrev pub open_one : Kept → ℕ → Act → List Act
open_one k place act = if is_open k place act then act ∷ [] else []

abbrev pub open_from : Kept → ℕ → List Act → List Act
open_from k place [] = []
open_from k place (act ∷ acts) = open_one k place act ++ open_from k (place + 1) acts

-- each place is that of an act
pub record HasPlaces (k : Kept) : Type 0 where
  pub going : (h : ℕ) (g : Going) → going_on k h ≡ Some g → g.place < length k.acts
  pub hanging : (tid : Tid) (x : Hanging) → hanging_of k tid ≡ Some x → x.place < length k.acts

-- ACTS THAT CHANGE

-- the act at a place is changed
abbrev pub changed_at : ℕ → (Act → Act) → List Act → List Act
changed_at place f [] = []
changed_at zero f (act ∷ acts) = f act ∷ acts
changed_at (suc place) f (act ∷ acts) = act ∷ changed_at place f acts

-- it ends; or takes in an entry
abbrev pub with_end : SeqEnd → Act → Act
with_end end act = record act { form = Sequence end }

abbrev pub with_last : ℕ → Act → Act
with_last number act = record act { last = number }

-- an act that begins with an entry
abbrev pub act_by : Passed → Form → Act
act_by p form = record { hart = p.entry.hart; first = p.number; last = p.number; tid = p.entry.tid; form = form }

-- WHAT AN ENTRY MAKES OF IT

-- an act is added
abbrev pub with_act : Act → Kept → Kept
with_act act k = record k { acts = k.acts ++ act ∷ [] }

-- the act at a place ends
abbrev pub with_end_at : ℕ → SeqEnd → Kept → Kept
with_end_at place end k = record k { acts = changed_at place (with_end end) k.acts }

-- what goes on on a hart is this
abbrev pub with_going : ℕ → Option Going → Kept → Kept
with_going h o k = record k { going = slice_set k.going h o }

-- no sequence of a thread hangs any more
abbrev pub without_hanging : Tid → Kept → Kept
without_hanging tid k = record k { hanging = filter (λ x. not (is_of tid x)) k.hanging }

-- the sequence of the thread that begins to run ends, if one hangs
abbrev pub settled_by : Passed → Option Hanging → Kept → Kept
settled_by p None k = k
settled_by p (Some x) k = without_hanging p.entry.tid (with_end_at x.place (verdict_by p) k)

abbrev pub settled : Passed → Kept → Kept
settled p k = if is_run p.entry.kind then settled_by p (hanging_of k p.entry.tid) k else k

-- a sequence begins
abbrev pub begun : Passed → Kept → Kept
begun p k =
    with_going p.entry.hart.0 (Some (record { place = length k.acts; course = course_by p }))
    (with_act (act_by p (Sequence ends.Unended)) k)

-- a sequence takes in the entry
abbrev pub gone_on : Going → Passed → Going
gone_on g p = record { place = g.place; course = gone_by g.course p }

abbrev pub taken_in : Going → Passed → Kept → Kept
taken_in g p k =
    record (with_going p.entry.hart.0 (Some (gone_on g p)) k) { acts = changed_at g.place (with_last p.number) k.acts }

-- a sequence goes on no longer: it hangs, or ends
abbrev pub with_hanging : Hanging → Kept → Kept
with_hanging x k = record k { hanging = k.hanging ++ x ∷ [] }

abbrev pub hung_or_ended : Going → Passed → Kept → Kept
hung_or_ended g p k =
    if leaves_inside p then with_hanging (record { tid = p.entry.tid; hart = p.entry.hart; place = g.place }) k
    else with_end_at g.place (end_by g.course p) k

abbrev pub stopped : Going → Passed → Kept → Kept
stopped g p k = with_going p.entry.hart.0 None (hung_or_ended g p k)

-- the act that the entry is by itself
abbrev pub with_act_alone : Passed → Kept → Kept
with_act_alone p k = with_act (act_by p (form_alone p.entry.kind)) k

-- where a sequence goes on on its hart, and where none does
abbrev pub noted_in : Option Going → Passed → Kept → Kept
noted_in None p k = if begins p then begun p k else with_act_alone p k
noted_in (Some g) p k = if is_more p then taken_in g p k else with_act_alone p (stopped g p k)

-- WHAT IS TOLD OF IT

-- the act at a place, once it ends
abbrev pub ended_at : ℕ → SeqEnd → Kept → Option Act
ended_at place end k = option_map (with_end end) (slice_get k.acts place)

-- the sequence of the thread that begins to run, if one hangs; and the one that goes on no longer, unless it hangs
abbrev pub settled_act_by : Passed → Option Hanging → Kept → Option Act
settled_act_by p None k = None
settled_act_by p (Some x) k = ended_at x.place (verdict_by p) k

abbrev pub settled_act : Passed → Kept → Option Act
settled_act p k = if is_run p.entry.kind then settled_act_by p (hanging_of k p.entry.tid) k else None

abbrev pub stopped_act : Going → Passed → Kept → Option Act
stopped_act g p k = if leaves_inside p then None else ended_at g.place (end_by g.course p) k

-- where a sequence goes on on its hart, and where none does
abbrev pub turn_in : Option Going → Passed → Kept → Option Turn
turn_in None p k = if begins p then option_map Begins p.inside else option_map Ends (settled_act p k)
turn_in (Some g) p k = if is_more p then None else option_map Ends (stopped_act g p (settled p k))

unfoldable pub turn_noted : Passed → Kept → Option Turn
turn_noted p k = turn_in (going_on k p.entry.hart.0) p k

-- ONE ENTRY MORE

unfoldable pub noted : Passed → Kept → Kept
noted p k = noted_in (going_on k p.entry.hart.0) p (settled p k)

-- the sequence that goes on on a hart ends where the log does
abbrev pub closed_by : Option Going → Bool → Kept → Kept
closed_by None inside k = k
closed_by (Some g) inside k = with_end_at g.place (end_here g.course inside) k

abbrev pub closed : ℕ → Bool → Kept → Kept
closed h inside k = closed_by (going_on k h) inside k
