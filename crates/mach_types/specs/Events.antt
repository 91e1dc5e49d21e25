-- Choices, kinds of event, and entries of a log.
use Rattle.std.specs.Prelude.{ℕ, ◌+◌, ◌==◌, ◌&&◌, Bool, true, false, List, [], ◌∷◌, length, Option, Some, None}
use Rattle.std.specs.Option.{option_map_or}
use Rattle.mach_types.specs.declared.events.BarrierPart.{BarrierPart}
use Rattle.mach_types.specs.declared.events.BarrierPart.TheVariants.{Apart, Takes, Returns}
use Rattle.mach_types.specs.declared.events.Choice.{Choice}
use Rattle.mach_types.specs.declared.events.Choice.TheVariants as asked
use Rattle.mach_types.specs.declared.events.Entry.{Entry}
use Rattle.mach_types.specs.declared.events.Interruption.{Interruption}
use Rattle.mach_types.specs.declared.events.Interruption.TheVariants.{Never, Requested, Scheduled, Signalled}
use Rattle.mach_types.specs.declared.events.Kind.{Kind}
use Rattle.mach_types.specs.declared.events.Kind.TheVariants as kind
use Rattle.mach_types.specs.declared.events.Maker.{Maker}
use Rattle.mach_types.specs.declared.events.Maker.TheVariants.{Thread, Buffer, Kernel}
use Rattle.mach_types.specs.declared.events.Movement.{Movement}
use Rattle.mach_types.specs.declared.events.Movement.TheVariants.{Stays, Leaves, Begins}
use Rattle.mach_types.specs.declared.events.Nature.{Nature}
use Rattle.mach_types.specs.declared.events.Tid.{Tid}

-- CHOICES

-- the kind of event that a choice asks for
abbrev pub kind_of : Choice → Kind
kind_of asked.Exec = kind.Exec
kind_of asked.Drain = kind.Drain
kind_of asked.Take = kind.Take
kind_of asked.Done = kind.Done
kind_of asked.Preempt = kind.Preempt
kind_of (asked.Run t) = kind.Run
kind_of asked.Signal = kind.Signal

-- the thread that a choice names, which is to begin to run; the others name none
abbrev pub begun_by : Choice → Option Tid
begun_by asked.Exec = None
begun_by asked.Drain = None
begun_by asked.Take = None
begun_by asked.Done = None
begun_by asked.Preempt = None
begun_by (asked.Run t) = Some t
begun_by asked.Signal = None

-- the choice of a kind, which names this thread if it names one
abbrev pub choice_for : Kind → Tid → Choice
choice_for kind.Exec t = asked.Exec
choice_for kind.Drain t = asked.Drain
choice_for kind.Take t = asked.Take
choice_for kind.Done t = asked.Done
choice_for kind.Preempt t = asked.Preempt
choice_for kind.Run t = asked.Run t
choice_for kind.Signal t = asked.Signal

-- the choice of an entry's kind, with its thread
abbrev pub choice_with : Kind → Entry → Choice
choice_with k e = choice_for k e.tid

-- the choice that an entry answers
abbrev pub choice_of : Entry → Choice
choice_of e = choice_with e.kind e

-- all kinds, and the place of a kind among them; a kind is another one where it has its place
abbrev pub all_kinds : List Kind
all_kinds = kind.Exec ∷ kind.Drain ∷ kind.Take ∷ kind.Done ∷ kind.Preempt ∷ kind.Run ∷ kind.Signal ∷ []

abbrev pub number_of_kind : Kind → ℕ
number_of_kind kind.Exec = 0
number_of_kind kind.Drain = 1
number_of_kind kind.Take = 2
number_of_kind kind.Done = 3
number_of_kind kind.Preempt = 4
number_of_kind kind.Run = 5
number_of_kind kind.Signal = 6

abbrev pub is_kind : Kind → Kind → Bool
is_kind k j = number_of_kind k == number_of_kind j

-- the choices that name no thread; and the number of a choice, of which no other choice has the same

abbrev pub own_choices : List Choice
own_choices = asked.Exec ∷ asked.Drain ∷ asked.Take ∷ asked.Done ∷ asked.Preempt ∷ asked.Signal ∷ []

abbrev pub number_of_choice : Choice → ℕ
number_of_choice c = option_map_or (λ (t : Tid). length all_kinds + t.0) (begun_by c) (number_of_kind (kind_of c))

-- WHAT AN EVENT OF A KIND IS

-- who makes it, where it leaves its thread, what interrupts its thread (rseq(2)), and what it is to
-- barriers (membarrier(2)). All that is told of kinds elsewhere is read off this, but which condition of
-- an event fails and what the event does
abbrev pub nature_of : Kind → Nature
nature_of kind.Exec = record { maker = Thread; movement = Stays; interruption = Never; barriers = Apart }
nature_of kind.Drain = record { maker = Buffer; movement = Stays; interruption = Never; barriers = Apart }
nature_of kind.Take = record { maker = Kernel; movement = Stays; interruption = Requested; barriers = Takes }
nature_of kind.Done = record { maker = Kernel; movement = Stays; interruption = Never; barriers = Returns }
nature_of kind.Preempt = record { maker = Kernel; movement = Leaves; interruption = Never; barriers = Apart }
nature_of kind.Run = record { maker = Kernel; movement = Begins; interruption = Scheduled; barriers = Apart }
nature_of kind.Signal = record { maker = Kernel; movement = Stays; interruption = Signalled; barriers = Apart }

-- who makes the event of a choice
abbrev pub maker_of : Choice → Maker
maker_of c = (nature_of (kind_of c)).maker

-- whether the thread of the hart makes an event: an instruction, its fault or its call
abbrev pub is_by_thread : Maker → Bool
is_by_thread Thread = true
is_by_thread Buffer = false
is_by_thread Kernel = false

abbrev pub is_instruction : Kind → Bool
is_instruction k = is_by_thread (nature_of k).maker

-- whether a thread leaves its hart, and whether one begins to run, which a choice then names
abbrev pub is_leaving : Movement → Bool
is_leaving Stays = false
is_leaving Leaves = true
is_leaving Begins = false

abbrev pub is_beginning : Movement → Bool
is_beginning Stays = false
is_beginning Leaves = false
is_beginning Begins = true

abbrev pub is_preempt : Kind → Bool
is_preempt k = is_leaving (nature_of k).movement

abbrev pub is_run : Kind → Bool
is_run k = is_beginning (nature_of k).movement

-- whether an event interrupts its thread, where a request that it takes asks for a restart or doesn't, and
-- a thread runs on its hart or doesn't
abbrev pub is_interrupting : Interruption → Bool → Bool → Bool
is_interrupting Never restart busy = false
is_interrupting Requested restart busy = restart && busy
is_interrupting Scheduled restart busy = true
is_interrupting Signalled restart busy = true

-- whether requests of barriers are taken, and whether a barrier returns
abbrev pub is_taking : BarrierPart → Bool
is_taking Apart = false
is_taking Takes = true
is_taking Returns = false

abbrev pub is_returning : BarrierPart → Bool
is_returning Apart = false
is_returning Takes = false
is_returning Returns = true

abbrev pub is_take : Kind → Bool
is_take k = is_taking (nature_of k).barriers

abbrev pub is_return : Kind → Bool
is_return k = is_returning (nature_of k).barriers
