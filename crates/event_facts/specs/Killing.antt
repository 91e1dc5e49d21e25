-- The fact of an event that ends its process by a signal: which rule of the kernel does so. The first that holds is told, in the order in which
-- they are asked. They are read at the place before the event.
use Rattle.std.specs.Prelude.{ℕ, ◌≡◌, ◌%◌, ◌==◌, Bool, true, false, not, List, [], if◌then◌else◌, Option, Some, None, Result, Ok, Err, IfSome}
use Rattle.std.specs.Option.{option_map, option_map_or, option_or, option_to_list}
use Rattle.mach_types.specs.Events.{is_instruction, kind_of, nature_of}
use Rattle.mach_types.specs.Kernel.Areas.{registration}
use Rattle.mach_types.specs.Kernel.SignalFrames.{can_write_frame, frame_read}
use Rattle.mach_types.specs.Kernel.Signals.{Signalling, action_of, has_signal, is_handler, mask_of, next_for}
use Rattle.mach_types.specs.declared.errors.Errno.{Errno}
use Rattle.mach_types.specs.declared.events.Choice.{Choice}
use Rattle.mach_types.specs.declared.events.Interruption.{Interruption}
use Rattle.mach_types.specs.declared.events.Interruption.TheVariants.{Never, Requested, Scheduled, Signalled}
use Rattle.mach_types.specs.declared.limits.End.{End}
use Rattle.mach_types.specs.declared.limits.End.TheVariants as over
use Rattle.mach_types.specs.declared.sequences.Area.{Area}
use Rattle.mach_types.specs.declared.sequences.Outcome.{Outcome}
use Rattle.mach_types.specs.declared.sequences.Outcome.TheVariants as comes_to
use Rattle.rv_inst.specs.Class.{is_call}
use Rattle.rv_inst.specs.declared.effects.Effect.{Effect}
use Rattle.block_model.specs.Beside.{Neighbour}
use Rattle.block_model.specs.Calls.Answers.{argument, call_number, int_argument}
use Rattle.block_model.specs.Deciding.{thread_in}
use Rattle.block_model.specs.Events.Exec.{next_effect, next_fault}
use Rattle.block_model.specs.Events.Signal.{file_interrupted}
use Rattle.block_model.specs.Here.{Here, is_writable, memory}
use Rattle.block_model.specs.Sequences.{area_here, can_write_words, interruption_here, is_inside_here}
use Rattle.fact_types.specs.declared.facts.Fact.{Fact}
use Rattle.fact_types.specs.declared.facts.Fact.TheVariants.{Killed}
use Rattle.fact_types.specs.declared.killing.KillWhy.{KillWhy}
use Rattle.fact_types.specs.declared.killing.KillWhy.TheVariants.{Bad, AreaWords, NoHandler, Masked, FrameNotWritable, FrameNotReadable, CallInside}
use Rattle.event_facts.specs.Interruptions.{came_by}

-- THE PROCESS IS KILLED

-- whether a run that ends so was ended by a signal
abbrev pub is_killed : End → Bool
is_killed (over.Exit status) = false
is_killed (over.Killed signal) = true
is_killed over.Stuck = false
is_killed over.Limit = false
is_killed over.Unended = false

-- whether an event that ends its process so, or doesn't end it, ends it by a signal
abbrev pub kills : Option End → Bool
kills ended = option_map_or is_killed ended false

-- INTERRUPTIONS AND AREAS

-- the interruption of a thread came to this: what it found is bad (rseq(2))
abbrev pub found_bad : Outcome → Option KillWhy
found_bad comes_to.Nothing = None
found_bad comes_to.Cleared = None
found_bad (comes_to.Aborted at) = None
found_bad (comes_to.Killed why) = Some (Bad why)

-- of an event that interrupts its thread, which came to this, or interrupts none
abbrev pub came_bad : Option Outcome → Option KillWhy
came_bad None = None
came_bad (Some o) = found_bad o

-- the words of an area, where there is one, can't be written (rseq(2))
abbrev pub unwritable_words : Here → Option Area → Option KillWhy
unwritable_words here area = if can_write_words here area then None else Some AreaWords

-- SIGNALS

-- a signal is delivered: it has no handler, or the frame of its handler can't be written (signal(7), sigaction(2))
abbrev pub unhandled : Bool → ℕ → Signalling → Option KillWhy
unhandled can_write signal g =
    if not (is_handler (action_of signal g)) then Some NoHandler else if not can_write then Some FrameNotWritable else None

-- the one that is next for thread t
abbrev pub delivery_kills : Here → ℕ → Option ℕ → Option KillWhy
delivery_kills here t None = None
delivery_kills here t (Some signal) =
    unhandled (can_write_frame (is_writable here) (action_of signal here.kernel.signals) (file_interrupted here t (interruption_here here t)))
    signal here.kernel.signals

-- thread t makes a fault of this signal: it masks that, or the signal has no handler
abbrev pub fault_kills : ℕ → ℕ → Signalling → Option KillWhy
fault_kills t signal g =
    if has_signal (mask_of t g) signal then Some Masked else if not (is_handler (action_of signal g)) then Some NoHandler else None

-- CALLS

-- rseq(2) registers an area, unless it is refused
abbrev pub registration_kills : Here → Result Area Errno → Option KillWhy
registration_kills here (Err e) = None
registration_kills here (Ok area) = unwritable_words here (Some area)

-- rseq(area, len, flags, sig) of thread t, which isn't there beside another process. One that unregisters an area doesn't kill
abbrev pub rseq_kills : Option Neighbour → Here → ℕ → Option KillWhy
rseq_kills (Some other) here t = None
rseq_kills None here t =
    let flags = int_argument here t 2 in
    if flags % 2 == 1 then None
    else registration_kills here (registration (area_here here t) (argument here t 0) (int_argument here t 1) flags (int_argument here t 3))

-- rt_sigreturn(2) goes on with a frame, if that can be read
abbrev pub return_kills : Option (List ℕ) → Option KillWhy
return_kills None = Some FrameNotReadable
return_kills (Some words) = None

-- a call that isn't made inside a sequence: those of the numbers 293, rseq(2), and 139, rt_sigreturn(2), can kill, and no other
abbrev pub call_kills : Here → ℕ → ℕ → Option KillWhy
call_kills here t number =
    if number == 293 then rseq_kills here.beside here t
    else if number == 139 then return_kills (frame_read (memory here) (here.file t))
    else None

-- a call of thread t: none may be made inside a sequence
abbrev pub called_kills : Here → ℕ → ℕ → Option KillWhy
called_kills here t number = if is_inside_here here t then Some CallInside else call_kills here t number

-- an instruction of thread t with this effect, which makes this fault or none
abbrev pub instruction_kills : Here → ℕ → Option ℕ → Option Effect → Option KillWhy
instruction_kills here t (Some signal) effect = fault_kills t signal here.kernel.signals
instruction_kills here t None None = None
instruction_kills here t None (Some e) = if is_call e then called_kills here t (call_number here t) else None

-- the next one of thread t
abbrev pub executing_kills : Here → ℕ → Option KillWhy
executing_kills here t = instruction_kills here t (next_fault here t) (next_effect here t)

-- EVENTS

-- an event of thread t by what interrupts it: an instruction; one that takes requests, of which none kills but by what it finds bad; a
-- thread that begins to run; or the delivery of a signal
abbrev pub kills_by : Interruption → Choice → Here → ℕ → Option KillWhy
kills_by Never c here t = if is_instruction (kind_of c) then executing_kills here t else None
kills_by Requested c here t = None
kills_by Scheduled c here t = unwritable_words here (area_here here t)
kills_by Signalled c here t = delivery_kills here t (next_for t here.kernel.signals)

-- why an event ends the process by a signal, which names this thread or none: its interruption found something bad, or by one of those rules
abbrev pub killing_of : Choice → Here → Option ℕ → Option KillWhy
killing_of c here None = None
killing_of c here (Some t) = option_or (came_bad (came_by c here)) (kills_by (nature_of (kind_of c)).interruption c here t)

abbrev pub killing : Choice → Here → Option KillWhy
killing c here = killing_of c here (thread_in c here)

abbrev pub killed_facts : Choice → Here → List Fact
killed_facts c here = option_to_list (option_map Killed (killing c here))

-- AS CODE FINDS IT

-- what is found of an event is why it kills, where it does
abbrev pub IsReason : Option KillWhy → Option KillWhy → Type 0
IsReason found killing = IfSome killing (λ why. found ≡ Some why)

-- what is told where the run is at this end, and this was found of its last event
abbrev pub told_at : End → Option KillWhy → List Fact
told_at end found = if is_killed end then option_to_list (option_map Killed found) else []
