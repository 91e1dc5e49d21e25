-- Whole logs: what holds of each restartable sequence of a log (rseq(2)). Each condition is one at an event, or at a place, and is
-- read by looking back from it.
use Rattle.std.specs.Prelude.{ℕ, ◌+◌, ◌-◌, ◌≡◌, ◌≤◌, ◌/◌, ◌⊎◌, Bool, true, false, not, ◌&&◌, ◌||◌, ◌==◌, List, [], ◌∷◌, ◌++◌, Any, length, Option, Some, None, is_some}
use Rattle.std.specs.Option.{option_map_or}
use Rattle.std.specs.List.{list_any}
use Rattle.mach_types.specs.Bytes.{word_at}
use Rattle.mach_types.specs.Kernel.Areas.{is_clearable, is_inside, pointer_of}
use Rattle.mach_types.specs.Kernel.Pages.{permission_of}
use Rattle.mach_types.specs.Kernel.SignalFrames.{can_write_frame, frame_at, frame_size, frame_writes, handler_file, stack_pointer}
use Rattle.mach_types.specs.Kernel.Signals.{Signalling, action_of, fault_of, is_handler, mask_of, next_for}
use Rattle.mach_types.specs.Kernel.Threads.{is_ready}
use Rattle.mach_types.specs.declared.address_space.TheConstants.{PAGE_SIZE}
use Rattle.mach_types.specs.Events.{is_instruction, nature_of}
use Rattle.mach_types.specs.declared.events.Interruption.{Interruption}
use Rattle.mach_types.specs.declared.events.Interruption.TheVariants.{Never, Requested, Scheduled, Signalled}
use Rattle.mach_types.specs.declared.events.Kind.{Kind}
use Rattle.mach_types.specs.declared.events.Kind.TheVariants as kind
use Rattle.mach_types.specs.declared.limits.End.{End}
use Rattle.mach_types.specs.declared.limits.End.TheVariants.{Killed}
use Rattle.mach_types.specs.declared.sequences.Area.{Area}
use Rattle.mach_types.specs.declared.sequences.BadWhy.{BadWhy}
use Rattle.mach_types.specs.declared.sequences.Named.{Named}
use Rattle.mach_types.specs.declared.sequences.Named.TheVariants as names
use Rattle.mach_types.specs.declared.sequences.Outcome.TheVariants as comes_to
use Rattle.mach_types.specs.declared.sequences.Seq.{Seq}
use Rattle.mach_types.specs.declared.sequences.TheConstants.{AREA_SIZE, DESCRIPTOR_SIZE, RSEQ_CS}
use Rattle.mach_types.specs.declared.signal_words.Action.{Action}
use Rattle.mach_types.specs.declared.signals.TheConstants.{SIGSEGV}
use Rattle.mach_types.specs.declared.threads.Saved.{Saved}
use Rattle.mach_types.specs.declared.user_memory.Store.{Store}
use Rattle.mach_types.specs.declared.user_memory.Write.{Write}
use Rattle.mach_types.specs.declared.user_memory.Write.TheVariants.{Stored, Zeroed}
use Rattle.rv_inst.specs.Class.{is_call}
use Rattle.block_model.specs.declared.acts.SeqEnd.{SeqEnd}
use Rattle.block_model.specs.declared.acts.SeqEnd.TheVariants as ends
use Rattle.block_model.specs.Acts.{Sequence, end_at_verdict, end_before, end_so_far, hanging, is_inside_at, named_at, sequence_on}
use Rattle.block_model.specs.Events.Exec.{next_effect, next_fault}
use Rattle.rv_inst.specs.Accesses.{Bytes}
use Rattle.block_model.specs.Footprints.{meets}
use Rattle.block_model.specs.Here.{Here, is_writable, memory, view}
use Rattle.block_model.specs.History.{Event, History, can_be_written, file, here_in_history, kernel, running}
use Rattle.block_model.specs.Sequences.{area_here, can_write_words, named_waiting}
use Rattle.block_model.specs.Setting.{Setting}

-- WHERE ITS THREAD IS

-- from the place before its first event to the place before the next event of its hart, the thread of a sequence runs on its hart
pub record RunsThroughout (s : Setting) (before : History) (h : ℕ) (q : Sequence) : Type 0 where
  pub hart : q.hart ≡ h
  pub first : running s h q.begun ≡ Some q.thread
  pub now : running s h before ≡ Some q.thread

-- while a sequence hangs its thread runs on no hart: it is ready
pub record HangsReady (s : Setting) (before : History) (t : ℕ) (q : Sequence) : Type 0 where
  pub thread : q.thread ≡ t
  pub ready : is_ready t (kernel s before).threads ≡ true

-- CUT

-- the frame of the handler of a signal that is delivered to thread t, which has this file
abbrev pub frame_of_handler : ℕ → ℕ → Signalling → Saved → List Write
frame_of_handler t signal g saved = frame_writes signal (action_of signal g) (fault_of t signal g) saved (mask_of t g)

-- the handler of the signal that is delivered to thread t was entered, and returns to this file: the frame, which is what the event
-- wrote last, has the file and the mask that the thread had, and the thread starts the handler
pub record IsHandled (s : Setting) (e : Event) (before : History) (t : ℕ) (saved : Saved) : Type 0 where
  pub signal : ℕ
  pub next : next_for t (kernel s before).signals ≡ Some signal
  pub handler : is_handler (action_of signal (kernel s before).signals) ≡ true
  pub earlier : List Write
  pub frame : e.done.entered ≡ earlier ++ frame_of_handler t signal (kernel s before).signals saved
  pub starts : file s t (e ∷ before) ≡ handler_file signal (action_of signal (kernel s before).signals) saved

-- a thread t that an event interrupts goes on with this file: at once, or where a signal is delivered once the handler returns
abbrev pub GoesOnFrom : Setting → Interruption → Event → History → ℕ → Saved → Type 0
GoesOnFrom s Never e before t saved = ⊥
GoesOnFrom s Requested e before t saved = file s t (e ∷ before) ≡ saved
GoesOnFrom s Scheduled e before t saved = file s t (e ∷ before) ≡ saved
GoesOnFrom s Signalled e before t saved = IsHandled s e before t saved

abbrev pub GoesOnWith : Setting → Kind → Event → History → ℕ → Saved → Type 0
GoesOnWith s k e before t saved = GoesOnFrom s (nature_of k).interruption e before t saved

-- the pointer of an area is 0, as memory is
abbrev pub IsNull : Setting → History → ℕ → Area → Type 0
IsNull s before h area = word_at (memory (here_in_history s before h)) (area.at + RSEQ_CS) 8 ≡ Some 0

-- the frame of a handler that is entered in thread t lies on the pointer of an area
abbrev pub lies_on_words : Area → Action → ℕ → Bool
lies_on_words area a sp = meets (record { at = area.at + RSEQ_CS; count = 8 }) (frame_at a sp) (frame_size a)

abbrev pub lies_on_pointer : Setting → History → ℕ → Area → Bool
lies_on_pointer s before t area =
    let g = (kernel s before).signals in
    option_map_or (λ signal. lies_on_words area (action_of signal g) (stack_pointer (file s t before))) (next_for t g) false

-- an event that interrupts thread t leaves the pointer of its area 0; but the frame of a signal's handler may lie on it
abbrev pub IsNullAfter : Setting → Interruption → Event → History → ℕ → Area → Type 0
IsNullAfter s Never e before t area = ⊥
IsNullAfter s Requested e before t area = IsNull s (e ∷ before) e.entry.hart.0 area
IsNullAfter s Scheduled e before t area = IsNull s (e ∷ before) e.entry.hart.0 area
IsNullAfter s Signalled e before t area = lies_on_pointer s before t area ≡ false → IsNull s (e ∷ before) e.entry.hart.0 area

abbrev pub IsLeftNull : Setting → Kind → Event → History → ℕ → Area → Type 0
IsLeftNull s k e before t area = IsNullAfter s (nature_of k).interruption e before t area

-- an interruption e after a history cut a sequence: the area of its thread named a good sequence with this abort handler, in which
-- the thread was; the word before the handler could be read and was the signature with which the area was registered; the pointer
-- of the area became 0, and is left so by e; and the thread goes on at the handler, with all other registers as they were. No store
-- of a hart waits where it interrupts a thread, so memory is what the hart sees
pub record IsCutProperly (s : Setting) (e : Event) (before : History) (q : Sequence) (at : ℕ) : Type 0 where
  pub area : Area
  pub named : Seq
  pub registered : area_here (here_in_history s before e.entry.hart.0) q.thread ≡ Some area
  pub good : named_waiting (here_in_history s before e.entry.hart.0) q.thread ≡ names.Good named
  pub inside : is_inside named (file s q.thread before).pc ≡ true
  pub handler : named.abort ≡ at
  pub above : 4 ≤ at
  pub signed : word_at (memory (here_in_history s before e.entry.hart.0)) (at - 4) 4 ≡ Some area.sig
  pub cleared : Any (λ w. w ≡ Stored (record { at = area.at + RSEQ_CS; size = 8; value = 0 })) e.done.entered
  pub null : IsLeftNull s e.entry.kind e before q.thread area
  pub goes_on : GoesOnWith s e.entry.kind e before q.thread (record (file s q.thread q.reached) { pc = at })

-- DROPPED

-- whether a store, or a write, has one of these bytes
abbrev pub store_meets : Bytes → Store → Bool
store_meets bytes w = meets bytes w.at w.size

abbrev pub write_meets : Bytes → Write → Bool
write_meets bytes (Stored w) = store_meets bytes w
write_meets bytes (Zeroed at n) = meets bytes at n

-- the same permission, or none twice
abbrev pub is_same : Option ℕ → Option ℕ → Bool
is_same None None = true
is_same None (Some b) = false
is_same (Some a) None = false
is_same (Some a) (Some b) = a == b

-- whether an event changed the permission of a page, or mapped or removed it; bytes lie in one page or in two
abbrev pub permission_changed : Setting → Event → History → ℕ → Bool
permission_changed s e before page =
    not (is_same (permission_of (kernel s before).pages.runs page) (permission_of e.done.kernel.pages.runs page))

abbrev pub changed_page : Setting → Event → History → Bytes → Bool
changed_page s e before bytes =
    permission_changed s e before (bytes.at / PAGE_SIZE) || permission_changed s e before ((bytes.at + bytes.count - 1) / PAGE_SIZE)

-- whether an event touched these bytes: it executed a store to one of them, a write to one of them entered memory, or the
-- permission of a page of theirs changed
abbrev pub touches : Setting → Event → History → Bytes → Bool
touches s e before bytes =
    list_any (store_meets bytes) e.done.executed
    || list_any (write_meets bytes) e.done.entered
    || changed_page s e before bytes

-- whether one of the newest events of a history, so many, touched one of these
abbrev pub touched_in : Setting → ℕ → History → List Bytes → Bool
touched_in s n [] watched = false
touched_in s n (e ∷ before) watched =
    not (n == 0) && (list_any (touches s e before) watched || touched_in s (n - 1) before watched)

-- the bytes at which a check of a thread looks that has this area, whose area names a good sequence: those of the area, of the
-- descriptor, and of the signature
abbrev pub watched_of : (ℕ → Option ℕ) → Area → Named → List Bytes
watched_of byte area names.Nothing = []
watched_of byte area (names.Bad why) = []
watched_of byte area (names.Good sequence) =
    record { at = area.at; count = AREA_SIZE }
    ∷ record { at = pointer_of byte area; count = DESCRIPTOR_SIZE }
    ∷ record { at = sequence.abort - 4; count = 4 }
    ∷ []

abbrev pub watched_at : Setting → ℕ → ℕ → History → List Bytes
watched_at s h t before =
    option_map_or
    (λ area. watched_of (view (here_in_history s before h)) area (named_at s h before))
    (area_here (here_in_history s before h) t)
    []

-- the place before the last event of a sequence
abbrev pub before_last : Sequence → History
before_last q = elim q.reached [ [] ↦ [] | e ∷ before ↦ before ]

-- from the place before the last event of a sequence to the end of a history, something touched what was named
abbrev pub WasTouched : Setting → History → Sequence → Type 0
WasTouched s before q =
    touched_in s (length before - length (before_last q)) before (watched_at s q.hart q.thread (before_last q)) ≡ true

-- DEAD

-- the signal that ends the process where an instruction of a sequence does: that of its fault, or SIGSEGV for a call inside
abbrev pub signal_inside : Setting → ℕ → ℕ → History → ℕ
signal_inside s h t before = option_map_or (λ n. n) (next_fault (here_in_history s before h) t) SIGSEGV

-- whether the next instruction of a thread faults, or is a call
abbrev pub faults_or_calls : Here → ℕ → Bool
faults_or_calls here t = is_some (next_fault here t) || option_map_or is_call (next_effect here t) false

-- an event that may end the process inside: an instruction that faults, or is a call
pub record IsFatalInstruction (s : Setting) (e : Event) (before : History) : Type 0 where
  pub instruction : is_instruction e.entry.kind ≡ true
  pub fails : faults_or_calls (here_in_history s before e.entry.hart.0) e.entry.tid.0 ≡ true

-- what is named is bad
abbrev pub IsBad : Named → Type 0
IsBad n = (why : BadWhy) × (n ≡ names.Bad why)

-- what is named is a good sequence
abbrev pub IsGood : Named → Type 0
IsGood n = (sequence : Seq) × (n ≡ names.Good sequence)

-- whether the pointer of an area can be written, where there is an area
abbrev pub can_clear : Here → Option Area → Bool
can_clear here None = true
can_clear here (Some area) = is_clearable (is_writable here) area

-- the check of an interrupted thread finds something bad: what its area names is bad; or is a good sequence, and the pointer of the
-- area can't be written
abbrev pub FindsBad : Here → ℕ → Type 0
FindsBad here t = IsBad (named_waiting here t) ⊎ (IsGood (named_waiting here t) × (can_clear here (area_here here t) ≡ false))

-- why the process ends where a waiting thread would begin to run: its check finds something bad, or the words of its area can't be
-- written
abbrev pub HasCause : Here → ℕ → Type 0
HasCause here t = FindsBad here t ⊎ (can_write_words here (area_here here t) ≡ false)

-- the delivery of a signal to a thread ends the process: by SIGSEGV where the check of the thread finds something bad; else by the
-- signal where its action is no handler; and else by SIGSEGV, since the frame of the handler can't be written
pub record IsKilledByDelivery (s : Setting) (e : Event) (before : History) : Type 0 where
  pub signal : ℕ
  pub next : next_for e.entry.tid.0 (kernel s before).signals ≡ Some signal
  pub checked : FindsBad (here_in_history s before e.entry.hart.0) e.entry.tid.0 → e.done.ended ≡ Some (Killed SIGSEGV)
  pub unhandled : (FindsBad (here_in_history s before e.entry.hart.0) e.entry.tid.0 → ⊥)
      → is_handler (action_of signal (kernel s before).signals) ≡ false → e.done.ended ≡ Some (Killed signal)
  pub unframed : (FindsBad (here_in_history s before e.entry.hart.0) e.entry.tid.0 → ⊥)
      → is_handler (action_of signal (kernel s before).signals) ≡ true
      → (e.done.ended ≡ Some (Killed SIGSEGV)) × (can_write_frame (can_be_written s before) (action_of signal (kernel s before).signals) (file s e.entry.tid.0 before) ≡ false)

-- how an interruption ends the process, by what it is; a take of requests does so only where the check of
-- the thread finds something bad
abbrev pub IsDeadFrom : Setting → Interruption → Event → History → Type 0
IsDeadFrom s Never e before = ⊥
IsDeadFrom s Requested e before =
    (e.done.ended ≡ Some (Killed SIGSEGV)) × FindsBad (here_in_history s before e.entry.hart.0) e.entry.tid.0
IsDeadFrom s Scheduled e before = e.done.ended ≡ Some (Killed SIGSEGV)
IsDeadFrom s Signalled e before = IsKilledByDelivery s e before

abbrev pub IsDeadBy : Setting → Kind → Event → History → Type 0
IsDeadBy s k e before = IsDeadFrom s (nature_of k).interruption e before

-- PREEMPTED

-- an event that touches no byte and no page: it executes no store, no write enters memory, and the pages are what they were
pub record TouchesNothing (s : Setting) (e : Event) (before : History) : Type 0 where
  pub executed : e.done.executed ≡ []
  pub entered : e.done.entered ≡ []
  pub pages : e.done.kernel.pages ≡ (kernel s before).pages

-- EACH EVENT

-- the end of a sequence is that it was cut, or the end of the process
abbrev pub IsCutOrDead : SeqEnd → Type 0
IsCutOrDead end = (end ≡ ends.Dead) ⊎ ((at : ℕ) × (end ≡ ends.Cut at))

-- the end of a sequence is that its thread left it, or is no longer inside
abbrev pub IsLeftOrDropped : SeqEnd → Type 0
IsLeftOrDropped end = (end ≡ ends.Left) ⊎ (end ≡ ends.Dropped)

-- what the next event of the hart of a sequence, which isn't of the sequence, may do to it. One that isn't over hangs from then on.
-- Where the event sends the thread to an abort handler, the sequence is cut or dead. Where it interrupts the thread: one that isn't
-- inside goes on with its registers and its pc, at once or when the handler of a signal returns; the pointer of the thread's area is
-- left 0, unless the process ends; and something bad ends the process. How an interruption ends the process is said of each that does,
-- whatever the end of the sequence
pub record EndsWhole (s : Setting) (e : Event) (before : History) (q : Sequence) : Type 0 where
  pub unended : end_before s q e before ≡ ends.Unended → hanging s q.thread (e ∷ before) ≡ Some q
  pub interrupted : is_some e.done.interrupted ≡ true → is_inside_at s q.hart before ≡ true → IsCutOrDead (end_before s q e before)
  pub cut : (at : ℕ) → end_before s q e before ≡ ends.Cut at → IsCutProperly s e before q at
  pub aborted : (at : ℕ) → e.done.interrupted ≡ Some (comes_to.Aborted at) → IsCutOrDead (end_before s q e before)
  pub dropped : end_before s q e before ≡ ends.Dropped → WasTouched s before q
  pub kept : is_some e.done.interrupted ≡ true → e.done.ended ≡ None → IsLeftOrDropped (end_before s q e before)
      → GoesOnWith s e.entry.kind e before q.thread (file s q.thread q.reached)
  pub emptied : (area : Area) → is_some e.done.interrupted ≡ true → e.done.ended ≡ None
      → area_here (here_in_history s before e.entry.hart.0) q.thread ≡ Some area → IsLeftNull s e.entry.kind e before q.thread area
  pub dead : end_before s q e before ≡ ends.Dead → IsDeadBy s e.entry.kind e before
  pub killed : is_some e.done.interrupted ≡ true → is_some e.done.ended ≡ true → IsDeadBy s e.entry.kind e before
  pub caused : is_some e.done.interrupted ≡ true → FindsBad (here_in_history s before e.entry.hart.0) q.thread → e.done.ended ≡ Some (Killed SIGSEGV)

-- what the event by which the thread of a hanging sequence begins to run may do to it. Where it sends the thread to an abort handler,
-- the sequence is cut or dead; it is dead where there is a cause, and only there; and where it was dropped, its thread keeps its
-- registers and its pc
pub record EndsWholeAtVerdict (s : Setting) (e : Event) (before : History) (q : Sequence) : Type 0 where
  pub over : IsCutOrDead (end_at_verdict s q e before) ⊎ (end_at_verdict s q e before ≡ ends.Dropped)
  pub outside : is_inside_at s e.entry.hart.0 (e ∷ before) ≡ false
  pub cut : (at : ℕ) → end_at_verdict s q e before ≡ ends.Cut at → IsCutProperly s e before q at
  pub aborted : (at : ℕ) → e.done.interrupted ≡ Some (comes_to.Aborted at)
      → (end_at_verdict s q e before ≡ ends.Cut at) ⊎ (end_at_verdict s q e before ≡ ends.Dead)
  pub dropped : end_at_verdict s q e before ≡ ends.Dropped → WasTouched s before q
  pub kept : end_at_verdict s q e before ≡ ends.Dropped → file s q.thread (e ∷ before) ≡ file s q.thread q.reached
  pub dead : end_at_verdict s q e before ≡ ends.Dead → IsDeadBy s e.entry.kind e before
  pub cause : end_at_verdict s q e before ≡ ends.Dead → HasCause (here_in_history s before e.entry.hart.0) q.thread
  pub caused : HasCause (here_in_history s before e.entry.hart.0) q.thread → end_at_verdict s q e before ≡ ends.Dead

-- EACH PLACE

-- what holds of the sequences of a hart, and of those that hang, at a place of a log: where their threads are, and that one which
-- has ended there as dropped was touched
pub record IsWholePlace (s : Setting) (before : History) : Type 0 where
  pub runs : (h : ℕ) (q : Sequence) → sequence_on s h before ≡ Some q → RunsThroughout s before h q
  pub hangs : (t : ℕ) (q : Sequence) → hanging s t before ≡ Some q → HangsReady s before t q
  pub dropped : (h : ℕ) (q : Sequence) → sequence_on s h before ≡ Some q → end_so_far s q before ≡ ends.Dropped → WasTouched s before q

-- an event: what it makes of the sequence of its hart that it isn't of, and of one that hangs; that it touches nothing where it
-- preempts a thread inside; and where it is of a sequence, it is an event of its thread, and ends the process by the signal of its
-- fault alone, where it is an instruction that faults or is a call
pub record IsWholeEvent (s : Setting) (e : Event) (before : History) : Type 0 where
  pub place : IsWholePlace s (e ∷ before)
  pub ends : (q : Sequence) → sequence_on s e.entry.hart.0 before ≡ Some q
      → sequence_on s e.entry.hart.0 (e ∷ before) ≡ None → EndsWhole s e before q
  pub verdict : (q : Sequence) → e.entry.kind ≡ kind.Run → hanging s e.entry.tid.0 before ≡ Some q → EndsWholeAtVerdict s e before q
  pub preempted : e.entry.kind ≡ kind.Preempt → is_inside_at s e.entry.hart.0 before ≡ true → TouchesNothing s e before
  pub own : (q : Sequence) → sequence_on s e.entry.hart.0 (e ∷ before) ≡ Some q → e.entry.tid.0 ≡ q.thread
  pub dies : (q : Sequence) (over : End) → sequence_on s e.entry.hart.0 (e ∷ before) ≡ Some q → e.done.ended ≡ Some over
      → over ≡ Killed (signal_inside s e.entry.hart.0 e.entry.tid.0 before)
  pub fatal : (q : Sequence) (over : End) → sequence_on s e.entry.hart.0 (e ∷ before) ≡ Some q → e.done.ended ≡ Some over
      → IsFatalInstruction s e before

-- a log is whole where each of its events is
abbrev pub IsWholeHistory : Setting → History → Type 0
IsWholeHistory s [] = IsWholePlace s []
IsWholeHistory s (e ∷ before) = IsWholeHistory s before × IsWholeEvent s e before
