-- A signal that is delivered to the thread on a hart.
use Rattle.std.specs.Prelude.{ℕ, ◌≡◌, ◌==◌, ◌&&◌, Bool, true, not, List, [], if◌then◌else◌, Option, Some, None, slice_get}
use Rattle.std.specs.Option.{option_and_then, option_map}
use Rattle.mach_types.specs.declared.events.Tid.{Tid}
use Rattle.mach_types.specs.declared.limits.End.{End}
use Rattle.mach_types.specs.declared.limits.End.TheVariants.{Killed}
use Rattle.mach_types.specs.declared.signal_words.Action.{Action}
use Rattle.mach_types.specs.declared.signal_words.Fault.{Fault}
use Rattle.mach_types.specs.declared.signals.TheConstants.{SIGSEGV}
use Rattle.mach_types.specs.declared.threads.Saved.{Saved}
use Rattle.mach_types.specs.declared.user_memory.Write.{Write}
use Rattle.mach_types.specs.Kernel.Areas.{area_of}
use Rattle.mach_types.specs.Kernel.SignalFrames.{can_write_frame, frame_writes, handler_file}
use Rattle.mach_types.specs.Kernel.Signals.{Signalling, action_of, has_signal, is_handler, is_held, mask_of, next_for}
use Rattle.hart_state.specs.declared.hart.HartState.{HartState}
use Rattle.page_map.specs.Map.{byte_in, can_write_in}
use Rattle.sys_calls.specs.Registered.{areas_by_number}
use Rattle.block_model.specs.Events.Signal.{done_delivery, kills, signals_handled}
use Rattle.block_model.specs.Here.{Done, Here, is_writable, memory, runs}
use Rattle.block_model.specs.History.{file_among}
use Rattle.block_model.specs.Sequences.{area_here, interruption_here}
use Rattle.process.specs.Reservations.{lost_unless}
use Rattle.process.specs.Stored.{IsWritten}
use Rattle.process.specs.declared.parts.Parts.{Parts}

-- whether a thread doesn't mask a signal whose action is a handler
abbrev pub has_handler_in : ℕ → ℕ → Signalling → Bool
has_handler_in t signal g = not (has_signal (mask_of t g) signal) && is_handler (action_of signal g)

-- the signal that can be delivered to the thread on the hart; none where no thread runs
abbrev pub next_on : Here → Option ℕ
next_on here = option_and_then (λ t. next_for t here.kernel.signals) (runs here)

-- a mask and pending signals are kept of the thread on hart h
abbrev pub HasSignals : Parts → ℕ → Type 0
HasSignals m h = (x : HartState) (t : Tid) → slice_get m.harts.items h ≡ Some x → x.running ≡ Some t → is_held t.0 m.kernel.signals ≡ true

-- WHERE NOTHING KILLS

-- the signal by which the process is killed where a thread with this file would enter the handler of a signal: the signal itself
-- where its action is no handler, SIGSEGV where the frame can't be written
abbrev pub killer_of : (ℕ → Bool) → ℕ → Saved → Signalling → Option ℕ
killer_of can_write signal x g =
    if not (is_handler (action_of signal g)) then Some signal
    else if not (can_write_frame can_write (action_of signal g) x) then Some SIGSEGV
    else None

-- unless the process is to be killed: the file with which the handler starts, the writes of its frame, the signals once it was
-- entered, and how the run has ended
abbrev pub file_unless : Option ℕ → ℕ → Action → Saved → Saved
file_unless None signal a x = handler_file signal a x
file_unless (Some killer) signal a x = x

abbrev pub frame_unless : Option ℕ → ℕ → Action → Option Fault → Saved → ℕ → List Write
frame_unless None signal a fault x mask = frame_writes signal a fault x mask
frame_unless (Some killer) signal a fault x mask = []

abbrev pub signals_unless : Option ℕ → ℕ → ℕ → Signalling → Signalling
signals_unless None t signal g = signals_handled t signal g
signals_unless (Some killer) t signal g = g

abbrev pub ended_unless : Option ℕ → Option End → Option End
ended_unless None ended = ended
ended_unless (Some killer) ended = Some (Killed killer)

-- the frame of the handler of a signal, of a fault or of none, that thread t with this file enters, unless the process is to be killed
abbrev pub entered_frame : Option ℕ → ℕ → ℕ → Option Fault → Saved → Signalling → List Write
entered_frame killer t signal fault x g = frame_unless killer signal (action_of signal g) fault x (mask_of t g)

-- thread t of hart h with file x entered the handler of a signal, of a fault or of none, unless the process is to be killed: this is
-- its file then, and the pages, the other harts and the signals have what was written
pub record IsEntered (t h signal : ℕ) (fault : Option Fault) (killer : Option ℕ) (x x' : Saved) (m m' : Parts) : Type 0 where
  pub file : x' ≡ file_unless killer signal (action_of signal m.kernel.signals) x
  pub pages : IsWritten (entered_frame killer t signal fault x m.kernel.signals) m.pages m'.pages
  pub harts : (k : ℕ) → slice_get m'.harts.items k
      ≡ option_map (lost_unless (k == h) (entered_frame killer t signal fault x m.kernel.signals)) (slice_get m.harts.items k)
  pub signals : m'.kernel.signals ≡ signals_unless killer t signal m.kernel.signals

-- THE WHOLE DELIVERY

-- these are the pages, the areas and the signals at the place, and this is the file of thread t, which runs on hart h
pub record IsInterrupted (here : Here) (t h : ℕ) (m : Parts) (x : Saved) : Type 0 where
  pub hart : h ≡ here.hart
  pub bytes : byte_in m.pages ≡ memory here
  pub writable : can_write_in m.pages ≡ is_writable here
  pub area : area_of t (areas_by_number m.kernel.areas.items) ≡ area_here here t
  pub signals : m.kernel.signals ≡ here.kernel.signals
  pub file : x ≡ here.file t

-- what the delivery of a signal to thread t does at a place
abbrev pub done_here : Here → ℕ → ℕ → Done
done_here here t signal = done_delivery here t signal (interruption_here here t)

-- the thread was interrupted, and the handler of the signal was entered unless the process is to be killed by this signal: this is
-- its file then, and the pages, the other harts and the signals have what was written
pub record IsDelivered (here : Here) (t signal : ℕ) (killer : Option ℕ) (x : Saved) (m m' : Parts) : Type 0 where
  pub dies : killer ≡ kills here t signal (interruption_here here t)
  pub file : x ≡ file_among (done_here here t signal).files t (here.file t)
  pub pages : IsWritten (done_here here t signal).entered m.pages m'.pages
  pub harts : (k : ℕ) → slice_get m'.harts.items k
      ≡ option_map (lost_unless (k == here.hart) (done_here here t signal).entered) (slice_get m.harts.items k)
  pub signals : m'.kernel.signals ≡ (done_here here t signal).kernel.signals

-- a hart whose thread goes on with a file after a signal was delivered to it
abbrev pub gone_on_with : Saved → HartState → HartState
gone_on_with saved x = record x { file = saved.file; pc = saved.pc; reserved = None }
