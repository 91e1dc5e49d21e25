-- The facts of signals (signal(7), sigaction(2), tkill(2)): which one was delivered, which came to be pending for a thread, and which is
-- pending no longer. They are read off the signals before an event and after it.
use Rattle.std.specs.Prelude.{ℕ, ◌+◌, ◌==◌, ◌&&◌, Bool, true, false, not, List, [], ◌∷◌, map, slice_get, unwrap_or, if◌then◌else◌, Option, Some, None}
use Rattle.std.specs.List.{flat_map, range_with_len}
use Rattle.std.specs.Option.{option_map_or, option_to_list}
use Rattle.mach_types.specs.Kernel.Signals.{Signalling, has_signal, is_held, next_for, pending_of}
use Rattle.mach_types.specs.Registers.{register}
use Rattle.mach_types.specs.Events.{kind_of, nature_of}
use Rattle.mach_types.specs.declared.events.Choice.{Choice}
use Rattle.mach_types.specs.declared.events.Entry.{Entry}
use Rattle.mach_types.specs.declared.events.Interruption.{Interruption}
use Rattle.mach_types.specs.declared.events.Interruption.TheVariants.{Never, Requested, Scheduled, Signalled}
use Rattle.mach_types.specs.declared.events.Kind.{Kind}
use Rattle.mach_types.specs.declared.threads.Saved.{Saved}
use Rattle.block_model.specs.Deciding.{end_of}
use Rattle.block_model.specs.Here.{runs}
use Rattle.block_model.specs.History.{History, here_in_history}
use Rattle.block_model.specs.Setting.{Setting}
use Rattle.block_model.specs.Sights.{thread}
use Rattle.process.specs.Harts.{file_on}
use Rattle.fact_types.specs.declared.facts.Fact.{Fact}
use Rattle.fact_types.specs.declared.facts.Fact.TheVariants.{DeliveryKills, HandlerEntered, SignalDropped, SignalPosted}
use Rattle.event_facts.specs.Calls.{is_process_end}

-- DELIVERY

-- the signal that is next for thread t
abbrev pub next_held : ℕ → Signalling → Option ℕ
next_held t g = if is_held t g then next_for t g else None

-- whether an event delivers a signal: it interrupts its thread by one
abbrev pub is_delivering : Interruption → Bool
is_delivering Never = false
is_delivering Requested = false
is_delivering Scheduled = false
is_delivering Signalled = true

abbrev pub is_signal : Kind → Bool
is_signal k = is_delivering (nature_of k).interruption

-- the signal that an event of thread t delivers, where these are the signals before it
abbrev pub delivered_by : Choice → ℕ → Signalling → Option ℕ
delivered_by c t g = if is_signal (kind_of c) then next_held t g else None

-- what came of it: the process ended, or the thread has this file. Then it is at the handler, and its frame at the stack pointer, which is x2
-- (RISC-V psABI)
abbrev pub delivered_fact : Bool → Saved → ℕ → Fact
delivered_fact killed file signal = if killed then DeliveryKills signal else HandlerEntered signal file.pc (register file.file 2)

-- at the place after an entry that delivered this signal, or none
abbrev pub delivered_facts : Setting → History → Entry → Option ℕ → List Fact
delivered_facts s past entry None = []
delivered_facts s past entry (Some signal) =
    let after = here_in_history s past entry.hart.0 in
    delivered_fact (is_process_end (end_of s past)) (file_on after (runs after)) signal ∷ []

-- PENDING SIGNALS

-- whether a signal is this one
abbrev pub is_this : ℕ → Option ℕ → Bool
is_this signal which = option_map_or (λ s. s == signal) which false

-- signal s of thread t, for which these were pending and those are: it came to be pending; or it is dropped, where it wasn't delivered
abbrev pub pending_change : Option ℕ → ℕ → ℕ → ℕ → ℕ → Option Fact
pending_change delivered t before after s =
    if has_signal after s then (if has_signal before s then None else Some (SignalPosted s (thread t)))
    else (if has_signal before s && not (is_this s delivered) then Some (SignalDropped s (thread t)) else None)

abbrev pub pending_fact : Option ℕ → ℕ → ℕ → ℕ → ℕ → List Fact
pending_fact delivered t before after k = option_to_list (pending_change delivered t before after (k + 1))

-- of each of the signals 1 to 31, the lowest first
abbrev pub pending_facts : Option ℕ → ℕ → ℕ → ℕ → List Fact
pending_facts delivered t before after = flat_map (pending_fact delivered t before after) (range_with_len 0 31)

-- of a thread of which signals are kept before and after
abbrev pub held_facts : Option ℕ → ℕ → Option ℕ → Option ℕ → List Fact
held_facts delivered t None after = []
held_facts delivered t (Some before) None = []
held_facts delivered t (Some before) (Some after) = pending_facts delivered t before after

-- OF ALL THREADS, BY THEIR NUMBERS

-- what is pending for thread t, where signals are kept of it; and for the thread that has a number behind so many
abbrev pub held_pending : Signalling → ℕ → Option ℕ
held_pending g t = if is_held t g then Some (pending_of t g) else None

abbrev pub pending_behind : Signalling → ℕ → Option ℕ
pending_behind g k = held_pending g (k + 1)

-- the signal that was delivered to thread u, where it was to thread t
abbrev pub delivered_to : Option ℕ → ℕ → ℕ → Option ℕ
delivered_to delivered t u = if u == t then delivered else None

-- of one thread, where this was delivered to thread t
abbrev pub signal_fact : Option ℕ → ℕ → Signalling → Signalling → ℕ → List Fact
signal_fact delivered t before after k =
    held_facts (delivered_to delivered t (k + 1)) (k + 1) (pending_behind before k) (pending_behind after k)

-- of so many threads; one that was created since has nothing pending
unfoldable pub signal_facts : ℕ → Option ℕ → ℕ → Signalling → Signalling → List Fact
signal_facts given delivered t before after = flat_map (signal_fact delivered t before after) (range_with_len 0 given)

-- AS CODE KEEPS THEM

-- what is pending for each of so many threads
abbrev pub all_pending : Signalling → ℕ → List (Option ℕ)
all_pending g given = map (pending_behind g) (range_with_len 0 given)

-- of one thread, where these were pending before
abbrev pub signal_from : List (Option ℕ) → Option ℕ → ℕ → Signalling → ℕ → List Fact
signal_from kept delivered t after k =
    held_facts (delivered_to delivered t (k + 1)) (k + 1) (unwrap_or (slice_get kept k) None) (pending_behind after k)
