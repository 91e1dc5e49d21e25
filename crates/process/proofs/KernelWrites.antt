-- What the kernel writes by an event: the pointer of an area that an interruption clears, and behind it the words of the area or the frame of a handler.
use Rattle.process.proofs.Common.{◌≡◌, ◌≢◌, ℕ, List, [], ◌++◌, append-nil, refl, sym, ap, ◌∙◌, Bool, true, false, cond, is_some, Option, Some, None, option_and_then, option_map, same_Some, interruption, pc_after, words_on, writes_of, Choice, Entry, Tid, Area, Done, Hart, Here, IsPlace, Outcome, Parts, Saved, Stand, Write, area_here, area_of, byte_in, can_write_in, done_of, here_at, interruption_here, next_id, refusal_of, runs, areas_by_number, entry_in, number_of, thread_in, done_killed, done_run, done_running, lives_on, done_delivery, file_interrupted, handled_unless_killed, kills, kills_unhandled, done_take_by, killed_by, can_write_words, words_to, IsInterrupted, killer_of, foreseen_writes, interrupts, area_on, done_run_by, none-some, Signalling}
use Rattle.mach_types.specs.Kernel.Signals.{fault_of}
use Rattle.process.specs.Delivering.{entered_frame}
use Rattle.mach_types.specs.Events.{kind_of, nature_of}
use Rattle.mach_types.specs.declared.events.Choice.TheVariants as asked
use Rattle.mach_types.specs.declared.events.Interruption.{Interruption}
use Rattle.mach_types.specs.declared.events.Interruption.TheVariants.{Never, Requested, Scheduled, Signalled}
use Rattle.mach_types.specs.declared.sequences.Outcome.TheVariants as comes_to
use Rattle.block_model.proofs.Laws.{writes_none}
use Rattle.process.proofs.Foreseen.{interrupted_is}
use Rattle.process.proofs.Interruptions.{entered_by_words, is_fatal, lives_by_words}
use Rattle.process.proofs.Places.{bytes_at, writable_at}
use Rattle.process.proofs.SignalDelivery.{unhandled}
use Rattle.process.proofs.SignalEvent.{IsReceiving, receiving}

-- WHAT IS FORESEEN

-- all that enters memory, where it isn't the thread's own or a call's
pub foreseen_entered : (c : Choice) (here : Here) → c ≢ asked.Exec → c ≢ asked.Drain → foreseen_writes c here ≡ (done_of c here).entered
foreseen_entered asked.Exec here no_exec no_drain = absurd (no_exec refl)
foreseen_entered asked.Drain here no_exec no_drain = absurd (no_drain refl)
foreseen_entered c here no_exec no_drain = refl

-- WHO IS INTERRUPTED

-- the event of this choice interrupts the thread that its entry names, which has this area, and its interruption comes to this
pub record IsForeseen (c : Choice) (here : Here) (area : Option Area) (o : Outcome) : Type 0 where
  pub thread : ℕ
  pub at : thread_in c here ≡ Some thread
  pub has : area ≡ area_here here thread
  pub comes : o ≡ interruption_here here thread

pub foreseen_there : (v : Stand) (m : Parts) (h : Hart) (c : Choice) → IsPlace v m h.0 → refusal_of c (here_at v h.0) ≡ None
    → (o : Outcome) → Some o ≡ (done_of c (here_at v h.0)).interrupted → (e : Entry) → e ≡ entry_in c (here_at v h.0)
    → (area : Option Area) → area ≡ area_of e.tid.0 (areas_by_number m.kernel.areas.items) → IsForeseen c (here_at v h.0) area o
foreseen_there v m h c place free o is e its area has =
    found (here_at v h.0) (interrupts c (here_at v h.0)) (thread_in c (here_at v h.0)) refl (is ∙ interrupted_is c (here_at v h.0) free)
    (λ t at.
    let tid : e.tid.0 ≡ t = ap (λ (x : Entry). x.tid.0) its ∙ ap number_of at in
    has ∙ ap (λ n. area_of n (areas_by_number m.kernel.areas.items)) tid ∙ ap (area_of t) place.tied.tables.areas)
  where
    found : (here : Here) (b : Bool) (r : Option ℕ) → thread_in c here ≡ r → Some o ≡ cond b (option_map (interruption_here here) r) None
        → ((t : ℕ) → thread_in c here ≡ Some t → area ≡ area_here here t) → IsForeseen c here area o
    found here false r at comes its_area = absurd cc
    found here true None at comes its_area = absurd cc
    found here true (Some t) at comes its_area = record {
      thread = t;
      at = at;
      has = its_area t at;
      comes = same_Some o (interruption_here here t) comes;
    }

-- as the parts tell it
pub comes_there : (v : Stand) (m : Parts) (h : Hart) (c : Choice) → IsPlace v m h.0 → (area : Option Area) (o : Outcome) → (is : IsForeseen c (here_at v h.0) area o)
    → o ≡ interruption (byte_in m.pages) (can_write_in m.pages) area ((here_at v h.0).file is.thread).pc
comes_there v m h c place area o is = is.comes ∙ sym (rw (bytes_at v m h.0 place, writable_at v m h.0 place, is.has) refl)

-- NOTHING IS WRITTEN

none_by_take : (here : Here) (b : Bool) (r : Option ℕ) → None ≡ (done_take_by here b r).interrupted → (done_take_by here b r).entered ≡ []
none_by_take here false r none = refl
none_by_take here true None none = refl
none_by_take here true (Some t) none = absurd cc

either_comes : (here : Here) (t : ℕ) (o : Outcome) (b : Bool) → None ≡ (cond b (done_running here t o) (done_killed here t o)).interrupted → ⊥
either_comes here t o true none = cc
either_comes here t o false none = cc

delivery_comes : (here : Here) (t signal : ℕ) (o : Outcome) (killer : Option ℕ) → None ≡ (handled_unless_killed here t signal o killer).interrupted → ⊥
delivery_comes here t signal o None none = cc
delivery_comes here t signal o (Some killer) none = cc

-- by an event that interrupts no thread
pub nothing_foreseen : (c : Choice) (here : Here) → refusal_of c here ≡ None → None ≡ (done_of c here).interrupted → [] ≡ foreseen_writes c here
nothing_foreseen asked.Exec here free none = refl
nothing_foreseen asked.Drain here free none = refl
nothing_foreseen asked.Take here free none = sym (none_by_take here here.restart (runs here) none)
nothing_foreseen (asked.Run t) here free none = absurd (either_comes here t.0 (interruption_here here t.0) (lives_on here t.0 (interruption_here here t.0)) none)
nothing_foreseen asked.Signal here free none =
    let is = receiving here free in
    let o = interruption_here here is.thread in
    absurd (delivery_comes here is.thread is.signal o (kills here is.thread is.signal o) (none ∙ ap (λ (d : Done). d.interrupted) is.done))
nothing_foreseen c here free none = sym (writes_none here c refl refl)

-- ONE THREAD IS INTERRUPTED

fatal_is : (o : Outcome) → is_fatal o ≡ is_some (killed_by o)
fatal_is (comes_to.Killed why) = refl
fatal_is o = refl

-- the kinds of events in which something follows an interruption that kills nothing
abbrev pub is_following : Interruption → Bool
is_following Never = false
is_following Requested = false
is_following Scheduled = true
is_following Signalled = true

abbrev pub is_followed : Choice → Bool
is_followed c = is_following (nature_of (kind_of c)).interruption

-- where requests are taken
take_writes : (here : Here) (b : Bool) (r : Option ℕ) (t : ℕ) (area : Option Area) (o : Outcome) → r ≡ Some t → area ≡ area_here here t → o ≡ interruption_here here t
    → Some o ≡ (done_take_by here b r).interrupted → writes_of area o ≡ (done_take_by here b r).entered
take_writes here false r t area o at has comes is = absurd cc
take_writes here true None t area o at has comes is = absurd cc
take_writes here true (Some u) t area o at has comes is = let same : u ≡ t = same_Some u t at in rw (same, has, comes) refl

-- a thread that begins to run, and one that is killed before
run_writes : (here : Here) (t : ℕ) (area : Option Area) (o : Outcome) → area ≡ area_here here t → o ≡ interruption_here here t → is_fatal o ≡ false
    → writes_of area o ++ words_to here area (words_on here.hart (next_id here.kernel.ids)) ≡ (done_run here t).entered
run_writes here t area o has comes goes =
    ap (λ a. writes_of a o ++ words_to here a (words_on here.hart (next_id here.kernel.ids))) has
    ∙ entered_by_words here t o (can_write_words here (area_here here t)) refl
    ∙ sym (ap (λ b. (cond b (done_running here t o) (done_killed here t o)).entered) (lives_by_words here t o goes))
    ∙ ap (λ p. (done_run_by here t p).entered) comes

killed_run : (here : Here) (t : ℕ) (o : Outcome) → is_fatal o ≡ true → (done_run_by here t o).entered ≡ writes_of (area_here here t) o
killed_run here t (comes_to.Killed why) fatal = refl
killed_run here t o fatal = cc

-- the frame of the handler of a signal that is delivered to a thread with this file
abbrev frame_of_delivery : Option ℕ → ℕ → ℕ → Saved → Signalling → List Write
frame_of_delivery killer t signal x g = entered_frame killer t signal (fault_of t signal g) x g

-- a thread that enters a handler, and one that is killed before
delivery_writes : (here : Here) (t signal : ℕ) (o : Outcome) (killer : Option ℕ)
    → (handled_unless_killed here t signal o killer).entered ≡ writes_of (area_here here t) o ++ frame_of_delivery killer t signal (file_interrupted here t o) here.kernel.signals
delivery_writes here t signal o None = refl
delivery_writes here t signal o (Some killer) = sym (append-nil (writes_of (area_here here t) o))

killed_delivery : (here : Here) (t signal : ℕ) (o : Outcome) → is_fatal o ≡ true → (handled_unless_killed here t signal o (kills here t signal o)).entered ≡ writes_of (area_here here t) o
killed_delivery here t signal (comes_to.Killed why) fatal = refl
killed_delivery here t signal o fatal = cc

-- ONE INTERRUPTION, BY THE KIND OF ITS EVENT

-- it kills the process: nothing follows it
pub killed_foreseen : (c : Choice) (here : Here) (area : Option Area) (o : Outcome) → refusal_of c here ≡ None → IsForeseen c here area o → Some o ≡ (done_of c here).interrupted
    → is_some (killed_by o) ≡ true → writes_of area o ≡ foreseen_writes c here
killed_foreseen asked.Take here area o free there is dies = take_writes here here.restart (runs here) there.thread area o there.at there.has there.comes is
killed_foreseen (asked.Run t) here area o free there is dies =
    let same : there.thread ≡ t.0 = same_Some there.thread t.0 (sym there.at) in
    let has : area ≡ area_here here t.0 = there.has ∙ ap (area_here here) same in
    let comes : o ≡ interruption_here here t.0 = there.comes ∙ ap (interruption_here here) same in
    ap (λ a. writes_of a o) has ∙ sym (killed_run here t.0 o (fatal_is o ∙ dies)) ∙ ap (λ p. (done_run_by here t.0 p).entered) comes
killed_foreseen asked.Signal here area o free there is dies =
    let its = receiving here free in
    let same : there.thread ≡ its.thread = same_Some there.thread its.thread (sym there.at ∙ its.at) in
    let has : area ≡ area_here here its.thread = there.has ∙ ap (area_here here) same in
    let comes : o ≡ interruption_here here its.thread = there.comes ∙ ap (interruption_here here) same in
    ap (λ a. writes_of a o) has ∙ sym (killed_delivery here its.thread its.signal o (fatal_is o ∙ dies))
    ∙ ap (λ p. (done_delivery here its.thread its.signal p).entered) comes ∙ sym (ap (λ (d : Done). d.entered) its.done)
killed_foreseen c here area o free there is dies = absurd (none-some o (sym (is ∙ interrupted_is c here free)))

-- nothing follows it where requests are taken either
pub take_foreseen : (c : Choice) (here : Here) (area : Option Area) (o : Outcome) → refusal_of c here ≡ None → IsForeseen c here area o → Some o ≡ (done_of c here).interrupted
    → is_followed c ≡ false → writes_of area o ≡ foreseen_writes c here
take_foreseen asked.Take here area o free there is alone = take_writes here here.restart (runs here) there.thread area o there.at there.has there.comes is
take_foreseen (asked.Run t) here area o free there is alone = absurd cc
take_foreseen asked.Signal here area o free there is alone = absurd cc
take_foreseen c here area o free there is alone = absurd (none-some o (sym (is ∙ interrupted_is c here free)))

-- the words follow it where a thread begins to run
pub run_foreseen : (c : Choice) (here : Here) (t : Tid) (area : Option Area) (o : Outcome) → c ≡ asked.Run t → IsForeseen c here area o → is_some (killed_by o) ≡ false
    → writes_of area o ++ words_to here area (words_on here.hart (next_id here.kernel.ids)) ≡ foreseen_writes c here
run_foreseen c here t area o is there lives =
    let same : there.thread ≡ t.0 = same_Some there.thread t.0 (sym there.at ∙ ap (λ (k : Choice). thread_in k here) is) in
    let has : area ≡ area_here here t.0 = there.has ∙ ap (area_here here) same in
    let comes : o ≡ interruption_here here t.0 = there.comes ∙ ap (interruption_here here) same in
    run_writes here t.0 area o has comes (fatal_is o ∙ lives) ∙ sym (ap (λ (k : Choice). foreseen_writes k here) is)

-- and the frame where a signal is delivered
pub signal_foreseen : (here : Here) (o : Outcome) → refusal_of asked.Signal here ≡ None → (done_of asked.Signal here).interrupted ≡ Some o → is_some (killed_by o) ≡ false
    → (its : IsReceiving here) → writes_of (area_here here its.thread) o
    ++ frame_of_delivery (kills_unhandled here its.thread its.signal o) its.thread its.signal (file_interrupted here its.thread o) here.kernel.signals ≡ (done_of asked.Signal here).entered
signal_foreseen here o free is lives its =
    let t = its.thread in
    let s = its.signal in
    let comes : interruption_here here t ≡ o =
    same_Some (interruption_here here t) o (ap (option_map (interruption_here here)) (sym its.at) ∙ sym (interrupted_is asked.Signal here free) ∙ is) in
    ap (λ killer. writes_of (area_here here t) o ++ frame_of_delivery killer t s (file_interrupted here t o) here.kernel.signals) (sym (unhandled here t s o (fatal_is o ∙ lives)))
    ∙ sym (delivery_writes here t s o (kills here t s o)) ∙ ap (λ p. (done_delivery here t s p).entered) (sym comes) ∙ sym (ap (λ (d : Done). d.entered) its.done)

-- as the parts tell it
pub frame_behind : (here : Here) (its : IsReceiving here) (o : Outcome) → refusal_of asked.Signal here ≡ None → (done_of asked.Signal here).interrupted ≡ Some o → is_some (killed_by o) ≡ false
    → (m : Parts) (t h s : ℕ) → t ≡ its.thread → s ≡ its.signal → (x y : Saved) → IsInterrupted here t h m x → y ≡ record x { pc = pc_after x.pc o }
    → (old new : List Write) → old ≡ writes_of (area_on here) o
    → new ≡ old ++ frame_of_delivery (killer_of (can_write_in m.pages) s y m.kernel.signals) t s y m.kernel.signals → new ≡ (done_of asked.Signal here).entered
frame_behind here its o free is lives m t h s named same x y found file old new cleared added =
    let interrupted : y ≡ file_interrupted here its.thread o =
    file ∙ ap (λ (z : Saved). let w : Saved = record z { pc = pc_after z.pc o } in w) (found.file ∙ ap here.file named) in
    let has : area_on here ≡ area_here here its.thread = ap (option_and_then (area_here here)) its.at in
    let there : old ++ frame_of_delivery (killer_of (can_write_in m.pages) s y m.kernel.signals) t s y m.kernel.signals
    ≡ writes_of (area_here here its.thread) o
    ++ frame_of_delivery (kills_unhandled here its.thread its.signal o) its.thread its.signal (file_interrupted here its.thread o) here.kernel.signals =
    rw (found.writable, found.signals, interrupted, named, same, cleared, has) refl in
    added ∙ there ∙ signal_foreseen here o free is lives its
