-- What the interruption of an event comes to: that of the thread which its entry names, where it interrupts one.
use Rattle.process.proofs.Common.{◌≡◌, ℕ, refl, sym, ap, ◌∙◌, Bool, true, false, ◌&&◌, cond, is_some, Option, Some, None, option_map, interruption, Choice, Entry, Area, Done, Hart, Here, IsPlace, Outcome, Parts, Stand, area_here, area_of, byte_in, can_write_in, done_of, here_at, interruption_here, refusal_of, runs, areas_by_number, entry_in, number_of, pc_in, thread_in, done_killed, done_running, lives_on, handled_unless_killed, kills, done_take_by, interrupts}
use Rattle.mach_types.specs.declared.events.Choice.TheVariants as asked
use Rattle.block_model.proofs.Laws.{interrupts_none}
use Rattle.process.proofs.Places.{bytes_at, writable_at}
use Rattle.process.proofs.SignalEvent.{receiving}

-- an event that interrupts a thread, by what it goes on
take_comes : (here : Here) (b : Bool) (r : Option ℕ) → (done_take_by here b r).interrupted ≡ cond (b && is_some r) (option_map (interruption_here here) r) None
take_comes here false r = refl
take_comes here true None = refl
take_comes here true (Some t) = refl

run_comes : (here : Here) (t : ℕ) (o : Outcome) (b : Bool) → (cond b (done_running here t o) (done_killed here t o)).interrupted ≡ Some o
run_comes here t o true = refl
run_comes here t o false = refl

signal_comes : (here : Here) (t signal : ℕ) (o : Outcome) (killer : Option ℕ) → (handled_unless_killed here t signal o killer).interrupted ≡ Some o
signal_comes here t signal o None = refl
signal_comes here t signal o (Some killer) = refl

pub interrupted_is : (c : Choice) (here : Here) → refusal_of c here ≡ None
    → (done_of c here).interrupted ≡ cond (interrupts c here) (option_map (interruption_here here) (thread_in c here)) None
interrupted_is asked.Take here free = take_comes here here.restart (runs here)
interrupted_is (asked.Run t) here free = run_comes here t.0 (interruption_here here t.0) (lives_on here t.0 (interruption_here here t.0))
interrupted_is asked.Signal here free =
    let is = receiving here free in
    let o = interruption_here here is.thread in
    ap (λ (d : Done). d.interrupted) is.done ∙ signal_comes here is.thread is.signal o (kills here is.thread is.signal o) ∙ sym (ap (option_map (interruption_here here)) is.at)
interrupted_is c here free = interrupts_none here c refl

-- an event that interrupts a thread names it
running : (b : Bool) (r : Option ℕ) → (b && is_some r) ≡ true → (t : ℕ) × (r ≡ Some t)
running true (Some t) is = (t, refl)
running true None is = absurd cc
running false r is = absurd cc

named : (c : Choice) (here : Here) → refusal_of c here ≡ None → interrupts c here ≡ true → (t : ℕ) × (thread_in c here ≡ Some t)
named asked.Take here free is = running here.restart (runs here) is
named (asked.Run t) here free is = (t.0, refl)
named asked.Signal here free is = let its = receiving here free in (its.thread, its.at)
named c here free is = absurd cc

-- what was foreseen is what it comes to
pub foreseen_is : (v : Stand) (m : Parts) (h : Hart) (c : Choice) → IsPlace v m h.0 → refusal_of c (here_at v h.0) ≡ None → interrupts c (here_at v h.0) ≡ true
    → (e : Entry) → e ≡ entry_in c (here_at v h.0) → (area : Option Area) → area ≡ area_of e.tid.0 (areas_by_number m.kernel.areas.items)
    → (o : Outcome) → o ≡ interruption (byte_in m.pages) (can_write_in m.pages) area e.pc → Some o ≡ (done_of c (here_at v h.0)).interrupted
foreseen_is v m h c place free does e its area has o is =
    let here = here_at v h.0 in
    let who = named c here free does in
    let t = who.0 in
    let tid : e.tid.0 ≡ t = ap (λ (x : Entry). x.tid.0) its ∙ ap number_of who.1 in
    let pc : e.pc ≡ (here.file t).pc = ap (λ (x : Entry). x.pc) its ∙ ap (pc_in here) who.1 in
    let there : area ≡ area_here here t = has ∙ ap (λ n. area_of n (areas_by_number m.kernel.areas.items)) tid ∙ ap (area_of t) place.tied.tables.areas in
    let same : o ≡ interruption_here here t = is ∙ rw (bytes_at v m h.0 place, writable_at v m h.0 place, there, pc) refl in
    ap Some same ∙ sym (interrupted_is c here free ∙ rw (does, who.1) refl)

pub none_foreseen : (c : Choice) (here : Here) → refusal_of c here ≡ None → interrupts c here ≡ false → None ≡ (done_of c here).interrupted
none_foreseen c here free lacks = sym (interrupted_is c here free ∙ rw lacks refl)
