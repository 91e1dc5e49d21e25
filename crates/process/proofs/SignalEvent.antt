-- The event of a signal: who receives it, and the parts after it.
use Rattle.process.proofs.Common.{◌≡◌, ◌≢◌, ℕ, List, [], ◌∷◌, append-nil, refl, sym, ap, ◌∙◌, subst, Bool, cond, eqb, not, is_some, length, Option, Some, None, slice_get, option_and_then, option_map, ne_eqb, same_Some, AreSaved, Done, Hart, HartState, Here, IsPlace, IsUncounted, IsWritten, Kernel, Map, Outcome, Parts, Plain, Running, Saved, Setting, Stand, Store, Why, Write, area_of, counted, credit_of, done_of, file_among, file_on, hart_at, hart_in, here_at, here_in_plain, interruption_here, lost_unless, refusal_of, runs, state_of, thread, Idle, InBarrier, Waiting, IsTable, Table, running_saves_nothing, HoldsTables, holds_signals, unless_in_barrier, unless_waiting, handled_unless_killed, kills, IsChanged, IsDelivered, IsInterrupted, done_here, ended_unless, next_on, NoSignal, next_for, done_next, done_signal_by, refusal_delivery, refusal_signal_by, gone_on_with, add-zero}
use Rattle.process.proofs.SavedFiles.{saved_but_one}
use Rattle.mach_types.specs.declared.events.Choice.TheVariants as asked
use Rattle.process.proofs.Entries.{uncounted_as}
use Rattle.process.proofs.HartStates.{own_after}
use Rattle.process.proofs.Interruptions.{begun_beside}
use Rattle.process.proofs.Memory.{pages_written, readable_written}
use Rattle.process.proofs.Places.{bytes_at, goes_on, runs_there, was_not_stuck, writable_at}
use Rattle.process.proofs.RunEvent.{file_other}

-- WHO RECEIVES IT

-- this thread runs on the hart, this signal is delivered to it, and this is what is done
pub record IsReceiving (here : Here) : Type 0 where
  pub thread : ℕ
  pub signal : ℕ
  pub at : runs here ≡ Some thread
  pub next : next_for thread here.kernel.signals ≡ Some signal
  pub done : done_of asked.Signal here ≡ done_here here thread signal

pub receiving : (here : Here) → refusal_of asked.Signal here ≡ None → IsReceiving here
receiving here free = by_thread (runs here) refl free
  where
    by_signal : (t : ℕ) (o : Option ℕ) → runs here ≡ Some t → next_for t here.kernel.signals ≡ o → refusal_delivery here o ≡ None → IsReceiving here
    by_signal t None at next e = cc
    by_signal t (Some s) at next e = record {
      thread = t;
      signal = s;
      at = at;
      next = next;
      done = ap (done_signal_by here) at ∙ ap (done_next here t) next;
    }

    by_barrier : (a : Option ℕ) (why : Option Why) → unless_in_barrier a why ≡ None → why ≡ None
    by_barrier None why e = e
    by_barrier (Some left) why e = cc

    by_thread : (o : Option ℕ) → runs here ≡ o → refusal_signal_by here o ≡ None → IsReceiving here
    by_thread None at e = cc
    by_thread (Some t) at e = by_signal t (next_for t here.kernel.signals) at refl (by_barrier here.awaits _ e)

-- why none does, as the hart tells it
pub refusal_as : (here : Here) (x : HartState) (n k credit : ℕ) (idle : Bool) (o : Option ℕ) → x ≡ hart_in here n k credit → idle ≡ not (is_some x.running) → o ≡ next_on here
    → refusal_of asked.Signal here ≡ cond idle (Some Idle) (cond (is_some x.waits) (Some InBarrier) (cond (is_some o) (unless_waiting x.buffer) (Some NoSignal)))
refusal_as here x n k credit idle o own is next = by_thread (runs here) refl (is ∙ ap (λ (y : HartState). not (is_some y.running)) own) next
  where
    by_signal : (t : ℕ) (p : Option ℕ) → o ≡ p → refusal_delivery here p ≡ cond (is_some o) (unless_waiting x.buffer) (Some NoSignal)
    by_signal t None same = rw same refl
    by_signal t (Some s) same = rw same (ap (λ (y : HartState). unless_waiting y.buffer) (sym own))

    by_barrier : (a : Option ℕ) (why : Option Why) → unless_in_barrier a why ≡ cond (is_some a) (Some InBarrier) why
    by_barrier None why = refl
    by_barrier (Some left) why = refl

    by_thread : (r : Option ℕ) → runs here ≡ r → idle ≡ not (is_some (option_map thread r)) → o ≡ option_and_then (λ t. next_for t here.kernel.signals) r
        → refusal_signal_by here r ≡ cond idle (Some Idle) (cond (is_some x.waits) (Some InBarrier) (cond (is_some o) (unless_waiting x.buffer) (Some NoSignal)))
    by_thread None at off same = rw off refl
    by_thread (Some t) at off same =
        rw off (by_barrier here.awaits (refusal_delivery here (next_for t here.kernel.signals))
        ∙ ap (λ a. cond (is_some a) (Some InBarrier) (refusal_delivery here (next_for t here.kernel.signals))) (sym (ap (λ (y : HartState). y.waits) own))
        ∙ ap (cond (is_some x.waits) (Some InBarrier)) (by_signal t (next_for t here.kernel.signals) same))

pub no_store : (ws : List Store) → length ws ≡ 0 → unless_waiting ws ≡ None
no_store [] none = refl
no_store (w ∷ ws) none = cc

pub some_store : (ws : List Store) → length ws ≢ 0 → unless_waiting ws ≡ Some Waiting
some_store [] some = absurd (some refl)
some_store (w ∷ ws) some = refl

-- THE OWN HART

delivered_own : (credit : ℕ) (s : Setting) (p : Plain) (h t signal : ℕ) (o : Outcome) (killer : Option ℕ) (saved : Saved) (x y : HartState) → x ≡ hart_at s p h credit → runs (here_in_plain s p h) ≡ Some t
    → saved ≡ file_among (handled_unless_killed (here_in_plain s p h) t signal o killer).files t (p.file t) → y ≡ counted (gone_on_with saved x)
    → y ≡ own_after s p h (handled_unless_killed (here_in_plain s p h) t signal o killer) credit
delivered_own credit s p h t signal o None saved x y at runs kept is = is ∙ rw (at, append-nil, add-zero (p.ran h), runs, kept) refl
delivered_own credit s p h t signal o (Some killer) saved x y at runs kept is = is ∙ rw (at, append-nil, add-zero (p.ran h), runs, kept) refl

-- WHAT IS KEPT

-- nothing is kept of a thread that runs, whatever its file is
pub kept_running : (f g : ℕ → Saved) (t : ℕ) (h : Hart) (table : Table) → IsTable table → state_of t table.threads ≡ Some (Running h) → ((u : ℕ) → u ≢ t → g u ≡ f u) → AreSaved f table → AreSaved g table
kept_running f g t h table holds runs = saved_but_one f g t table (running_saves_nothing t h table holds runs)

-- a delivery sets the file of no other thread
file_apart : (here : Here) (t s u : ℕ) (o : Outcome) (killer : Option ℕ) (f : Saved) → u ≢ t → file_among (handled_unless_killed here t s o killer).files u f ≡ f
file_apart here t s u o None f other = rw (ne_eqb t u (λ e. other (sym e))) refl
file_apart here t s u o (Some killer) f other = file_other here t u o f other

-- THE PARTS AFTER IT

-- what is known of the parts once signal s was delivered to thread t of a hart
pub record IsOver (here : Here) (h t s : ℕ) (killer : Option ℕ) (x : Saved) (m m1 m2 : Parts) : Type 0 where
  pub made : IsDelivered here t s killer x m m1
  pub changed : IsChanged h (gone_on_with x) m1.harts.items m2.harts.items
  pub same_pages : m2.pages ≡ m1.pages
  pub same_kernel : m2.kernel ≡ m1.kernel
  pub others : m1.kernel ≡ record m.kernel { signals = m1.kernel.signals }
  pub ended : m2.ended ≡ ended_unless killer m.ended

module _ (v : Stand) (m : Parts) (h : Hart) (place : IsPlace v m h.0) (free : refusal_of asked.Signal (here_at v h.0) ≡ None) (is : IsReceiving (here_at v h.0)) where
  abbrev here : Here
  here = here_at v h.0

  abbrev comes : Outcome
  comes = interruption_here here is.thread

  abbrev own_hart : HartState
  own_hart = hart_at v.setting v.plain h.0 (credit_of m.harts.items h.0)

  abbrev done_with : Option ℕ → Done
  done_with killer = handled_unless_killed here is.thread is.signal comes killer

  -- the signal that the hart tells is the one that is delivered
  pub same_signal : (o : Option ℕ) (s : ℕ) → o ≡ next_on here → o ≡ Some s → s ≡ is.signal
  same_signal o s told at = same_Some s is.signal (sym at ∙ told ∙ ap (option_and_then (λ t. next_for t here.kernel.signals)) is.at ∙ is.next)

  -- so there is one
  pub some_signal : (o : Option ℕ) → o ≡ next_on here → o ≡ None → ⊥
  some_signal o told none =
      let bad : None ≡ Some is.signal = sym none ∙ told ∙ ap (option_and_then (λ t. next_for t here.kernel.signals)) is.at ∙ is.next in
      cc

  -- the place at which its thread, which is named so, is interrupted
  pub interrupted_there : (x : HartState) (t : ℕ) → t ≡ is.thread → x ≡ own_hart → IsInterrupted here t h.0 m (record { file = x.file; pc = x.pc })
  interrupted_there x t named own = record {
    hart = refl;
    bytes = bytes_at v m h.0 place;
    writable = writable_at v m h.0 place;
    area = ap (area_of t) place.tied.tables.areas;
    signals = place.tied.tables.signals;
    file = ap (λ (y : HartState). record { file = y.file; pc = y.pc }) own ∙ ap (file_on here) is.at ∙ ap (λ n. here.file n) (sym named);
  }

  same_done : (killer : Option ℕ) → killer ≡ kills here is.thread is.signal comes → done_here here is.thread is.signal ≡ done_with killer
  same_done killer dies = ap (handled_unless_killed here is.thread is.signal comes) (sym dies)

  wrote : (killer : Option ℕ) (x : Saved) (m1 m2 : Parts) (over : IsOver here h.0 is.thread is.signal killer x m m1 m2) → IsWritten (done_with killer).entered m.pages m2.pages
  wrote killer x m1 m2 over =
      let same = same_done killer over.made.dies in
      subst (λ (ws : List Write). IsWritten ws m.pages m2.pages) (ap (λ (e : Done). e.entered) same)
      (subst (λ (n : Map). IsWritten (done_here here is.thread is.signal).entered m.pages n) (sym over.same_pages) over.made.pages)

  own_file : (killer : Option ℕ) (x : Saved) (m1 m2 : Parts) (over : IsOver here h.0 is.thread is.signal killer x m m1 m2) → x ≡ file_among (done_with killer).files is.thread (v.plain.file is.thread)
  own_file killer x m1 m2 over = over.made.file ∙ ap (λ (e : Done). file_among e.files is.thread (v.plain.file is.thread)) (same_done killer over.made.dies)

  kept : (killer : Option ℕ) (x : Saved) (m1 m2 : Parts) (over : IsOver here h.0 is.thread is.signal killer x m m1 m2) → AreSaved (λ u. file_among (done_with killer).files u (v.plain.file u)) m2.kernel.threads
  kept killer x m1 m2 over =
      let p = v.plain in
      let before : AreSaved (λ u. file_among (done_with killer).files u (p.file u)) m.kernel.threads =
      kept_running p.file (λ u. file_among (done_with killer).files u (p.file u)) is.thread h m.kernel.threads place.tied.table (runs_there v m h is.thread place is.at)
      (λ u other. file_apart here is.thread is.signal u comes killer (p.file u) other) place.tied.saved in
      rw (over.same_kernel, over.others) before

  event_by : (killer : Option ℕ) (x : Saved) (m1 m2 : Parts) → IsOver here h.0 is.thread is.signal killer x m m1 m2 → IsUncounted v h.0 (done_of asked.Signal here) m m2
  event_by None x m1 m2 over =
      let p = v.plain in
      let d = done_with None in
      let same = same_done None over.made.dies in
      uncounted_as v h.0 asked.Signal d m m2 (gone_on_with x own_hart) place free (is.done ∙ same) (record {
        own = delivered_own (credit_of m.harts.items h.0) v.setting p h.0 is.thread is.signal comes None x own_hart (counted (gone_on_with x own_hart)) refl is.at (own_file None x m1 m2 over) refl;
        harts = begun_beside h.0 d m.harts.items m1.harts.items m2.harts.items own_hart (gone_on_with x) (record { none_begun = refl; none_taken = refl }) (place.tied.harts h.0 place.lt)
            (λ k. over.made.harts k ∙ ap (λ (e : Done). option_map (lost_unless (eqb k h.0) e.entered) (slice_get m.harts.items k)) same) over.changed;
        pages = pages_written p.kernel.pages v.setting.program.break_at p.byte d.entered m.pages m2.pages place.tied.pages (wrote None x m1 m2 over);
        readable = readable_written d.entered m.pages m2.pages place.tied.readable (wrote None x m1 m2 over);
        tables = subst (λ (k : Kernel). HoldsTables k d.kernel) (sym (over.same_kernel ∙ over.others))
            (holds_signals place.tied.tables m1.kernel.signals d.kernel.signals (over.made.signals ∙ ap (λ (e : Done). e.kernel.signals) same));
        ids = λ k u ne runs. refl;
        table = rw (over.same_kernel, over.others) place.tied.table;
        saved = kept None x m1 m2 over;
        ended = over.ended ∙ goes_on v m h.0 d.kernel place (was_not_stuck v m h.0 place);
      })
  event_by (Some killer) x m1 m2 over =
      let p = v.plain in
      let d = done_with (Some killer) in
      let same = same_done (Some killer) over.made.dies in
      uncounted_as v h.0 asked.Signal d m m2 (gone_on_with x own_hart) place free (is.done ∙ same) (record {
        own = delivered_own (credit_of m.harts.items h.0) v.setting p h.0 is.thread is.signal comes (Some killer) x own_hart (counted (gone_on_with x own_hart)) refl is.at (own_file (Some killer) x m1 m2 over) refl;
        harts = begun_beside h.0 d m.harts.items m1.harts.items m2.harts.items own_hart (gone_on_with x) (record { none_begun = refl; none_taken = refl }) (place.tied.harts h.0 place.lt)
            (λ k. over.made.harts k ∙ ap (λ (e : Done). option_map (lost_unless (eqb k h.0) e.entered) (slice_get m.harts.items k)) same) over.changed;
        pages = pages_written p.kernel.pages v.setting.program.break_at p.byte d.entered m.pages m2.pages place.tied.pages (wrote (Some killer) x m1 m2 over);
        readable = readable_written d.entered m.pages m2.pages place.tied.readable (wrote (Some killer) x m1 m2 over);
        tables = subst (λ (k : Kernel). HoldsTables k d.kernel) (sym (over.same_kernel ∙ over.others))
            (holds_signals place.tied.tables m1.kernel.signals d.kernel.signals (over.made.signals ∙ ap (λ (e : Done). e.kernel.signals) same));
        ids = λ k u ne runs. refl;
        table = rw (over.same_kernel, over.others) place.tied.table;
        saved = kept (Some killer) x m1 m2 over;
        ended = over.ended;
      })

  pub delivered_event : (t s : ℕ) → t ≡ is.thread → s ≡ is.signal → (killer : Option ℕ) (x : Saved) (m1 m2 : Parts) → IsOver here h.0 t s killer x m m1 m2
      → IsUncounted v h.0 (done_of asked.Signal here) m m2
  delivered_event t s named same killer x m1 m2 over =
      event_by killer x m1 m2 (subst (λ n. IsOver here h.0 n is.signal killer x m m1 m2) named (subst (λ n. IsOver here h.0 t n killer x m m1 m2) same over))
