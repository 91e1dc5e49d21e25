-- For the crates above too: the tables hold the kernel's record, and what stays of it where one table and its part change.
use Rattle.sys_calls.proofs.Common.{◌≡◌, ℕ, ◌+◌, Bool, true, false, cond, List, refl, ap, ◌∙◌, without_area, Pages, Scheduling, with_ready, with_thread, Area, HoldsTables, Kernel, Ready, RegisteredArea, Signalling, Table, areas_by_number, Threads, with_child, with_clear, with_state, with_waiter, with_woken, Registered, cleared, had_child, left, requeued, woken, without, gone}
use Rattle.arrayvec.specs.ArrayVec.{ArrayVec as Items}
use Rattle.mach_types.specs.Kernel.Scheduling.{forget}
use Rattle.mach_types.specs.Kernel.Signals as signals
use Rattle.block_model.specs.Record as model_of

-- the seven equations together
tables_hold : {k : Kernel} {r : model_of.Kernel} → k.threads.threads ≡ r.threads → k.signals ≡ r.signals → k.ready ≡ r.scheduling
    → areas_by_number k.areas.items ≡ r.areas → k.registered ≡ r.barriers → k.console ≡ r.console → k.random ≡ r.random → HoldsTables k r
tables_hold threads signalling ready areas barriers console random = record {
  threads = threads;
  signals = signalling;
  scheduling = ready;
  areas = areas;
  barriers = barriers;
  console = console;
  random = random;
}

module _ {k : Kernel} {r : model_of.Kernel} (held : HoldsTables k r) where
  -- the concurrency ids and the pages are in no table
  pub holds_past_ids : (ids : List (ℕ × ℕ)) → HoldsTables k (record r { ids = ids })
  holds_past_ids ids = tables_hold held.threads held.signals held.scheduling held.areas held.barriers held.console held.random

  pub holds_past_pages : (pages : Pages) → HoldsTables k (record r { pages = pages })
  holds_past_pages pages = tables_hold held.threads held.signals held.scheduling held.areas held.barriers held.console held.random

  -- one table changes
  pub holds_threads : (table : Table) (ts : Threads) → table.threads ≡ ts
      → HoldsTables (record k { threads = table }) (record r { threads = ts })
  holds_threads table ts is = tables_hold is held.signals held.scheduling held.areas held.barriers held.console held.random

  pub holds_signals : (g g' : Signalling) → g ≡ g' → HoldsTables (record k { signals = g }) (record r { signals = g' })
  holds_signals g g' is = tables_hold held.threads is held.scheduling held.areas held.barriers held.console held.random

  pub holds_scheduling : (s s' : Scheduling) → s ≡ s' → HoldsTables (record k { ready = s }) (record r { scheduling = s' })
  holds_scheduling s s' is = tables_hold held.threads held.signals is held.areas held.barriers held.console held.random

  pub holds_areas : (xs : Items RegisteredArea) (ys : List (ℕ × Area)) → areas_by_number xs.items ≡ ys
      → HoldsTables (record k { areas = xs }) (record r { areas = ys })
  holds_areas xs ys is = tables_hold held.threads held.signals held.scheduling is held.barriers held.console held.random

  pub holds_barriers : (b : Registered) → HoldsTables (record k { registered = b }) (record r { barriers = b })
  holds_barriers b = tables_hold held.threads held.signals held.scheduling held.areas refl held.console held.random

  pub holds_console : (c c' : List ℕ) → c ≡ c' → HoldsTables (record k { console = c }) (record r { console = c' })
  holds_console c c' is = tables_hold held.threads held.signals held.scheduling held.areas held.barriers is held.random

  pub holds_random : (n n' : ℕ) → n ≡ n' → HoldsTables (record k { random = n }) (record r { random = n' })
  holds_random n n' is = tables_hold held.threads held.signals held.scheduling held.areas held.barriers held.console is

  -- a thread left its hart, and one that waited was woken
  pub holds_left : (t : ℕ) (table : Table) (s : Scheduling) → table.threads ≡ with_state t Ready k.threads.threads
      → s ≡ with_ready t k.ready
      → HoldsTables (record k { threads = table; ready = s }) (left t r)
  holds_left t table s threads ready =
      tables_hold (threads ∙ ap (with_state t Ready) held.threads) held.signals (ready ∙ ap (with_ready t) held.scheduling)
      held.areas held.barriers held.console held.random

  pub holds_woken : (t : ℕ) (table : Table) (s : Scheduling) → table.threads ≡ with_woken t k.threads.threads
      → s ≡ with_ready t k.ready
      → HoldsTables (record k { threads = table; ready = s }) (woken t r)
  holds_woken t table s threads ready =
      tables_hold (threads ∙ ap (with_woken t) held.threads) held.signals (ready ∙ ap (with_ready t) held.scheduling)
      held.areas held.barriers held.console held.random

  -- one that waited does so at another address
  pub holds_requeued : (t at : ℕ) (table : Table) (s : Scheduling) → table.threads ≡ with_waiter t at (with_woken t k.threads.threads)
      → s ≡ k.ready → HoldsTables (record k { threads = table; ready = s }) (requeued t at r)
  holds_requeued t at table s threads ready =
      tables_hold (threads ∙ ap (λ (ts : Threads). with_waiter t at (with_woken t ts)) held.threads) held.signals (ready ∙ held.scheduling)
      held.areas held.barriers held.console held.random

  -- a thread is gone
  pub holds_gone : (t : ℕ) (table : Table) (g : Signalling) (s : Scheduling) (xs : Items RegisteredArea)
      → table.threads ≡ without t k.threads.threads → g ≡ signals.forget t k.signals → s ≡ forget t k.ready
      → areas_by_number xs.items ≡ without_area t (areas_by_number k.areas.items)
      → HoldsTables (record k { threads = table; signals = g; ready = s; areas = xs }) (gone t r)
  holds_gone t table g s xs threads signalling ready areas =
      tables_hold (threads ∙ ap (without t) held.threads) (signalling ∙ ap (signals.forget t) held.signals)
      (ready ∙ ap (forget t) held.scheduling) (areas ∙ ap (without_area t) held.areas) held.barriers held.console held.random

  -- a thread has a child
  pub holds_child : (t : ℕ) (table : Table) (g : Signalling) (s : Scheduling) → table.threads ≡ with_child k.threads.threads
      → g ≡ signals.with_thread t (k.threads.threads.given + 1) k.signals
      → s ≡ with_ready (k.threads.threads.given + 1) (with_thread t (k.threads.threads.given + 1) k.ready)
      → HoldsTables (record k { threads = table; signals = g; ready = s }) (had_child t r)
  holds_child t table g s threads signalling ready =
      tables_hold (threads ∙ ap with_child held.threads)
      (signalling ∙ (λ i. signals.with_thread t ((held.threads i).given + 1) (held.signals i)))
      (ready ∙ (λ i. with_ready ((held.threads i).given + 1) (with_thread t ((held.threads i).given + 1) (held.scheduling i))))
      held.areas held.barriers held.console held.random

  -- a thread has another address that its exit clears, where that is asked
  pub holds_cleared : (t at : ℕ) (table : Table) (b : Bool)
      → table.threads ≡ cond b (with_clear t at k.threads.threads) k.threads.threads
      → HoldsTables (record k { threads = table }) (cond b (cleared t at r) r)
  holds_cleared t at table true is = holds_threads table (with_clear t at r.threads) (is ∙ ap (with_clear t at) held.threads)
  holds_cleared t at table false is = holds_threads table r.threads (is ∙ held.threads)

-- the record with these tables, which is the record that they hold
abbrev pub record_with : Kernel → model_of.Kernel → model_of.Kernel
record_with k r = record r {
  threads = k.threads.threads;
  scheduling = k.ready;
  signals = k.signals;
  areas = areas_by_number k.areas.items;
  barriers = k.registered;
  console = k.console;
  random = k.random;
}

pub holds_itself : (k : Kernel) (r : model_of.Kernel) → HoldsTables k (record_with k r)
holds_itself k r = tables_hold refl refl refl refl refl refl refl

pub held_is : (k : Kernel) (r : model_of.Kernel) → HoldsTables k r → record_with k r ≡ r
held_is k r held = rw (held.threads, held.signals, held.scheduling, held.areas, held.barriers, held.console, held.random) refl
