-- What happens to the kernel's record: steps that touch one of its parts or several, and the record at the start.
use Rattle.std.specs.Prelude.{ℕ, ◌+◌, ◌-◌, List, [], ◌++◌, length}
use Rattle.mach_types.specs.declared.address_space.TheConstants.{STACK_PAGES}
use Rattle.mach_types.specs.declared.threads.ThreadState.TheVariants.{Ready, Running}
use Rattle.block_model.specs.Record.{Kernel}
use Rattle.mach_types.specs.Kernel.Pages.{Pages}
use Rattle.mach_types.specs.Kernel.Threads.{Thread, clear_if, start_threads, with_child, with_rows, with_state, with_waiter, with_woken, without}
use Rattle.mach_types.specs.Kernel.Scheduling.{start_scheduling, with_ready, without_ready, with_thread, with_affinity, forget}
use Rattle.mach_types.specs.Kernel.Signals.{Signalling, start_signalling}
use Rattle.mach_types.specs.Kernel.Signals as signals
use Rattle.mach_types.specs.declared.sequences.Area.{Area}
use Rattle.mach_types.specs.Kernel.Areas.{with_area, without_area}
use Rattle.mach_types.specs.Kernel.Barriers.{none_registered}
use Rattle.mach_types.specs.declared.barriers.Registered.{Registered}
use Rattle.elf_load.specs.Start.{start_runs}
use Rattle.block_model.specs.Ids.{with_id, without_id}
use Rattle.block_model.specs.Setting.{Setting}

-- at the start thread 1 is ready and may run on every hart; the program, the stack and the return page are mapped, each page in a
-- frame of its own; nothing stands on the console; and the generator of random bytes begins with the zeros at AT_RANDOM
abbrev pub first_kernel : Setting → Kernel
first_kernel s = record {
  threads = start_threads;
  scheduling = start_scheduling s.limits.harts;
  signals = start_signalling;
  areas = [];
  ids = [];
  barriers = none_registered;
  pages = record {
    runs = start_runs s.program.pages;
    free = s.limits.frames - (length s.program.pages + STACK_PAGES + 1);
    break_at = s.program.break_at;
  };
  console = [];
  random = 0;
}

-- a ready thread begins to run on hart h, and holds an id
abbrev pub ran : ℕ → ℕ → Kernel → Kernel
ran t h k = record k {
  threads = with_state t (Running (record { 0 = h })) k.threads;
  scheduling = without_ready t k.scheduling;
  ids = with_id t k.ids;
}

-- a running thread leaves its hart, and is the last ready thread
abbrev pub left : ℕ → Kernel → Kernel
left t k = record k {
  threads = with_state t Ready k.threads;
  scheduling = with_ready t k.scheduling;
  ids = without_id t k.ids;
}

-- a running thread leaves its hart, and waits at an address behind all that wait
abbrev pub waited : ℕ → ℕ → Kernel → Kernel
waited t at k = record k { threads = with_waiter t at k.threads; ids = without_id t k.ids }

-- a waiting thread waits no longer, woken or by a signal, and is the last ready thread
abbrev pub woken : ℕ → Kernel → Kernel
woken t k = record k { threads = with_woken t k.threads; scheduling = with_ready t k.scheduling }

-- a waiting thread waits at another address from now on, behind all that wait
abbrev pub requeued : ℕ → ℕ → Kernel → Kernel
requeued t at k = record k { threads = with_waiter t at (with_woken t k.threads) }

-- a running thread is gone, and with it its signals and its area
abbrev pub gone : ℕ → Kernel → Kernel
gone t k = record k {
  threads = without t k.threads;
  scheduling = forget t k.scheduling;
  signals = signals.forget t k.signals;
  areas = without_area t k.areas;
  ids = without_id t k.ids;
}

-- the number of the next thread
abbrev pub next_number : Kernel → ℕ
next_number k = k.threads.given + 1

-- a thread has a child, which has its affinity and its mask, and is the last ready thread
abbrev pub had_child : ℕ → Kernel → Kernel
had_child t k = record k {
  threads = with_child k.threads;
  scheduling = with_ready (next_number k) (with_thread t (next_number k) k.scheduling);
  signals = signals.with_thread t (next_number k) k.signals;
}

-- a thread may run on these harts alone
abbrev pub restricted : ℕ → ℕ → Kernel → Kernel
restricted t set k = record k { scheduling = with_affinity t set k.scheduling }

-- each thread is changed so
abbrev pub rows_changed : (Thread → Thread) → Kernel → Kernel
rows_changed f k = record k { threads = with_rows f k.threads }

-- a thread has another address that its exit clears
abbrev pub cleared : ℕ → ℕ → Kernel → Kernel
cleared t at k = rows_changed (clear_if t at) k

-- a thread has an area, or has none any more
abbrev pub registered : ℕ → Area → Kernel → Kernel
registered t area k = record k { areas = with_area t area k.areas }

abbrev pub unregistered : ℕ → Kernel → Kernel
unregistered t k = record k { areas = without_area t k.areas }

-- something was done with actions, masks or pending signals: these are the signals after it
abbrev pub signalled : Signalling → Kernel → Kernel
signalled g k = record k { signals = g }

-- the process is registered for these barriers
abbrev pub for_barriers : Registered → Kernel → Kernel
for_barriers r k = record k { barriers = r }

-- pages were mapped, removed or protected, or the break moved: these are the pages after it
abbrev pub paged : Pages → Kernel → Kernel
paged pages k = record k { pages = pages }

-- bytes come to the console
abbrev pub printed : List ℕ → Kernel → Kernel
printed bytes k = record k { console = k.console ++ bytes }

-- random bytes were given: this is the state of their generator then
abbrev pub drawn : ℕ → Kernel → Kernel
drawn state k = record k { random = state }
