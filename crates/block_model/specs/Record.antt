-- The kernel's record: what the kernel knows of a process, as plain values.
use Rattle.std.specs.Prelude.{ℕ, List}
use Rattle.mach_types.specs.declared.barriers.Registered.{Registered}
use Rattle.mach_types.specs.declared.sequences.Area.{Area}
use Rattle.mach_types.specs.Kernel.Threads.{Threads}
use Rattle.mach_types.specs.Kernel.Scheduling.{Scheduling}
use Rattle.mach_types.specs.Kernel.Signals.{Signalling}
use Rattle.mach_types.specs.Kernel.Pages.{Pages}

-- the threads with their states; the ready list and the affinities; the actions of signals, and what each thread masks and what is
-- pending for it; the registered areas, each with the number of its thread; the concurrency ids of the threads that run, each with
-- the number of its thread; for which barriers the process is registered; the pages; the bytes on the console; and the state of the
-- generator from which getrandom(2) takes its bytes
pub record Kernel : Type 0 where
  pub threads : Threads
  pub scheduling : Scheduling
  pub signals : Signalling
  pub areas : List (ℕ × Area)
  pub ids : List (ℕ × ℕ)
  pub barriers : Registered
  pub pages : Pages
  pub console : List ℕ
  pub random : ℕ
