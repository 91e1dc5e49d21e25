-- The kernel's tables, as the kernel's record has them.
use Rattle.std.specs.Prelude.{◌≡◌}
use Rattle.block_model.specs.Record as model_of
use Rattle.sys_calls.specs.Registered.{areas_by_number}
use Rattle.sys_calls.specs.declared.kernel.Kernel.{Kernel}

-- each table is that part of the record: the threads, the signals, the ready list with the affinities, the areas, the registrations
-- for barriers, the console, and the state of the generator of random bytes. (The record's pages are those of the page map, and its concurrency ids are kept by the harts.)
pub record HoldsTables (k : Kernel) (model : model_of.Kernel) : Type 0 where
  pub threads : k.threads.threads ≡ model.threads
  pub signals : k.signals ≡ model.signals
  pub scheduling : k.ready ≡ model.scheduling
  pub areas : areas_by_number k.areas.items ≡ model.areas
  pub barriers : k.registered ≡ model.barriers
  pub console : k.console ≡ model.console
  pub random : k.random ≡ model.random
