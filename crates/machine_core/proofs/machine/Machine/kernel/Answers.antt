-- The kernel's tables are those of the record at the end of the log.
use Rattle.machine_core.proofs.Common.{sym, ap, ◌∙◌, Scheduling, plain_seen, seen, good_at, live_signals, held_as_live}
use Rattle.mach_types.specs.Kernel.Signals.{Signalling, is_held}
use Rattle.mach_types.specs.Kernel.Threads.{Threads, is_live}
use Rattle.scheduler.specs.Holding.{is_held as is_scheduled}
use Rattle.block_model.specs.Record.{Kernel}
use Rattle.machine_core.proofs.Readings.{console_read, kernel_read, saved_read}
use Rattle.machine_core.proofs.machine.Machine.kernel.Goals as goal

pub returns : goal.returns
returns c =
    let m = c.self.inside in
    let tables = c.self.invariant.tied.tables in
    let k = (plain_seen (seen m)).kernel in
    let read = kernel_read m c.self.invariant in
    record {
      threads = rw (← c.self.view_is) (tables.threads ∙ ap (λ (k : Kernel). k.threads) read);
      saved = rw (← c.self.view_is) (saved_read m c.self.invariant);
      signals = rw (← c.self.view_is) (tables.signals ∙ ap (λ (k : Kernel). k.signals) read);
      signals_held = λ t. ap (λ (g : Signalling). is_held t g) tables.signals ∙ held_as_live t k.threads k.signals (live_signals (seen m) c.self.invariant.run)
          ∙ ap (λ (ts : Threads). is_live t ts) (sym tables.threads);
      scheduling = rw (← c.self.view_is) (tables.scheduling ∙ ap (λ (k : Kernel). k.scheduling) read);
      scheduling_held = λ t. ap (λ (sc : Scheduling). is_scheduled t sc) tables.scheduling ∙ (good_at (seen m) c.self.invariant.run).kernel.tables.held t
          ∙ ap (λ (ts : Threads). is_live t ts) (sym tables.threads);
      areas = rw (← c.self.view_is) (tables.areas ∙ ap (λ (k : Kernel). k.areas) read);
      registered = rw (← c.self.view_is) (tables.barriers ∙ ap (λ (k : Kernel). k.barriers) read);
      console = rw (← c.self.view_is) (console_read m c.self.invariant);
      random = rw (← c.self.view_is) (tables.random ∙ ap (λ (k : Kernel). k.random) read);
    }
