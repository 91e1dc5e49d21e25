-- The live threads as they are gone over: what is told of each.
use Rattle.std.specs.Prelude.{ℕ, Option}
use Rattle.std.specs.Option.{option_map}
use Rattle.kernel_threads.specs.Table.{SavedList, saved_of}
use Rattle.mach_types.specs.declared.events.Choice.{Choice}
use Rattle.mach_types.specs.declared.events.Choice.TheVariants.{Run}
use Rattle.mach_types.specs.Kernel.Threads.{Thread}
use Rattle.place_text.specs.Threads.{Told}
use Rattle.place_text.specs.declared.threads.LiveThread.{LiveThread}

-- what is told of a thread
abbrev pub told : LiveThread → Told
told thread = record { tid = thread.tid.0; state = thread.state; pc = thread.pc }

-- the same of one of these threads, where this was saved of those that don't run
abbrev pub saved_pc : SavedList → ℕ → Option ℕ
saved_pc saved t = option_map (λ kept. kept.pc) (saved_of t saved)

abbrev pub told_of : SavedList → Thread → Told
told_of saved th = record { tid = th.tid; state = th.state; pc = saved_pc saved th.tid }

-- the choice to run one
abbrev pub run_of : LiveThread → Choice
run_of thread = Run thread.tid
