-- Events: which condition of a choice fails first, and what an event does. Here the kinds are only told apart.
use Rattle.std.specs.Prelude.{Option}
use Rattle.mach_types.specs.declared.events.Choice.{Choice}
use Rattle.mach_types.specs.declared.events.Choice.TheVariants as asked
use Rattle.mach_types.specs.declared.events.Why.{Why}
use Rattle.block_model.specs.Here.{Here, Done}
use Rattle.block_model.specs.Events.Exec.{refusal_exec, done_exec}
use Rattle.block_model.specs.Events.Drain.{refusal_drain, done_drain}
use Rattle.block_model.specs.Events.Preempt.{refusal_preempt, done_preempt}
use Rattle.block_model.specs.Events.Run.{refusal_run, done_run}
use Rattle.block_model.specs.Events.Signal.{refusal_signal, done_signal}
use Rattle.block_model.specs.Events.Take.{refusal_take, done_take}
use Rattle.block_model.specs.Events.Finish.{refusal_done, done_done}
pub mod Exec
pub mod Drain
pub mod Preempt
pub mod Run
pub mod Signal
pub mod Take
pub mod Finish

abbrev pub refusal_of : Choice → Here → Option Why
refusal_of asked.Exec here = refusal_exec here
refusal_of asked.Drain here = refusal_drain here
refusal_of asked.Take here = refusal_take here
refusal_of asked.Done here = refusal_done here
refusal_of asked.Preempt here = refusal_preempt here
refusal_of (asked.Run t) here = refusal_run here t.0
refusal_of asked.Signal here = refusal_signal here

abbrev pub done_of : Choice → Here → Done
done_of asked.Exec here = done_exec here
done_of asked.Drain here = done_drain here
done_of asked.Take here = done_take here
done_of asked.Done here = done_done here
done_of asked.Preempt here = done_preempt here
done_of (asked.Run t) here = done_run here t.0
done_of asked.Signal here = done_signal here
