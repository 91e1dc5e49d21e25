-- done: the barrier of the thread on the hart returns, once each hart that it is about took its request (membarrier(2)). The answer is
-- 0. The hart's reservation ends.
use Rattle.std.specs.Prelude.{ℕ, ◌==◌, true, [], ◌∷◌, if◌then◌else◌, Option, Some, None}
use Rattle.mach_types.specs.Registers.{with_register}
use Rattle.mach_types.specs.declared.events.Why.{Why}
use Rattle.mach_types.specs.declared.events.Why.TheVariants.{Idle, NotInBarrier, Targets}
use Rattle.block_model.specs.Here.{Here, Done, nothing, runs}

-- the condition that fails: a thread runs, it waits in a barrier, and no hart is left that has to take its request
abbrev pub refusal_return : Option ℕ → Option Why
refusal_return None = Some NotInBarrier
refusal_return (Some left) = if left == 0 then None else Some Targets

abbrev pub refusal_done_by : Here → Option ℕ → Option Why
refusal_done_by here None = Some Idle
refusal_done_by here (Some t) = refusal_return here.awaits

abbrev pub refusal_done : Here → Option Why
refusal_done here = refusal_done_by here (runs here)

abbrev pub done_done_by : Here → Option ℕ → Done
done_done_by here None = nothing here
done_done_by here (Some t) = record (nothing here) {
  files = (t, record (here.file t) { file = with_register (here.file t).file 10 0 }) ∷ [];
  reserved = None;
  returned = true;
}

abbrev pub done_done : Here → Done
done_done here = done_done_by here (runs here)
