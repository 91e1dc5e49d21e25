use Rattle.block_model.proofs.theorems.harts_are_sound.Goals as goal
use Rattle.block_model.specs.Deciding.{history}
use Rattle.block_model.proofs.Runs.{settled, one_hart, waiter_runs, waiter_stores, writable_stores}

pub returns : goal.returns
returns c = record {
  idle = λ s log h run none. (settled s (history s log) run.allowed).good.idle h none;
  few = λ s log h run. (settled s (history s log) run.allowed).good.few h;
  alone = λ s log h k t run here there. one_hart s log h k t run.allowed here there;
  writable = λ s log h run. writable_stores s log h run.allowed;
  in_barrier = λ s log h left run waits. (waiter_runs s (history s log) h left run.allowed waits, waiter_stores s (history s log) h left run.allowed waits);
}
