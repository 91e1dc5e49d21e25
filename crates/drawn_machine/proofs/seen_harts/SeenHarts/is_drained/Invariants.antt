-- so far no store waits on the harts below this one
use Rattle.std.proofs.Common.{◌≡◌, ◌<◌, ℕ, []}
use Rattle.block_model.specs.Deciding.{history}
use Rattle.block_model.specs.History.{waiting}
use Rattle.drawn_machine.proofs.seen_harts.SeenHarts.is_drained.Given as goal

abbrev pub invariant-loop-number : goal.invariant-loop-number
invariant-loop-number l =
    (k : ℕ) → k < l.number → waiting k (history l.self.machine.now.setting l.self.machine.now.log) ≡ []
