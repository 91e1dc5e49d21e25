use Rattle.std.proofs.Common.{◌≡◌, ◌<◌, ◌≤◌, ℕ, arith, min}
use Rattle.place_keys.proofs.MemoryWords.{untouched}
use Rattle.place_keys.proofs.pages.next_written.Goals as goal

pub returns-clause-same : goal.returns-clause-same
returns-clause-same c =
    let least = c.min.ensures in
    untouched c.args.pages.now c.args.start.now c.args.from c.min.result
    (λ n low high. c.next_written.ensures.zero n low (omega arith)) (λ n low high. c.next_written-2.ensures.zero n low (omega arith))
