use Rattle.process.proofs.Common.{◌≡◌, List, ◌++◌, Ok, Err, arith, false≢true, Write, Result, IsOk, OnOk}
use Rattle.process.proofs.kernel_writes.add.Goals as goal

-- what fits is added
added : {E : Type 0} (r : Result (Unit {0}) E) (old new ws : List Write) → IsOk r → OnOk r (new ≡ old ++ ws) → new ≡ old ++ ws
added (Ok u) old new ws fits is = is
added (Err e) old new ws fits is = absurd (false≢true fits)

pub returns : goal.returns
returns c =
    let is = c.try_extend_from_slice.ensures in
    added c.try_extend_from_slice.result c.args.writes.now.items c.try_extend_from_slice.new.self.items c.args.more.now (is.variant.1 (omega arith)) is.ok
