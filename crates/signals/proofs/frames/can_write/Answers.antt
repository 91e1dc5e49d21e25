use Rattle.std.proofs.Common.{◌^◌, sym, arith}
use Rattle.signals.proofs.Ends.{not_writable, words_pass_end}
use Rattle.signals.proofs.frames.can_write.Goals as goal

pub returns-then-at-last_start-clause-answer : goal.returns-then-at-last_start-clause-answer
returns-then-at-last_start-clause-answer g c =
    let mem = c.args.mem.now in
    sym (words_pass_end (g.M.UserMem.can_write mem) (2 ^ 64) c.args.at c.args.count
    (λ a past. not_writable _ _ (g.met.M.UserMem.writable_is_readable mem a) (g.met.M.UserMem.ends mem a past)) (omega arith) (omega arith))
