-- No byte has an address past the last.
use Rattle.sys_calls.proofs.Common.{◌+◌, ℕ, Option, unwrap_or, sym, ap, arith, byte_in-ends}
use Rattle.sys_calls.proofs.memory.byte_after.Goals as goal

pub returns-in-None : goal.returns-in-None
returns-in-None c = ap (λ (o : Option ℕ). unwrap_or o 0) (sym (byte_in-ends c.args.pages.now (c.args.at + c.args.k) (omega arith)))
