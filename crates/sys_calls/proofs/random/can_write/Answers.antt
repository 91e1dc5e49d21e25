-- No byte can always be written; and bytes that can be written end at the last address or before.
use Rattle.sys_calls.proofs.Common.{◌≡◌, ℕ, suc, ◌+◌, ◌-◌, true, sym, ap, ◌∙◌, arith, can_write_in, each_byte}
use Rattle.sys_calls.proofs.ByteRanges.{bytes_pass, run_end}
use Rattle.sys_calls.proofs.random.can_write.Goals as goal

pub returns-then-len-eq0-clause-can : goal.returns-then-len-eq0-clause-can
returns-then-len-eq0-clause-can c = sym (ap (each_byte (can_write_in c.args.pages.now) c.args.at) c.if-len-eq0.true)

pub returns-clause-can : goal.returns-clause-can
returns-clause-can c =
    let some = c.if-len-eq0.false in
    let whole : c.args.len - 1 + 1 ≡ c.args.len = omega (arith, some) in
    c.can_write_range.ensures ∙ ap (each_byte (can_write_in c.args.pages.now) c.args.at) whole

pub returns-clause-end : goal.returns-clause-end
returns-clause-end c is =
    let some = c.if-len-eq0.false in
    let more : suc (c.args.len - 1) ≡ c.args.len - 1 + 1 = omega (arith, some) in
    let end = run_end c.args.pages.now (c.args.len - 1) c.args.at
    (sym (bytes_pass (suc (c.args.len - 1)) (can_write_in c.args.pages.now) c.args.at)
    ∙ ap (each_byte (can_write_in c.args.pages.now) c.args.at) more ∙ sym c.can_write_range.ensures ∙ is) in
    omega (arith, some, end)
