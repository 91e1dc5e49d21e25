-- The first byte of a set.
use Rattle.sys_calls.proofs.Common.{◌≡◌, ℕ, Option, None, Some, unwrap_or, refl, sym, ◌∙◌, arith, eqb, ne_eqb, byte_in, cond-false, joined}
use Rattle.sys_calls.proofs.GuestMemory.{number_is}
use Rattle.sys_calls.proofs.affinity.set_at.Goals as goal

one : (o : Option ℕ) → unwrap_or o 0 ≡ unwrap_or (joined o (Some 0)) 0
one None = refl
one (Some b) = omega arith

pub returns-else-len-eq0 : goal.returns-else-len-eq0
returns-else-len-eq0 c = λ h t saved read.
    c.byte_at.ensures ∙ one (byte_in c.args.pages.now c.args.at) ∙ number_is h c.args.pages.now t saved read c.args.at 1
    ∙ sym (cond-false (eqb c.args.len 0) 0 _ (ne_eqb c.args.len 0 c.if-len-eq0.false))
