-- The tests of the call, in their order.
use Rattle.sys_calls.proofs.Common.{◌≡◌, ℕ, Bool, false, true, not, ◌&&◌, ◌||◌, eqb, [], refl, sym, ap, subst, ◌∙◌, Err, CallDone, EINVAL, ESRCH, IsAnswered, Threads, int_argument, is_live, is_below_one, send, tgkill, cond-false, cond-true, not_from_false, not_from_true}
use Rattle.sys_calls.proofs.SignalPosting.{tgkill_is}
use Rattle.sys_calls.proofs.GuestMemory.{int_argument_is}
use Rattle.sys_calls.proofs.CallAnswers.{answered_said}
use Rattle.sys_calls.proofs.signal_posting.tgkill.Goals as goal

-- whether the process has the thread
abbrev has : ℕ → ℕ → Threads → Bool
has pid u ts = eqb pid 1 && is_live u ts

pub returns-then-is_one_below-clause-answered : goal.returns-then-is_one_below-clause-answered
returns-then-is_one_below-clause-answered c = λ h t m told file.
    let p = c.int_argument-process.result in
    let n = c.int_argument-number.result in
    let process : p ≡ int_argument h t 0 = c.int_argument-process.ensures ∙ int_argument_is h t c.args.saved.now file 0 in
    let number : n ≡ int_argument h t 1 = c.int_argument-number.ensures ∙ int_argument_is h t c.args.saved.now file 1 in
    let low : (is_below_one p || is_below_one n) ≡ true = sym c.is_one_below.ensures ∙ c.if-is_one_below.true in
    answered_said h t c.args.kernel.now m (Err EINVAL) (tgkill h t) told (tgkill_is h t p n (int_argument h t 2) process number refl ∙ cond-true (is_below_one p || is_below_one n) _ _ low)

pub returns-then-not-is_live_in-clause-answered : goal.returns-then-not-is_live_in-clause-answered
returns-then-not-is_live_in-clause-answered c = λ h t m told file.
    let p = c.int_argument-process.result in
    let n = c.int_argument-number.result in
    let process : p ≡ int_argument h t 0 = c.int_argument-process.ensures ∙ int_argument_is h t c.args.saved.now file 0 in
    let number : n ≡ int_argument h t 1 = c.int_argument-number.ensures ∙ int_argument_is h t c.args.saved.now file 1 in
    let low : (is_below_one p || is_below_one n) ≡ false = sym c.is_one_below.ensures ∙ c.if-is_one_below.false in
    let dead : has p n h.kernel.threads ≡ false = ap (has p n) (sym told.threads) ∙ sym c.is_live_in.ensures ∙ c.if-not-is_live_in.true in
    answered_said h t c.args.kernel.now m (Err ESRCH) (tgkill h t) told
    (tgkill_is h t p n (int_argument h t 2) process number refl ∙ cond-false (is_below_one p || is_below_one n) _ _ low ∙ cond-true (not (has p n h.kernel.threads)) _ _ (not_from_false _ dead))

pub returns-clause-answered : goal.returns-clause-answered
returns-clause-answered c = λ h t m told file.
    let p = c.int_argument-process.result in
    let n = c.int_argument-number.result in
    let s = c.int_argument.result in
    let process : p ≡ int_argument h t 0 = c.int_argument-process.ensures ∙ int_argument_is h t c.args.saved.now file 0 in
    let number : n ≡ int_argument h t 1 = c.int_argument-number.ensures ∙ int_argument_is h t c.args.saved.now file 1 in
    let sig : s ≡ int_argument h t 2 = c.int_argument.ensures ∙ int_argument_is h t c.args.saved.now file 2 in
    let low : (is_below_one p || is_below_one n) ≡ false = sym c.is_one_below.ensures ∙ c.if-is_one_below.false in
    let lives : has p n h.kernel.threads ≡ true = ap (has p n) (sym told.threads) ∙ sym c.is_live_in.ensures ∙ c.if-not-is_live_in.false in
    let is : tgkill h t ≡ send h t n s =
    tgkill_is h t p n s process number sig ∙ cond-false (is_below_one p || is_below_one n) _ _ low ∙ cond-false (not (has p n h.kernel.threads)) _ _ (not_from_true _ lives) in
    subst (λ (d : CallDone). IsAnswered h t c.args.kernel.now m c.send.new.kernel m [] c.send.result d) (sym is) (c.send.ensures.answered h t m told)
