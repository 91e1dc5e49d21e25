-- The tests of the call, in their order.
use Rattle.sys_calls.proofs.Common.{◌≡◌, false, true, not, [], refl, sym, ap, subst, ◌∙◌, Err, CallDone, EINVAL, ESRCH, IsAnswered, int_argument, is_live, is_below_one, send, tkill, cond-false, cond-true, not_from_false, not_from_true}
use Rattle.sys_calls.proofs.SignalPosting.{tkill_is}
use Rattle.sys_calls.proofs.GuestMemory.{int_argument_is}
use Rattle.sys_calls.proofs.CallAnswers.{answered_said}
use Rattle.sys_calls.proofs.signal_posting.tkill.Goals as goal

pub returns-then-is_below_one-clause-answered : goal.returns-then-is_below_one-clause-answered
returns-then-is_below_one-clause-answered c = λ h t m told file.
    let n = c.int_argument-number.result in
    let number : n ≡ int_argument h t 0 = c.int_argument-number.ensures ∙ int_argument_is h t c.args.saved.now file 0 in
    let low : is_below_one n ≡ true = sym c.is_below_one.ensures ∙ c.if-is_below_one.true in
    answered_said h t c.args.kernel.now m (Err EINVAL) (tkill h t) told (tkill_is h t n (int_argument h t 1) number refl ∙ cond-true (is_below_one n) _ _ low)

pub returns-then-not-is_live-clause-answered : goal.returns-then-not-is_live-clause-answered
returns-then-not-is_live-clause-answered c = λ h t m told file.
    let n = c.int_argument-number.result in
    let number : n ≡ int_argument h t 0 = c.int_argument-number.ensures ∙ int_argument_is h t c.args.saved.now file 0 in
    let low : is_below_one n ≡ false = sym c.is_below_one.ensures ∙ c.if-is_below_one.false in
    let dead : is_live n h.kernel.threads ≡ false = ap (is_live n) (sym told.threads) ∙ sym c.is_live.ensures ∙ c.if-not-is_live.true in
    answered_said h t c.args.kernel.now m (Err ESRCH) (tkill h t) told
    (tkill_is h t n (int_argument h t 1) number refl ∙ cond-false (is_below_one n) _ _ low ∙ cond-true (not (is_live n h.kernel.threads)) _ _ (not_from_false _ dead))

pub returns-clause-answered : goal.returns-clause-answered
returns-clause-answered c = λ h t m told file.
    let n = c.int_argument-number.result in
    let number : n ≡ int_argument h t 0 = c.int_argument-number.ensures ∙ int_argument_is h t c.args.saved.now file 0 in
    let low : is_below_one n ≡ false = sym c.is_below_one.ensures ∙ c.if-is_below_one.false in
    let lives : is_live n h.kernel.threads ≡ true = ap (is_live n) (sym told.threads) ∙ sym c.is_live.ensures ∙ c.if-not-is_live.false in
    let sig : c.int_argument.result ≡ int_argument h t 1 = c.int_argument.ensures ∙ int_argument_is h t c.args.saved.now file 1 in
    let is : tkill h t ≡ send h t n c.int_argument.result =
    tkill_is h t n c.int_argument.result number sig ∙ cond-false (is_below_one n) _ _ low ∙ cond-false (not (is_live n h.kernel.threads)) _ _ (not_from_true _ lives) in
    subst (λ (d : CallDone). IsAnswered h t c.args.kernel.now m c.send.new.kernel m [] c.send.result d) (sym is) (c.send.ensures.answered h t m told)
