-- A signal that can be sent is posted.
use Rattle.sys_calls.proofs.Common.{◌≡◌, false, eqb, [], sym, ap, subst, ◌∙◌, Ok, ne_eqb, CallDone, IsAnswered, post, send, cond-false, refuses_signal}
use Rattle.sys_calls.proofs.signal_posting.send.Goals as goal

pub returns-then-sig-ne0-clause-answered : goal.returns-then-sig-ne0-clause-answered
returns-then-sig-ne0-clause-answered c = λ h t m told.
    let u = c.args.to.0 in
    let sig = c.args.sig in
    let good : refuses_signal sig ≡ false = sym c.refuses_signal.ensures ∙ c.if-refuses_signal.false in
    let is : send h t u sig ≡ post h t u c.signal_number.result =
    cond-false (refuses_signal sig) _ _ good ∙ cond-false (eqb sig 0) _ _ (ne_eqb sig 0 c.if-sig-ne0.true) ∙ ap (post h t u) (sym c.signal_number.ensures) in
    subst (λ (d : CallDone). IsAnswered h t c.args.kernel.now m c.post.new.kernel m [] (Ok 0) d) (sym is) (c.post.ensures.answered h t m told)
