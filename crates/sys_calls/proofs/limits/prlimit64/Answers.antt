-- The limits are written where they are asked for.
use Rattle.sys_calls.proofs.Common.{◌≡◌, ℕ, ◌||◌, cond, eqb, List, [], sym, ap, subst, ◌∙◌, refl, Ok, CallDone, IsAnswered, IsEntered, Write, argument, can_write_in, int_argument}
use Rattle.block_model.specs.Calls.Limits.{limit_of, limit_written}
use Rattle.sys_calls.specs.Asked.{pass_limits}
use Rattle.sys_calls.proofs.GuestMemory.{argument_is, int_argument_is}
use Rattle.sys_calls.proofs.CallAnswers.{answered_changed}
use Rattle.sys_calls.proofs.limits.prlimit64.Goals as goal

pub write_limits_unless_zero-requires-clause-usable : goal.write_limits_unless_zero-requires-clause-usable
write_limits_unless_zero-requires-clause-usable c =
    ap (λ (a : ℕ). eqb a 0 || pass_limits (can_write_in c.args.pages.now) a) c.argument.ensures ∙ c.in_ok-may_tell_limits.ensures.usable

pub returns-clause-answered : goal.returns-clause-answered
returns-clause-answered c = λ h k t same told read.
    let m = c.args.pages.now in
    let m' = c.write_limits_unless_zero.new.pages in
    let resource : c.int_argument.result ≡ int_argument h t 1 = c.int_argument.ensures ∙ int_argument_is h t c.args.saved.now read.file 1 in
    let old : c.argument.result ≡ argument h t 3 = c.argument.ensures ∙ argument_is h t c.args.saved.now read.file 3 in
    let limit : c.limit_of-limit.result ≡ limit_of (int_argument h t 1) = c.limit_of-limit.ensures ∙ ap limit_of resource in
    let ws : List Write = cond (eqb (argument h t 3) 0) [] (limit_written (argument h t 3) (limit_of (int_argument h t 1))) in
    let is : cond (eqb c.argument.result 0) [] (limit_written c.argument.result c.limit_of-limit.result) ≡ ws =
    (λ i. cond (eqb (old i) 0) [] (limit_written (old i) (limit i))) in
    let done = answered_changed h t k k m m' ws c.write_limits_unless_zero.new.written.items (Ok 0) h.kernel told refl refl refl
    (subst (IsEntered m m') is c.write_limits_unless_zero.ensures.entered) (c.write_limits_unless_zero.ensures.told ∙ is) refl in
    subst (λ (d : CallDone). IsAnswered h t k m k m' c.write_limits_unless_zero.new.written.items (Ok 0) d)
    (sym (c.in_ok-may_tell_limits.ensures.told h t (ap (λ x. x.threads) (sym same) ∙ told.threads) read)) done
