-- The tests of the call, in their order.
use Rattle.sys_calls.proofs.Common.{◌≡◌, ℕ, Bool, not, ◌||◌, eqb, ◌∷◌, [], Option, is_some, refl, sym, ap, ◌∙◌, eq-eqb, refuses_action, EFAULT, EINVAL, Errors, Here, IsRead, Map, Saved, byte_in, can_write_in, int_in, register, unless, Action, pass_action, cond-false, cond-true, action_given, rt_sigaction, sigaction_with}
use Rattle.sys_calls.proofs.GuestMemory.{argument_is, int_argument_is, met, unmet}
use Rattle.sys_calls.proofs.signal_calls.asked_action.Goals as goal

-- they are asked of the page map, of the registers, and of the action that is given
abbrev tests : (ℕ → Option ℕ) → (ℕ → Bool) → ℕ → ℕ → ℕ → ℕ → Option Action → Errors
tests byte can sig act old size new =
    (not (eqb size 8), EINVAL) ∷ (not (eqb act 0 || pass_action (λ a. is_some (byte a)) act), EFAULT)
    ∷ (refuses_action sig new, EINVAL) ∷ (not (eqb old 0 || pass_action can old), EFAULT) ∷ []

tests_are : (h : Here) (m : Map) (t : ℕ) (saved : Saved) → IsRead h m t saved → (sig act old size : ℕ) (new : Option Action) → sig ≡ int_in saved 0 → act ≡ register saved.file 11
    → old ≡ register saved.file 12 → size ≡ register saved.file 13 → new ≡ action_given h act
    → rt_sigaction h t ≡ unless h t (tests (byte_in m) (can_write_in m) sig act old size new) (sigaction_with h t new)
unfolding pass_action
tests_are h m t saved read sig act old size new p q r s given =
    let sig_is = p ∙ int_argument_is h t saved read.file 0 in
    let act_is = q ∙ argument_is h t saved read.file 1 in
    let old_is = r ∙ argument_is h t saved read.file 2 in
    let size_is = s ∙ argument_is h t saved read.file 3 in
    let new_is = given ∙ ap (action_given h) act_is in
    sym (λ i. unless h t (tests (read.bytes i) (read.writable i) (sig_is i) (act_is i) (old_is i) (size_is i) (new_is i)) (sigaction_with h t (new_is i)))

pub returns-then-not-may_read_action-clause-refused : goal.returns-then-not-may_read_action-clause-refused
returns-then-not-may_read_action-clause-refused c = λ h t read.
    let saved = c.args.saved.now in
    tests_are h c.args.pages.now t saved read (int_in saved 0) c.argument-act.result (register saved.file 12) c.argument.result (action_given h c.argument-act.result)
    refl c.argument-act.ensures refl c.argument.ensures refl
    ∙ met _ _ (eq-eqb c.argument.result 8 c.if-argument-ne-SET_SIZE.false) ∙ unmet _ _ (sym c.may_read_action.ensures ∙ c.if-not-may_read_action.true)

pub returns-then-refuses_action-clause-refused : goal.returns-then-refuses_action-clause-refused
returns-then-refuses_action-clause-refused c = λ h t read.
    let saved = c.args.saved.now in
    tests_are h c.args.pages.now t saved read c.int_argument.result c.argument-act.result (register saved.file 12) c.argument.result c.action_given-new.result
    c.int_argument.ensures c.argument-act.ensures refl c.argument.ensures (c.action_given-new.ensures h t saved read)
    ∙ met _ _ (eq-eqb c.argument.result 8 c.if-argument-ne-SET_SIZE.false) ∙ met _ _ (sym c.may_read_action.ensures ∙ c.if-not-may_read_action.false)
    ∙ cond-true _ _ _ (sym c.refuses_action.ensures ∙ c.if-refuses_action.true)

pub returns-then-not-may_write_action-clause-refused : goal.returns-then-not-may_write_action-clause-refused
returns-then-not-may_write_action-clause-refused c = λ h t read.
    tests_are h c.args.pages.now t c.args.saved.now read c.int_argument.result c.argument-act.result c.argument-2.result c.argument.result c.action_given-new.result
    c.int_argument.ensures c.argument-act.ensures c.argument-2.ensures c.argument.ensures (c.action_given-new.ensures h t c.args.saved.now read)
    ∙ met _ _ (eq-eqb c.argument.result 8 c.if-argument-ne-SET_SIZE.false) ∙ met _ _ (sym c.may_read_action.ensures ∙ c.if-not-may_read_action.false)
    ∙ cond-false _ _ _ (sym c.refuses_action.ensures ∙ c.if-refuses_action.false) ∙ unmet _ _ (sym c.may_write_action.ensures ∙ c.if-not-may_write_action.true)

pub returns-clause-given : goal.returns-clause-given
returns-clause-given c = λ h t read.
    tests_are h c.args.pages.now t c.args.saved.now read c.int_argument.result c.argument-act.result c.argument-2.result c.argument.result c.action_given-new.result
    c.int_argument.ensures c.argument-act.ensures c.argument-2.ensures c.argument.ensures (c.action_given-new.ensures h t c.args.saved.now read)
    ∙ met _ _ (eq-eqb c.argument.result 8 c.if-argument-ne-SET_SIZE.false) ∙ met _ _ (sym c.may_read_action.ensures ∙ c.if-not-may_read_action.false)
    ∙ cond-false _ _ _ (sym c.refuses_action.ensures ∙ c.if-refuses_action.false) ∙ met _ _ (sym c.may_write_action.ensures ∙ c.if-not-may_write_action.false)

pub returns-clause-accepted : goal.returns-clause-accepted
returns-clause-accepted c =
    ap (λ (n : ℕ). refuses_action n c.action_given-new.result) (sym c.int_argument.ensures) ∙ sym c.refuses_action.ensures ∙ c.if-refuses_action.false

pub returns-clause-usable : goal.returns-clause-usable
returns-clause-usable c =
    ap (λ (a : ℕ). eqb a 0 || pass_action (can_write_in c.args.pages.now) a) (sym c.argument-2.ensures) ∙ sym c.may_write_action.ensures ∙ c.if-not-may_write_action.false
