-- The tests of the call, in their order.
use Rattle.sys_calls.proofs.Common.{◌≡◌, ℕ, Bool, not, ◌&&◌, ◌||◌, eqb, ◌∷◌, [], Option, is_some, refl, sym, ap, ◌∙◌, eq-eqb, EFAULT, EINVAL, Errors, Here, IsRead, Map, Saved, byte_in, can_write_in, each_byte, int_in, register, unless, refuses_how, cond-false, cond-true, rt_sigprocmask, sigprocmask_done}
use Rattle.sys_calls.proofs.GuestMemory.{argument_is, int_argument_is, met, unmet}
use Rattle.sys_calls.proofs.signal_calls.may_mask.Goals as goal

-- they are asked of the page map and of the registers
abbrev tests : (ℕ → Option ℕ) → (ℕ → Bool) → ℕ → ℕ → ℕ → ℕ → Errors
tests byte can how set old size =
    (not (eqb size 8), EINVAL) ∷ (not (eqb set 0 || each_byte (λ a. is_some (byte a)) set 8), EFAULT)
    ∷ (not (eqb set 0) && refuses_how how, EINVAL) ∷ (not (eqb old 0 || each_byte can old 8), EFAULT) ∷ []

tests_are : (h : Here) (m : Map) (t : ℕ) (saved : Saved) → IsRead h m t saved → (how set old size : ℕ) → how ≡ int_in saved 0 → set ≡ register saved.file 11
    → old ≡ register saved.file 12 → size ≡ register saved.file 13
    → rt_sigprocmask h t ≡ unless h t (tests (byte_in m) (can_write_in m) how set old size) (sigprocmask_done h t)
tests_are h m t saved read how set old size p q r s =
    let how_is = p ∙ int_argument_is h t saved read.file 0 in
    let set_is = q ∙ argument_is h t saved read.file 1 in
    let old_is = r ∙ argument_is h t saved read.file 2 in
    let size_is = s ∙ argument_is h t saved read.file 3 in
    sym (λ i. unless h t (tests (read.bytes i) (read.writable i) (how_is i) (set_is i) (old_is i) (size_is i)) (sigprocmask_done h t))

pub returns-then-not-may_read_set-clause-refused : goal.returns-then-not-may_read_set-clause-refused
returns-then-not-may_read_set-clause-refused c = λ h t read.
    let saved = c.args.saved.now in
    tests_are h c.args.pages.now t saved read (int_in saved 0) c.argument-set.result (register saved.file 12) c.argument.result refl c.argument-set.ensures refl c.argument.ensures
    ∙ met _ _ (eq-eqb c.argument.result 8 c.if-argument-ne-SET_SIZE.false) ∙ unmet _ _ (sym c.may_read_set.ensures ∙ c.if-not-may_read_set.true)

pub returns-then-refuses_change-clause-refused : goal.returns-then-refuses_change-clause-refused
returns-then-refuses_change-clause-refused c = λ h t read.
    let saved = c.args.saved.now in
    tests_are h c.args.pages.now t saved read c.int_argument.result c.argument-set.result (register saved.file 12) c.argument.result c.int_argument.ensures c.argument-set.ensures refl c.argument.ensures
    ∙ met _ _ (eq-eqb c.argument.result 8 c.if-argument-ne-SET_SIZE.false) ∙ met _ _ (sym c.may_read_set.ensures ∙ c.if-not-may_read_set.false)
    ∙ cond-true _ _ _ (sym c.refuses_change.ensures ∙ c.if-refuses_change.true)

pub returns-then-not-may_write_set-clause-refused : goal.returns-then-not-may_write_set-clause-refused
returns-then-not-may_write_set-clause-refused c = λ h t read.
    tests_are h c.args.pages.now t c.args.saved.now read c.int_argument.result c.argument-set.result c.argument-2.result c.argument.result
    c.int_argument.ensures c.argument-set.ensures c.argument-2.ensures c.argument.ensures
    ∙ met _ _ (eq-eqb c.argument.result 8 c.if-argument-ne-SET_SIZE.false) ∙ met _ _ (sym c.may_read_set.ensures ∙ c.if-not-may_read_set.false)
    ∙ cond-false _ _ _ (sym c.refuses_change.ensures ∙ c.if-refuses_change.false) ∙ unmet _ _ (sym c.may_write_set.ensures ∙ c.if-not-may_write_set.true)

pub returns-clause-masks : goal.returns-clause-masks
returns-clause-masks c = λ h t read.
    tests_are h c.args.pages.now t c.args.saved.now read c.int_argument.result c.argument-set.result c.argument-2.result c.argument.result
    c.int_argument.ensures c.argument-set.ensures c.argument-2.ensures c.argument.ensures
    ∙ met _ _ (eq-eqb c.argument.result 8 c.if-argument-ne-SET_SIZE.false) ∙ met _ _ (sym c.may_read_set.ensures ∙ c.if-not-may_read_set.false)
    ∙ cond-false _ _ _ (sym c.refuses_change.ensures ∙ c.if-refuses_change.false) ∙ met _ _ (sym c.may_write_set.ensures ∙ c.if-not-may_write_set.false)

pub returns-clause-how : goal.returns-clause-how
returns-clause-how c =
    ap (λ (n : ℕ). not (eqb (register c.args.saved.now.file 11) 0) && refuses_how n) (sym c.int_argument.ensures)
    ∙ ap (λ (n : ℕ). not (eqb n 0) && refuses_how c.int_argument.result) (sym c.argument-set.ensures)
    ∙ sym c.refuses_change.ensures ∙ c.if-refuses_change.false

pub returns-clause-usable : goal.returns-clause-usable
returns-clause-usable c =
    ap (λ (a : ℕ). eqb a 0 || each_byte (can_write_in c.args.pages.now) a 8) (sym c.argument-2.ensures) ∙ sym c.may_write_set.ensures ∙ c.if-not-may_write_set.false
