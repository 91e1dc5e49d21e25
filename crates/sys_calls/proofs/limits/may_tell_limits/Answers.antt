-- The tests of the call, in their order.
use Rattle.sys_calls.proofs.Common.{◌≡◌, ℕ, Bool, not, ◌&&◌, ◌||◌, eqb, ◌∷◌, [], Option, is_some, refl, sym, ap, ◌∙◌, eq-eqb, ne_eqb, EFAULT, EINVAL, EPERM, ESRCH, Errors, Here, IsRead, Map, Saved, Threads, byte_in, can_write_in, int_in, is_live, register, unless, cond-false, cond-true}
use Rattle.block_model.specs.Calls.Limits.{is_resource, prlimit64}
use Rattle.sys_calls.specs.Asked.{limits_told}
unfoldable use Rattle.sys_calls.specs.Asked.{pass_limits}
use Rattle.sys_calls.proofs.GuestMemory.{argument_is, int_argument_is, met, unmet}
use Rattle.sys_calls.proofs.limits.may_tell_limits.Goals as goal

-- they are asked of the page map, of the threads and of the registers
abbrev tests : (ℕ → Option ℕ) → (ℕ → Bool) → Threads → ℕ → ℕ → ℕ → ℕ → Errors
tests byte can threads pid resource new old =
    (not (eqb new 0 || pass_limits (λ a. is_some (byte a)) new), EFAULT) ∷ (not (eqb pid 1) && not (eqb pid 0 || is_live pid threads), ESRCH)
    ∷ (not (is_resource resource), EINVAL) ∷ (not (eqb new 0), EPERM) ∷ (not (eqb old 0 || pass_limits can old), EFAULT) ∷ []

tests_are : (h : Here) (m : Map) (t : ℕ) (threads : Threads) (saved : Saved) → threads ≡ h.kernel.threads → IsRead h m t saved → (pid resource new old : ℕ)
    → pid ≡ int_in saved 0 → resource ≡ int_in saved 1 → new ≡ register saved.file 12 → old ≡ register saved.file 13
    → prlimit64 h t ≡ unless h t (tests (byte_in m) (can_write_in m) threads pid resource new old) (limits_told h t)
unfolding pass_limits
tests_are h m t threads saved same read pid resource new old p q r s =
    let pid_is = p ∙ int_argument_is h t saved read.file 0 in
    let resource_is = q ∙ int_argument_is h t saved read.file 1 in
    let new_is = r ∙ argument_is h t saved read.file 2 in
    let old_is = s ∙ argument_is h t saved read.file 3 in
    sym (λ i. unless h t (tests (read.bytes i) (read.writable i) (same i) (pid_is i) (resource_is i) (new_is i) (old_is i)) (limits_told h t))

pub returns-then-not-may_read_limits-clause-refused : goal.returns-then-not-may_read_limits-clause-refused
returns-then-not-may_read_limits-clause-refused c = λ h t same read.
    let saved = c.args.saved.now in
    tests_are h c.args.pages.now t c.args.threads.now.threads saved same read (int_in saved 0) (int_in saved 1) c.argument-new.result (register saved.file 13)
    refl refl c.argument-new.ensures refl
    ∙ unmet _ _ (sym c.may_read_limits.ensures ∙ c.if-not-may_read_limits.true)

pub returns-then-names_no_process-clause-refused : goal.returns-then-names_no_process-clause-refused
returns-then-names_no_process-clause-refused c = λ h t same read.
    let saved = c.args.saved.now in
    tests_are h c.args.pages.now t c.args.threads.now.threads saved same read c.int_argument.result (int_in saved 1) c.argument-new.result (register saved.file 13)
    c.int_argument.ensures refl c.argument-new.ensures refl
    ∙ met _ _ (sym c.may_read_limits.ensures ∙ c.if-not-may_read_limits.false)
    ∙ cond-true _ _ _ (sym c.names_no_process.ensures ∙ c.if-names_no_process.true)

pub returns-then-not-is_resource-clause-refused : goal.returns-then-not-is_resource-clause-refused
returns-then-not-is_resource-clause-refused c = λ h t same read.
    let saved = c.args.saved.now in
    tests_are h c.args.pages.now t c.args.threads.now.threads saved same read c.int_argument.result c.int_argument-2.result c.argument-new.result (register saved.file 13)
    c.int_argument.ensures c.int_argument-2.ensures c.argument-new.ensures refl
    ∙ met _ _ (sym c.may_read_limits.ensures ∙ c.if-not-may_read_limits.false)
    ∙ cond-false _ _ _ (sym c.names_no_process.ensures ∙ c.if-names_no_process.false)
    ∙ unmet _ _ (sym c.is_resource.ensures ∙ c.if-not-is_resource.true)

pub returns-then-new-ne0-clause-refused : goal.returns-then-new-ne0-clause-refused
returns-then-new-ne0-clause-refused c = λ h t same read.
    let saved = c.args.saved.now in
    tests_are h c.args.pages.now t c.args.threads.now.threads saved same read c.int_argument.result c.int_argument-2.result c.argument-new.result (register saved.file 13)
    c.int_argument.ensures c.int_argument-2.ensures c.argument-new.ensures refl
    ∙ met _ _ (sym c.may_read_limits.ensures ∙ c.if-not-may_read_limits.false)
    ∙ cond-false _ _ _ (sym c.names_no_process.ensures ∙ c.if-names_no_process.false)
    ∙ met _ _ (sym c.is_resource.ensures ∙ c.if-not-is_resource.false)
    ∙ unmet _ _ (ne_eqb c.argument-new.result 0 c.if-new-ne0.true)

pub returns-then-not-may_write_limits-clause-refused : goal.returns-then-not-may_write_limits-clause-refused
returns-then-not-may_write_limits-clause-refused c = λ h t same read.
    tests_are h c.args.pages.now t c.args.threads.now.threads c.args.saved.now same read c.int_argument.result c.int_argument-2.result c.argument-new.result c.argument.result
    c.int_argument.ensures c.int_argument-2.ensures c.argument-new.ensures c.argument.ensures
    ∙ met _ _ (sym c.may_read_limits.ensures ∙ c.if-not-may_read_limits.false)
    ∙ cond-false _ _ _ (sym c.names_no_process.ensures ∙ c.if-names_no_process.false)
    ∙ met _ _ (sym c.is_resource.ensures ∙ c.if-not-is_resource.false)
    ∙ met _ _ (eq-eqb c.argument-new.result 0 c.if-new-ne0.false)
    ∙ unmet _ _ (sym c.may_write_limits.ensures ∙ c.if-not-may_write_limits.true)

pub returns-clause-told : goal.returns-clause-told
returns-clause-told c = λ h t same read.
    tests_are h c.args.pages.now t c.args.threads.now.threads c.args.saved.now same read c.int_argument.result c.int_argument-2.result c.argument-new.result c.argument.result
    c.int_argument.ensures c.int_argument-2.ensures c.argument-new.ensures c.argument.ensures
    ∙ met _ _ (sym c.may_read_limits.ensures ∙ c.if-not-may_read_limits.false)
    ∙ cond-false _ _ _ (sym c.names_no_process.ensures ∙ c.if-names_no_process.false)
    ∙ met _ _ (sym c.is_resource.ensures ∙ c.if-not-is_resource.false)
    ∙ met _ _ (eq-eqb c.argument-new.result 0 c.if-new-ne0.false)
    ∙ met _ _ (sym c.may_write_limits.ensures ∙ c.if-not-may_write_limits.false)

pub returns-clause-usable : goal.returns-clause-usable
returns-clause-usable c =
    ap (λ (a : ℕ). eqb a 0 || pass_limits (can_write_in c.args.pages.now) a) (sym c.argument.ensures) ∙ sym c.may_write_limits.ensures ∙ c.if-not-may_write_limits.false
