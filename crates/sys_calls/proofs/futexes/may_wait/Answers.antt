-- The tests of a wait, in their order.
use Rattle.sys_calls.proofs.Common.{◌≡◌, ◌≢◌, ℕ, true, false, not, eqb, ◌∷◌, [], Option, is_some, unwrap_or, sym, ap, ◌∙◌, eq-eqb, ne_eqb, CallDone, Errors, Here, HoldsTables, IsRead, Kernel, Map, Saved, argument, byte_in, each_byte, int_in, register, said, unless, word_at, next_for, EAGAIN, EFAULT, EINVAL, waited, futex_wait, cond-false, cond-true, EINTR}
use Rattle.sys_calls.proofs.GuestMemory.{argument_is, int_argument_is, met, unmet}
use Rattle.sys_calls.proofs.futexes.may_wait.Goals as goal

-- they are asked of the page map, of the registers, and of the signals
abbrev tests : (ℕ → Option ℕ) → ℕ → ℕ → ℕ → Option ℕ → Errors
tests byte at wanted timeout signal =
    (not (eqb timeout 0), EINVAL) ∷ (not (each_byte (λ a. is_some (byte a)) at 4), EFAULT)
    ∷ (not (eqb (unwrap_or (word_at byte at 4) 0) wanted), EAGAIN) ∷ (is_some signal, EINTR) ∷ []

abbrev waits : Here → ℕ → CallDone
waits h t = record (said h t 0) { kernel = waited t (argument h t 0) h.kernel }

tests_are : (h : Here) (k : Kernel) (m : Map) (t : ℕ) (saved : Saved) → HoldsTables k h.kernel → IsRead h m t saved → (at timeout : ℕ) → at ≡ register saved.file 10
    → timeout ≡ register saved.file 13 → futex_wait h t ≡ unless h t (tests (byte_in m) at (int_in saved 2) timeout (next_for t k.signals)) (waits h t)
tests_are h k m t saved told read at timeout p q =
    let at_is = p ∙ argument_is h t saved read.file 0 in
    let timeout_is = q ∙ argument_is h t saved read.file 3 in
    sym (λ i. unless h t (tests (read.bytes i) (at_is i) (int_argument_is h t saved read.file 2 i) (timeout_is i) (next_for t (told.signals i))) (waits h t))

-- the word, as it is read
other_word : (n word wanted w : ℕ) → n ≡ word → w ≡ wanted → n ≢ w → eqb word wanted ≡ false
other_word n word wanted w p q ne = ne_eqb word wanted (λ e. ne (p ∙ e ∙ sym q))

pub returns-then-not-readable-clause-refused : goal.returns-then-not-readable-clause-refused
returns-then-not-readable-clause-refused c = λ h told read.
    tests_are h c.args.kernel.now c.args.pages.now c.args.tid.0 c.args.saved.now told read c.argument-at.result c.argument.result c.argument-at.ensures c.argument.ensures
    ∙ met _ _ (eq-eqb c.argument.result 0 c.if-argument-ne0.false) ∙ unmet _ _ (sym c.readable.ensures ∙ c.if-not-readable.true)

pub returns-then-number_at-from-clause-refused : goal.returns-then-number_at-from-clause-refused
returns-then-number_at-from-clause-refused c = λ h told read.
    tests_are h c.args.kernel.now c.args.pages.now c.args.tid.0 c.args.saved.now told read c.argument-at.result c.argument.result c.argument-at.ensures c.argument.ensures
    ∙ met _ _ (eq-eqb c.argument.result 0 c.if-argument-ne0.false) ∙ met _ _ (sym c.readable.ensures ∙ c.if-not-readable.false)
    ∙ unmet _ _ (other_word _ _ _ _ c.number_at.ensures (c.from.ensures ∙ c.int_argument.ensures) c.if-number_at-from.true)

pub returns-then-is_some-clause-refused : goal.returns-then-is_some-clause-refused
returns-then-is_some-clause-refused c = λ h told read.
    tests_are h c.args.kernel.now c.args.pages.now c.args.tid.0 c.args.saved.now told read c.argument-at.result c.argument.result c.argument-at.ensures c.argument.ensures
    ∙ met _ _ (eq-eqb c.argument.result 0 c.if-argument-ne0.false) ∙ met _ _ (sym c.readable.ensures ∙ c.if-not-readable.false)
    ∙ met _ _ (eq-eqb _ _ (sym c.number_at.ensures ∙ c.if-number_at-from.false ∙ (c.from.ensures ∙ c.int_argument.ensures)))
    ∙ cond-true _ _ _ (sym (ap (λ (o : Option ℕ). is_some o) c.next_for.ensures) ∙ sym c.is_some.ensures ∙ c.if-is_some.true)

pub returns-clause-waits : goal.returns-clause-waits
returns-clause-waits c = λ h told read.
    tests_are h c.args.kernel.now c.args.pages.now c.args.tid.0 c.args.saved.now told read c.argument-at.result c.argument.result c.argument-at.ensures c.argument.ensures
    ∙ met _ _ (eq-eqb c.argument.result 0 c.if-argument-ne0.false) ∙ met _ _ (sym c.readable.ensures ∙ c.if-not-readable.false)
    ∙ met _ _ (eq-eqb _ _ (sym c.number_at.ensures ∙ c.if-number_at-from.false ∙ (c.from.ensures ∙ c.int_argument.ensures)))
    ∙ cond-false _ _ _ (sym (ap (λ (o : Option ℕ). is_some o) c.next_for.ensures) ∙ sym c.is_some.ensures ∙ c.if-is_some.false)
