-- The word that is compared, as it is read.
use Rattle.sys_calls.proofs.Common.{◌≡◌, ◌≢◌, ℕ, ◌∙◌, false, eqb, refl, sym, eq-eqb, ne_eqb, argument}
use Rattle.sys_calls.proofs.GuestMemory.{argument_is, int_argument_is, met, number_there, readable_at, unmet}
use Rattle.sys_calls.proofs.futexes.unchanged.Goals as goal

other_word : (n word wanted w : ℕ) → n ≡ word → w ≡ wanted → n ≢ w → eqb word wanted ≡ false
other_word n word wanted w p q ne = ne_eqb word wanted (λ e. ne (p ∙ e ∙ sym q))

pub returns-then-not-readable-clause-refused : goal.returns-then-not-readable-clause-refused
returns-then-not-readable-clause-refused c = λ h t done read.
    let at_is = c.argument-at.ensures ∙ argument_is h t c.args.saved.now read.file 0 in
    unmet _ _ (sym (readable_at h c.args.pages.now t c.args.saved.now read c.argument-at.result (argument h t 0) 4 4 at_is refl) ∙ sym c.readable.ensures ∙ c.if-not-readable.true)

pub returns-then-number_at-from-clause-refused : goal.returns-then-number_at-from-clause-refused
returns-then-number_at-from-clause-refused c = λ h t done read.
    let at_is = c.argument-at.ensures ∙ argument_is h t c.args.saved.now read.file 0 in
    met _ _ (sym (readable_at h c.args.pages.now t c.args.saved.now read c.argument-at.result (argument h t 0) 4 4 at_is refl) ∙ sym c.readable.ensures ∙ c.if-not-readable.false)
    ∙ unmet _ _ (other_word _ _ _ _
    (c.number_at.ensures ∙ number_there h c.args.pages.now t c.args.saved.now read c.argument-at.result (argument h t 0) 4 at_is)
    (c.from.ensures ∙ c.int_argument.ensures ∙ int_argument_is h t c.args.saved.now read.file 5) c.if-number_at-from.true)

pub returns-clause-goes : goal.returns-clause-goes
returns-clause-goes c = λ h t done read.
    let at_is = c.argument-at.ensures ∙ argument_is h t c.args.saved.now read.file 0 in
    let word_is = c.number_at.ensures ∙ number_there h c.args.pages.now t c.args.saved.now read c.argument-at.result (argument h t 0) 4 at_is in
    let value_is = c.from.ensures ∙ c.int_argument.ensures ∙ int_argument_is h t c.args.saved.now read.file 5 in
    met _ _ (sym (readable_at h c.args.pages.now t c.args.saved.now read c.argument-at.result (argument h t 0) 4 4 at_is refl) ∙ sym c.readable.ensures ∙ c.if-not-readable.false)
    ∙ met _ _ (eq-eqb _ _ (sym word_is ∙ c.if-number_at-from.false ∙ value_is))
