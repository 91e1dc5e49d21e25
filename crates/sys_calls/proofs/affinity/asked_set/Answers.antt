-- The tests of a set, in their order.
use Rattle.sys_calls.proofs.Common.{◌≡◌, ℕ, min, true, false, not, eqb, ◌||◌, inl, inr, [], ◌∷◌, Option, is_some, refl, sym, ap, ◌∙◌, eq-eqb, ne_eqb, EFAULT, ESRCH, Errors, Here, HoldsTables, IsRead, Kernel, Map, Saved, Threads, byte_in, each_byte, int_in, is_live, register, unless, sched_setaffinity, setaffinity_with, cond-false, cond-true, ◌⊎◌, EPERM, set_at}
use Rattle.sys_calls.proofs.GuestMemory.{argument_is, int_argument_is, met, unmet}
use Rattle.sys_calls.proofs.affinity.asked_set.Goals as goal

-- they are asked of the page map, of the threads and of the registers
abbrev tests : (ℕ → Option ℕ) → Threads → ℕ → ℕ → ℕ → ℕ → Errors
tests byte threads t named at size =
    (not (each_byte (λ a. is_some (byte a)) at size), EFAULT) ∷ (not (eqb named 0 || is_live named threads), ESRCH) ∷ (not (eqb named 0 || eqb named t), EPERM) ∷ []

tests_are : (h : Here) (k : Kernel) (m : Map) (t : ℕ) (saved : Saved) → HoldsTables k h.kernel → IsRead h m t saved → (named len at size asked : ℕ) → named ≡ int_in saved 0
    → len ≡ int_in saved 1 → at ≡ register saved.file 12 → size ≡ min len 8 → asked ≡ set_at h at len
    → sched_setaffinity h t ≡ unless h t (tests (byte_in m) k.threads.threads t named at size) (setaffinity_with h t asked)
tests_are h k m t saved told read named len at size asked p q r s given =
    let named_is = p ∙ int_argument_is h t saved read.file 0 in
    let len_is = q ∙ int_argument_is h t saved read.file 1 in
    let at_is = r ∙ argument_is h t saved read.file 2 in
    let size_is = s ∙ ap (λ (n : ℕ). min n 8) len_is in
    let set_is = given ∙ (λ i. set_at h (at_is i) (len_is i)) in
    sym (λ i. unless h t (tests (read.bytes i) (told.threads i) t (named_is i) (at_is i) (size_is i)) (setaffinity_with h t (set_is i)))

other : (tid t : ℕ) → (tid ≡ 0 → ⊥) × (tid ≡ t → ⊥) → (eqb tid 0 || eqb tid t) ≡ false
other tid t ne = rw (ne_eqb tid 0 ne.0, ne_eqb tid t ne.1) refl

own : (tid t : ℕ) → (tid ≡ 0) ⊎ ((tid ≡ 0 → ⊥) × (tid ≡ t)) → (eqb tid 0 || eqb tid t) ≡ true
own tid t (inl e) = rw (eq-eqb tid 0 e) refl
own tid t (inr p) = rw (ne_eqb tid 0 p.0) (eq-eqb tid t p.1)

pub returns-then-not-readable-clause-refused : goal.returns-then-not-readable-clause-refused
returns-then-not-readable-clause-refused c = λ h told read.
    tests_are h c.args.kernel.now c.args.pages.now c.args.tid.0 c.args.saved.now told read c.int_argument-named.result c.int_argument-len.result c.argument-at.result c.from.result
    (set_at h c.argument-at.result c.int_argument-len.result) c.int_argument-named.ensures c.int_argument-len.ensures c.argument-at.ensures (c.from.ensures ∙ c.min.ensures) refl
    ∙ unmet _ _ (sym c.readable.ensures ∙ c.if-not-readable.true)

pub returns-then-names_nobody-clause-refused : goal.returns-then-names_nobody-clause-refused
returns-then-names_nobody-clause-refused c = λ h told read.
    tests_are h c.args.kernel.now c.args.pages.now c.args.tid.0 c.args.saved.now told read c.int_argument-named.result c.int_argument-len.result c.argument-at.result c.from.result
    (set_at h c.argument-at.result c.int_argument-len.result) c.int_argument-named.ensures c.int_argument-len.ensures c.argument-at.ensures (c.from.ensures ∙ c.min.ensures) refl
    ∙ met _ _ (sym c.readable.ensures ∙ c.if-not-readable.false) ∙ cond-true _ _ _ (sym c.names_nobody.ensures ∙ c.if-names_nobody.true)

pub returns-then-not-named-tid-clause-refused : goal.returns-then-not-named-tid-clause-refused
returns-then-not-named-tid-clause-refused c = λ h told read.
    tests_are h c.args.kernel.now c.args.pages.now c.args.tid.0 c.args.saved.now told read c.int_argument-named.result c.int_argument-len.result c.argument-at.result c.from.result
    (set_at h c.argument-at.result c.int_argument-len.result) c.int_argument-named.ensures c.int_argument-len.ensures c.argument-at.ensures (c.from.ensures ∙ c.min.ensures) refl
    ∙ met _ _ (sym c.readable.ensures ∙ c.if-not-readable.false) ∙ cond-false _ _ _ (sym c.names_nobody.ensures ∙ c.if-names_nobody.false)
    ∙ unmet _ _ (other c.int_argument-named.result c.args.tid.0 c.if-not-named-tid.true)

pub returns-clause-set : goal.returns-clause-set
returns-clause-set c = λ h told read.
    tests_are h c.args.kernel.now c.args.pages.now c.args.tid.0 c.args.saved.now told read c.int_argument-named.result c.int_argument-len.result c.argument-at.result c.from.result
    c.set_at.result c.int_argument-named.ensures c.int_argument-len.ensures c.argument-at.ensures (c.from.ensures ∙ c.min.ensures) (c.set_at.ensures h c.args.tid.0 c.args.saved.now read)
    ∙ met _ _ (sym c.readable.ensures ∙ c.if-not-readable.false) ∙ cond-false _ _ _ (sym c.names_nobody.ensures ∙ c.if-names_nobody.false)
    ∙ met _ _ (own c.int_argument-named.result c.args.tid.0 c.if-not-named-tid.either)
