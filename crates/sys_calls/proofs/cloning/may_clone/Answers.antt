-- The tests of a clone, in their order.
use Rattle.sys_calls.proofs.Common.{◌≡◌, ℕ, ◌<◌, Bool, false, not, ◌&&◌, ◌||◌, leb, [], ◌∷◌, length, sym, ap, ◌∙◌, lt-leb, Threads, is_full, EAGAIN, EFAULT, EINVAL, Errors, Here, HoldsTables, IsRead, Kernel, Map, Saved, argument, each_byte, is_writable, register, unless, clone_child_settid, clone_parent_settid, has_flag, cloned, cond-false, are_flags, clone, may_write, can_write_numbers}
use Rattle.sys_calls.proofs.GuestMemory.{argument_is, met, unmet}
use Rattle.sys_calls.proofs.cloning.may_clone.Goals as goal

-- whether the words can be written, as the call asks it
abbrev words : Here → ℕ → Bool
words h t = may_write h (argument h t 0) clone_parent_settid (argument h t 2) && may_write h (argument h t 0) clone_child_settid (argument h t 4)

abbrev words_by : (ℕ → Bool) → Saved → Bool
words_by test saved =
    (not (has_flag (register saved.file 10) clone_parent_settid) || each_byte test (register saved.file 12) 4)
    && (not (has_flag (register saved.file 10) clone_child_settid) || each_byte test (register saved.file 14) 4)

words_are : (h : Here) (m : Map) (t : ℕ) (saved : Saved) → IsRead h m t saved → can_write_numbers m saved ≡ words h t
words_are h m t saved read = ap (λ (test : ℕ → Bool). words_by test saved) read.writable ∙ ap (words_by (is_writable h)) read.file

tests_are : (h : Here) (k : Kernel) (m : Map) (t : ℕ) (saved : Saved) → HoldsTables k h.kernel → IsRead h m t saved → (flags : ℕ) → flags ≡ register saved.file 10
    → clone h t ≡ unless h t ((not (are_flags flags), EINVAL) ∷ (is_full k.threads.threads, EAGAIN) ∷ (not (can_write_numbers m saved), EFAULT) ∷ []) (cloned h t)
tests_are h k m t saved told read flags p =
    let flags_is = p ∙ argument_is h t saved read.file 0 in
    let tests : ℕ → Threads → Bool → Errors = λ f ts b. (not (are_flags f), EINVAL) ∷ (is_full ts, EAGAIN) ∷ (not b, EFAULT) ∷ [] in
    sym (λ i. unless h t (tests (flags_is i) (told.threads i) (words_are h m t saved read i)) (cloned h t))

-- few threads live
few : (ts : Threads) (live : ℕ) → live ≡ length ts.live → live < 64 → is_full ts ≡ false
few ts live is lt = ap (leb 64) (sym is) ∙ lt-leb 64 live lt

pub returns-then-not-can_write_numbers-clause-refused : goal.returns-then-not-can_write_numbers-clause-refused
returns-then-not-can_write_numbers-clause-refused c = λ h t told read.
    tests_are h c.args.kernel.now c.args.pages.now t c.args.saved.now told read c.argument.result c.argument.ensures ∙ met _ _ (sym c.are_flags.ensures ∙ c.if-not-are_flags.false)
    ∙ cond-false _ _ _ (few c.args.kernel.now.threads.threads c.live-live.result c.live-live.ensures.count c.if-live-ge-MOST_THREADS.false)
    ∙ unmet _ _ (sym c.can_write_numbers.ensures ∙ c.if-not-can_write_numbers.true)

pub returns-clause-made : goal.returns-clause-made
returns-clause-made c = λ h t told read.
    tests_are h c.args.kernel.now c.args.pages.now t c.args.saved.now told read c.argument.result c.argument.ensures ∙ met _ _ (sym c.are_flags.ensures ∙ c.if-not-are_flags.false)
    ∙ cond-false _ _ _ (few c.args.kernel.now.threads.threads c.live-live.result c.live-live.ensures.count c.if-live-ge-MOST_THREADS.false)
    ∙ met _ _ (sym c.can_write_numbers.ensures ∙ c.if-not-can_write_numbers.false)
