-- The tests of the call, in their order; and the bytes are written.
use Rattle.sys_calls.proofs.Common.{◌≡◌, ℕ, Bool, not, nat_lt, cond, cond-false, cond-true, [], ◌∷◌, Ok, Err, refl, sym, ap, subst, ◌∙◌, EFAULT, EINVAL, CallDone, Errno, Errors, Here, HoldsTables, IsAnswered, IsRead, Kernel, Map, Saved, Write, List, can_write_in, each_byte, int_in, register, refused, said, unless}
use Rattle.block_model.specs.Kernel.{drawn}
use Rattle.block_model.specs.Calls.Random.{bytes_given, getrandom, most_flags, random_written, state_after, words_for}
use Rattle.sys_calls.proofs.GuestMemory.{argument_is, int_argument_is, met, unmet}
use Rattle.sys_calls.proofs.CallAnswers.{answered_changed, answered_said}
use Rattle.sys_calls.proofs.Laws.{holds_random}
use Rattle.sys_calls.proofs.random.getrandom.Goals as goal

-- they are asked of the page map and of the registers
abbrev tests : (ℕ → Bool) → ℕ → ℕ → ℕ → Errors
tests can at len flags = (nat_lt most_flags flags, EINVAL) ∷ (not (each_byte can at len), EFAULT) ∷ []

abbrev random_told : Here → ℕ → ℕ → ℕ → ℕ → CallDone
random_told h t at len state =
    record (said h t len) { entered = random_written len at state; kernel = drawn (state_after (words_for len) state) h.kernel }

tests_are : (h : Here) (m : Map) (t : ℕ) (saved : Saved) → IsRead h m t saved → (at len flags state : ℕ) → at ≡ register saved.file 10
    → len ≡ bytes_given (register saved.file 11) → flags ≡ int_in saved 2 → state ≡ h.kernel.random
    → getrandom h t ≡ unless h t (tests (can_write_in m) at len flags) (random_told h t at len state)
tests_are h m t saved read at len flags state p q r s =
    let at_is = p ∙ argument_is h t saved read.file 0 in
    let len_is = q ∙ ap bytes_given (argument_is h t saved read.file 1) in
    let flags_is = r ∙ int_argument_is h t saved read.file 2 in
    sym (λ i. unless h t (tests (read.writable i) (at_is i) (len_is i) (flags_is i)) (random_told h t (at_is i) (len_is i) (s i)))

-- a refusal writes nothing
refused_so : (h : Here) (t : ℕ) (k : Kernel) (m : Map) (e : Errno) (ws : List Write) → HoldsTables k h.kernel → ws ≡ []
    → getrandom h t ≡ refused h t e → IsAnswered h t k m k m ws (Err e) (getrandom h t)
refused_so h t k m e ws told fresh is =
    subst (λ (w : List Write). IsAnswered h t k m k m w (Err e) (getrandom h t)) (sym fresh) (answered_said h t k m (Err e) (getrandom h t) told is)

pub write_random-state-requires-clause-writable : goal.write_random-state-requires-clause-writable
write_random-state-requires-clause-writable c = sym c.can_write.ensures.can ∙ c.if-not-can_write.false

pub write_random-state-requires-clause-end : goal.write_random-state-requires-clause-end
write_random-state-requires-clause-end c = c.can_write.ensures.end c.if-not-can_write.false

pub returns-then-refuses_flags-clause-answered : goal.returns-then-refuses_flags-clause-answered
returns-then-refuses_flags-clause-answered c = λ h t told read.
    let len = c.bytes_given-len.ensures.given ∙ ap bytes_given c.argument.ensures in
    refused_so h t c.args.kernel.now c.args.pages.now EINVAL c.args.written.now.items told c.requires.fresh
    (tests_are h c.args.pages.now t c.args.saved.now read c.argument-at.result c.bytes_given-len.result c.int_argument.result c.args.kernel.now.random
    c.argument-at.ensures len c.int_argument.ensures told.random
    ∙ cond-true (nat_lt most_flags c.int_argument.result) _ _ (sym c.refuses_flags.ensures ∙ c.if-refuses_flags.true))

pub returns-then-not-can_write-clause-answered : goal.returns-then-not-can_write-clause-answered
returns-then-not-can_write-clause-answered c = λ h t told read.
    let len = c.bytes_given-len.ensures.given ∙ ap bytes_given c.argument.ensures in
    refused_so h t c.args.kernel.now c.args.pages.now EFAULT c.args.written.now.items told c.requires.fresh
    (tests_are h c.args.pages.now t c.args.saved.now read c.argument-at.result c.bytes_given-len.result c.int_argument.result c.args.kernel.now.random
    c.argument-at.ensures len c.int_argument.ensures told.random
    ∙ cond-false (nat_lt most_flags c.int_argument.result) _ _ (sym c.refuses_flags.ensures ∙ c.if-refuses_flags.false)
    ∙ unmet _ _ (sym c.can_write.ensures.can ∙ c.if-not-can_write.true))

pub returns-clause-answered : goal.returns-clause-answered
returns-clause-answered c = λ h t told read.
    let k = c.args.kernel.now in
    let k' : Kernel = record k { random = c.write_random-state.result } in
    let m = c.args.pages.now in
    let m' = c.write_random-state.new.pages in
    let at = c.argument-at.result in
    let len = c.bytes_given-len.result in
    let len_is = c.bytes_given-len.ensures.given ∙ ap bytes_given c.argument.ensures in
    let ws : List Write = random_written len at k.random in
    let is : getrandom h t ≡ random_told h t at len k.random =
    tests_are h m t c.args.saved.now read at len c.int_argument.result k.random c.argument-at.ensures len_is c.int_argument.ensures told.random
    ∙ cond-false (nat_lt most_flags c.int_argument.result) _ _ (sym c.refuses_flags.ensures ∙ c.if-refuses_flags.false)
    ∙ met _ _ (sym c.can_write.ensures.can ∙ c.if-not-can_write.false) in
    let done = answered_changed h t k k' m m' ws c.write_random-state.new.written.items (Ok len) (drawn (state_after (words_for len) k.random) h.kernel)
    (holds_random told c.write_random-state.result (state_after (words_for len) k.random) c.write_random-state.ensures.state) refl refl refl
    c.write_random-state.ensures.entered c.write_random-state.ensures.told refl in
    subst (λ (d : CallDone). IsAnswered h t k m k' m' c.write_random-state.new.written.items (Ok len) d) (sym is) done
