-- The harts of the thread that is named.
use Rattle.sys_calls.proofs.Common.{◌≡◌, ℕ, ◌%◌, Bool, true, false, not, ◌||◌, cond, eqb, List, [], ◌∷◌, ◌++◌, Ok, Err, nat_lt, sym, ap, subst, ◌∙◌, EFAULT, EINVAL, ESRCH, Here, HoldsTables, IsAnswered, IsRead, Kernel, Map, Saved, Threads, Write, can_write_in, each_byte, int_in, is_live, register, Scheduling, affinity_of, CallDone, Errors, double_written, said, unless, cond-false, sched_getaffinity}
use Rattle.std.proofs.lemmas.Bool.{not-true}
use Rattle.sys_calls.proofs.GuestMemory.{argument_is, int_argument_is, met, unmet}
use Rattle.sys_calls.proofs.CallAnswers.{answered_said, answered_wrote}
use Rattle.sys_calls.proofs.affinity.sched_getaffinity.Goals as goal

-- no size for a set
abbrev no_size : ℕ → Bool
no_size len = nat_lt len 8 || not (eqb (len % 8) 0)

-- the tests are asked of the page map, of the threads and of the registers; the harts are those of the tables
abbrev tests : (ℕ → Bool) → Threads → ℕ → ℕ → ℕ → Errors
tests can threads named len at =
    (no_size len, EINVAL) ∷ (not (eqb named 0 || is_live named threads), ESRCH) ∷ (not (each_byte can at 8), EFAULT) ∷ []

abbrev harts_told : Here → ℕ → ℕ → ℕ → Scheduling → CallDone
harts_told h t named at harts = record (said h t 8) { entered = double_written at (affinity_of (cond (eqb named 0) t named) harts) ∷ [] }

tests_are : (h : Here) (k : Kernel) (m : Map) (t : ℕ) (saved : Saved) → HoldsTables k h.kernel → IsRead h m t saved → (named len at : ℕ) → named ≡ int_in saved 0
    → len ≡ int_in saved 1 → at ≡ register saved.file 12
    → sched_getaffinity h t ≡ unless h t (tests (can_write_in m) k.threads.threads named len at) (harts_told h t named at k.ready)
tests_are h k m t saved told read named len at p q r =
    let named_is = p ∙ int_argument_is h t saved read.file 0 in
    let len_is = q ∙ int_argument_is h t saved read.file 1 in
    let at_is = r ∙ argument_is h t saved read.file 2 in
    sym (λ i. unless h t (tests (read.writable i) (told.threads i) (named_is i) (len_is i) (at_is i)) (harts_told h t (named_is i) (at_is i) (told.scheduling i)))

pub returns-then-not-writable-clause-answered : goal.returns-then-not-writable-clause-answered
returns-then-not-writable-clause-answered c = λ h told read.
    let t = c.args.tid.0 in
    let k = c.args.kernel.now in
    let m = c.args.pages.now in
    let is = tests_are h k m t c.args.saved.now told read c.int_argument-named.result c.int_argument-len.result c.argument-at.result
    c.int_argument-named.ensures c.int_argument-len.ensures c.argument-at.ensures
    ∙ cond-false _ _ _ (not-true _ (sym c.is_set_size.ensures ∙ c.if-not-is_set_size.false))
    ∙ cond-false _ _ _ (sym c.names_nobody.ensures ∙ c.if-names_nobody.false) ∙ unmet _ _ (sym c.writable.ensures ∙ c.if-not-writable.true) in
    subst (λ (w : List Write). IsAnswered h t k m k m w (Err EFAULT) (sched_getaffinity h t)) (sym c.requires.fresh) (answered_said h t k m (Err EFAULT) (sched_getaffinity h t) told is)

pub returns-clause-answered : goal.returns-clause-answered
returns-clause-answered c = λ h told read.
    let t = c.args.tid.0 in
    let k = c.args.kernel.now in
    let m' = c.write_double.new.pages in
    let ws : List Write = double_written c.argument-at.result c.from.result ∷ [] in
    let harts = c.from.ensures ∙ c.affinity-set.ensures ∙ ap (λ (n : ℕ). affinity_of n k.ready) c.named_thread.ensures in
    let is : sched_getaffinity h t ≡ record (said h t 8) { entered = ws } =
    tests_are h k c.args.pages.now t c.args.saved.now told read c.int_argument-named.result c.int_argument-len.result c.argument-at.result
    c.int_argument-named.ensures c.int_argument-len.ensures c.argument-at.ensures
    ∙ cond-false _ _ _ (not-true _ (sym c.is_set_size.ensures ∙ c.if-not-is_set_size.false))
    ∙ cond-false _ _ _ (sym c.names_nobody.ensures ∙ c.if-names_nobody.false) ∙ met _ _ (sym c.writable.ensures ∙ c.if-not-writable.false)
    ∙ ap (λ (n : ℕ). record (said h t 8) { entered = double_written c.argument-at.result n ∷ [] }) (sym harts) in
    let done = answered_wrote h t k c.args.pages.now m' (Ok 8) ws told c.write_double.ensures.entered in
    subst (λ (w : List Write). IsAnswered h t k c.args.pages.now k m' w (Ok 8) (sched_getaffinity h t)) (sym (c.write_double.ensures.told ∙ ap (λ (w : List Write). w ++ ws) c.requires.fresh))
    (subst (λ (d : CallDone). IsAnswered h t k c.args.pages.now k m' ws (Ok 8) d) (sym is) done)
