-- The tests of the call, in their order; and the set is written.
use Rattle.sys_calls.proofs.Common.{◌≡◌, ℕ, Bool, not, eqb, List, [], ◌∷◌, ◌++◌, Ok, Err, sym, ap, subst, ◌∙◌, eq-eqb, EFAULT, EINVAL, CallDone, Errors, Here, HoldsTables, IsAnswered, IsRead, Kernel, Map, Saved, Signalling, Write, can_write_in, double_written, each_byte, register, said, unless}
use Rattle.block_model.specs.Calls.Signals.{held_back, rt_sigpending}
use Rattle.sys_calls.proofs.GuestMemory.{argument_is, met, unmet}
use Rattle.sys_calls.proofs.CallAnswers.{answered_said, answered_wrote}
use Rattle.sys_calls.proofs.signal_calls.rt_sigpending.Goals as goal

-- they are asked of the page map and of the registers; the set is that of the tables
abbrev tests : (ℕ → Bool) → ℕ → ℕ → Errors
tests can at size = (not (eqb size 8), EINVAL) ∷ (not (each_byte can at 8), EFAULT) ∷ []

abbrev set_told : Here → ℕ → ℕ → Signalling → CallDone
set_told h t at g = record (said h t 0) { entered = double_written at (held_back t g) ∷ [] }

tests_are : (h : Here) (k : Kernel) (m : Map) (t : ℕ) (saved : Saved) → HoldsTables k h.kernel → IsRead h m t saved → (at size : ℕ) → at ≡ register saved.file 10
    → size ≡ register saved.file 11 → rt_sigpending h t ≡ unless h t (tests (can_write_in m) at size) (set_told h t at k.signals)
tests_are h k m t saved told read at size p q =
    let at_is = p ∙ argument_is h t saved read.file 0 in
    let size_is = q ∙ argument_is h t saved read.file 1 in
    sym (λ i. unless h t (tests (read.writable i) (at_is i) (size_is i)) (set_told h t (at_is i) (told.signals i)))

pub returns-then-not-writable-clause-answered : goal.returns-then-not-writable-clause-answered
returns-then-not-writable-clause-answered c = λ h k same told read.
    let t = c.args.tid.0 in
    let m = c.args.pages.now in
    let is = tests_are h k m t c.args.saved.now told read c.argument-at.result c.argument.result c.argument-at.ensures c.argument.ensures
    ∙ met _ _ (eq-eqb c.argument.result 8 c.if-argument-ne-SET_SIZE.false) ∙ unmet _ _ (sym c.writable.ensures ∙ c.if-not-writable.true) in
    subst (λ (w : List Write). IsAnswered h t k m k m w (Err EFAULT) (rt_sigpending h t)) (sym c.requires.fresh) (answered_said h t k m (Err EFAULT) (rt_sigpending h t) told is)

pub returns-clause-answered : goal.returns-clause-answered
returns-clause-answered c = λ h k same told read.
    let t = c.args.tid.0 in
    let m = c.args.pages.now in
    let m' = c.write_double.new.pages in
    let ws : List Write = double_written c.argument-at.result c.held_back-set.result ∷ [] in
    let set : held_back t k.signals ≡ c.held_back-set.result = ap (held_back t) same ∙ sym c.held_back-set.ensures in
    let is : rt_sigpending h t ≡ record (said h t 0) { entered = ws } =
    tests_are h k m t c.args.saved.now told read c.argument-at.result c.argument.result c.argument-at.ensures c.argument.ensures
    ∙ met _ _ (eq-eqb c.argument.result 8 c.if-argument-ne-SET_SIZE.false) ∙ met _ _ (sym c.writable.ensures ∙ c.if-not-writable.false)
    ∙ ap (λ (n : ℕ). record (said h t 0) { entered = double_written c.argument-at.result n ∷ [] }) set in
    let done = answered_wrote h t k m m' (Ok 0) ws told c.write_double.ensures.entered in
    subst (λ (w : List Write). IsAnswered h t k m k m' w (Ok 0) (rt_sigpending h t)) (sym (c.write_double.ensures.told ∙ ap (λ (w : List Write). w ++ ws) c.requires.fresh))
    (subst (λ (d : CallDone). IsAnswered h t k m k m' ws (Ok 0) d) (sym is) done)
