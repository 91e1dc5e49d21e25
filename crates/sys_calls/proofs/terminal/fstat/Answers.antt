-- The tests of the call, in their order; and what is told is written.
use Rattle.sys_calls.proofs.Common.{◌≡◌, ℕ, Bool, not, cond, [], ◌∷◌, Ok, Err, refl, sym, ap, subst, ◌∙◌, EFAULT, CallDone, Errno, Errors, Here, HoldsTables, IsAnswered, IsRead, Kernel, Map, Saved, Write, List, can_write_in, int_in, register, refused, said, unless}
use Rattle.mach_types.specs.declared.errors.TheConstants.{EBADF}
use Rattle.block_model.specs.Calls.Terminal.{fstat, is_open, stat_size, stat_written}
unfoldable use Rattle.sys_calls.specs.Asked.{pass_bytes}
use Rattle.sys_calls.proofs.GuestMemory.{argument_is, int_argument_is, met, unmet}
use Rattle.sys_calls.proofs.CallAnswers.{answered_said, answered_wrote}
use Rattle.sys_calls.proofs.terminal.fstat.Goals as goal

-- they are asked of the page map and of the registers
abbrev tests : (ℕ → Bool) → ℕ → ℕ → Errors
tests can fd at = (not (is_open fd), EBADF) ∷ (not (pass_bytes stat_size can at), EFAULT) ∷ []

abbrev stat_told : Here → ℕ → ℕ → CallDone
stat_told h t at = record (said h t 0) { entered = stat_written at }

tests_are : (h : Here) (m : Map) (t : ℕ) (saved : Saved) → IsRead h m t saved → (fd at : ℕ) → fd ≡ int_in saved 0 → at ≡ register saved.file 11
    → fstat h t ≡ unless h t (tests (can_write_in m) fd at) (stat_told h t at)
unfolding pass_bytes
tests_are h m t saved read fd at p q =
    let fd_is = p ∙ int_argument_is h t saved read.file 0 in
    let at_is = q ∙ argument_is h t saved read.file 1 in
    sym (λ i. unless h t (tests (read.writable i) (fd_is i) (at_is i)) (stat_told h t (at_is i)))

-- a refusal writes nothing
refused_so : (h : Here) (t : ℕ) (k : Kernel) (m : Map) (e : Errno) (ws : List Write) → HoldsTables k h.kernel → ws ≡ []
    → fstat h t ≡ refused h t e → IsAnswered h t k m k m ws (Err e) (fstat h t)
refused_so h t k m e ws told fresh is =
    subst (λ (w : List Write). IsAnswered h t k m k m w (Err e) (fstat h t)) (sym fresh) (answered_said h t k m (Err e) (fstat h t) told is)

pub returns-then-not-is_open-clause-answered : goal.returns-then-not-is_open-clause-answered
returns-then-not-is_open-clause-answered c = λ h k t told read.
    refused_so h t k c.args.pages.now EBADF c.args.written.now.items told c.requires
    (tests_are h c.args.pages.now t c.args.saved.now read c.int_argument.result c.argument-at.result c.int_argument.ensures c.argument-at.ensures
    ∙ unmet _ _ (sym c.is_open.ensures ∙ c.if-not-is_open.true))

pub returns-then-not-can_write_stat-clause-answered : goal.returns-then-not-can_write_stat-clause-answered
returns-then-not-can_write_stat-clause-answered c = λ h k t told read.
    refused_so h t k c.args.pages.now EFAULT c.args.written.now.items told c.requires
    (tests_are h c.args.pages.now t c.args.saved.now read c.int_argument.result c.argument-at.result c.int_argument.ensures c.argument-at.ensures
    ∙ met _ _ (sym c.is_open.ensures ∙ c.if-not-is_open.false) ∙ unmet _ _ (sym c.can_write_stat.ensures ∙ c.if-not-can_write_stat.true))

pub returns-clause-answered : goal.returns-clause-answered
returns-clause-answered c = λ h k t told read.
    let m = c.args.pages.now in
    let m' = c.write_stat.new.pages in
    let ws : List Write = stat_written c.argument-at.result in
    let is : fstat h t ≡ stat_told h t c.argument-at.result =
    tests_are h m t c.args.saved.now read c.int_argument.result c.argument-at.result c.int_argument.ensures c.argument-at.ensures
    ∙ met _ _ (sym c.is_open.ensures ∙ c.if-not-is_open.false) ∙ met _ _ (sym c.can_write_stat.ensures ∙ c.if-not-can_write_stat.false) in
    let done = answered_wrote h t k m m' (Ok 0) ws told c.write_stat.ensures.entered in
    subst (λ (w : List Write). IsAnswered h t k m k m' w (Ok 0) (fstat h t)) (sym c.write_stat.ensures.told)
    (subst (λ (d : CallDone). IsAnswered h t k m k m' ws (Ok 0) d) (sym is) done)
