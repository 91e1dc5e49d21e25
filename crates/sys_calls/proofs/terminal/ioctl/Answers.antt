-- The tests of the call, in their order; and the size is written.
use Rattle.sys_calls.proofs.Common.{◌≡◌, ℕ, Bool, not, eqb, List, [], ◌∷◌, ◌++◌, Ok, Err, sym, ap, subst, ◌∙◌, refl, eq-eqb, ne_eqb, EFAULT, CallDone, Errno, Errors, Here, HoldsTables, IsAnswered, IsRead, Kernel, Map, Saved, Write, can_write_in, double_written, each_byte, int_in, register, refused, said, unless}
use Rattle.mach_types.specs.declared.errors.TheConstants.{EBADF}
use Rattle.block_model.specs.Calls.Terminal.{ENOTTY, get_window_size, ioctl, is_open, window_size}
use Rattle.sys_calls.proofs.GuestMemory.{argument_is, int_argument_is, met, unmet}
use Rattle.sys_calls.proofs.CallAnswers.{answered_said, answered_wrote}
use Rattle.sys_calls.proofs.terminal.ioctl.Goals as goal

-- they are asked of the page map and of the registers
abbrev tests : (ℕ → Bool) → ℕ → ℕ → ℕ → Errors
tests can fd request at = (not (is_open fd), EBADF) ∷ (not (eqb request get_window_size), ENOTTY) ∷ (not (each_byte can at 8), EFAULT) ∷ []

abbrev size_told : Here → ℕ → ℕ → CallDone
size_told h t at = record (said h t 0) { entered = double_written at window_size ∷ [] }

tests_are : (h : Here) (m : Map) (t : ℕ) (saved : Saved) → IsRead h m t saved → (fd request at : ℕ) → fd ≡ int_in saved 0 → request ≡ int_in saved 1
    → at ≡ register saved.file 12 → ioctl h t ≡ unless h t (tests (can_write_in m) fd request at) (size_told h t at)
tests_are h m t saved read fd request at p q r =
    let fd_is = p ∙ int_argument_is h t saved read.file 0 in
    let request_is = q ∙ int_argument_is h t saved read.file 1 in
    let at_is = r ∙ argument_is h t saved read.file 2 in
    sym (λ i. unless h t (tests (read.writable i) (fd_is i) (request_is i) (at_is i)) (size_told h t (at_is i)))

-- a refusal writes nothing
refused_so : (h : Here) (t : ℕ) (k : Kernel) (m : Map) (e : Errno) (ws : List Write) → HoldsTables k h.kernel → ws ≡ []
    → ioctl h t ≡ refused h t e → IsAnswered h t k m k m ws (Err e) (ioctl h t)
refused_so h t k m e ws told fresh is =
    subst (λ (w : List Write). IsAnswered h t k m k m w (Err e) (ioctl h t)) (sym fresh) (answered_said h t k m (Err e) (ioctl h t) told is)

pub returns-then-not-is_open-clause-answered : goal.returns-then-not-is_open-clause-answered
returns-then-not-is_open-clause-answered c = λ h k t told read.
    let saved = c.args.saved.now in
    refused_so h t k c.args.pages.now EBADF c.args.written.now.items told c.requires
    (tests_are h c.args.pages.now t saved read c.int_argument.result (int_in saved 1) c.argument-at.result c.int_argument.ensures refl c.argument-at.ensures
    ∙ unmet _ _ (sym c.is_open.ensures ∙ c.if-not-is_open.true))

pub returns-then-int_argument-ne-TIOCGWINSZ-clause-answered : goal.returns-then-int_argument-ne-TIOCGWINSZ-clause-answered
returns-then-int_argument-ne-TIOCGWINSZ-clause-answered c = λ h k t told read.
    refused_so h t k c.args.pages.now ENOTTY c.args.written.now.items told c.requires
    (tests_are h c.args.pages.now t c.args.saved.now read c.int_argument.result c.int_argument-2.result c.argument-at.result
    c.int_argument.ensures c.int_argument-2.ensures c.argument-at.ensures
    ∙ met _ _ (sym c.is_open.ensures ∙ c.if-not-is_open.false)
    ∙ unmet _ _ (ne_eqb c.int_argument-2.result get_window_size c.if-int_argument-ne-TIOCGWINSZ.true))

pub returns-then-not-writable-clause-answered : goal.returns-then-not-writable-clause-answered
returns-then-not-writable-clause-answered c = λ h k t told read.
    refused_so h t k c.args.pages.now EFAULT c.args.written.now.items told c.requires
    (tests_are h c.args.pages.now t c.args.saved.now read c.int_argument.result c.int_argument-2.result c.argument-at.result
    c.int_argument.ensures c.int_argument-2.ensures c.argument-at.ensures
    ∙ met _ _ (sym c.is_open.ensures ∙ c.if-not-is_open.false)
    ∙ met _ _ (eq-eqb c.int_argument-2.result get_window_size c.if-int_argument-ne-TIOCGWINSZ.false)
    ∙ unmet _ _ (sym c.writable.ensures ∙ c.if-not-writable.true))

pub returns-clause-answered : goal.returns-clause-answered
returns-clause-answered c = λ h k t told read.
    let m = c.args.pages.now in
    let m' = c.write_double.new.pages in
    let ws : List Write = double_written c.argument-at.result window_size ∷ [] in
    let is : ioctl h t ≡ size_told h t c.argument-at.result =
    tests_are h m t c.args.saved.now read c.int_argument.result c.int_argument-2.result c.argument-at.result
    c.int_argument.ensures c.int_argument-2.ensures c.argument-at.ensures
    ∙ met _ _ (sym c.is_open.ensures ∙ c.if-not-is_open.false)
    ∙ met _ _ (eq-eqb c.int_argument-2.result get_window_size c.if-int_argument-ne-TIOCGWINSZ.false)
    ∙ met _ _ (sym c.writable.ensures ∙ c.if-not-writable.false) in
    let done = answered_wrote h t k m m' (Ok 0) ws told c.write_double.ensures.entered in
    subst (λ (w : List Write). IsAnswered h t k m k m' w (Ok 0) (ioctl h t)) (sym (c.write_double.ensures.told ∙ ap (λ (w : List Write). w ++ ws) c.requires))
    (subst (λ (d : CallDone). IsAnswered h t k m k m' ws (Ok 0) d) (sym is) done)
