-- The test of the call; and the names are written.
use Rattle.sys_calls.proofs.Common.{◌≡◌, ℕ, Bool, not, cond, [], ◌∷◌, Ok, Err, sym, ap, subst, ◌∙◌, EFAULT, CallDone, Errors, Here, IsAnswered, IsRead, Map, Saved, Write, List, can_write_in, register, said, unless}
use Rattle.block_model.specs.Calls.System.{names_size, names_written, uname}
unfoldable use Rattle.sys_calls.specs.Asked.{pass_bytes}
use Rattle.sys_calls.proofs.GuestMemory.{argument_is, met, unmet}
use Rattle.sys_calls.proofs.CallAnswers.{answered_said, answered_wrote}
use Rattle.sys_calls.proofs.system.uname.Goals as goal

-- it is asked of the page map and of the registers
abbrev tests : (ℕ → Bool) → ℕ → Errors
tests can at = (not (pass_bytes names_size can at), EFAULT) ∷ []

abbrev names_told : Here → ℕ → ℕ → CallDone
names_told h t at = record (said h t 0) { entered = names_written at }

tests_are : (h : Here) (m : Map) (t : ℕ) (saved : Saved) → IsRead h m t saved → (at : ℕ) → at ≡ register saved.file 10
    → uname h t ≡ unless h t (tests (can_write_in m) at) (names_told h t at)
unfolding pass_bytes
tests_are h m t saved read at p =
    let at_is = p ∙ argument_is h t saved read.file 0 in
    sym (λ i. unless h t (tests (read.writable i) (at_is i)) (names_told h t (at_is i)))

pub returns-then-not-can_write_names-clause-answered : goal.returns-then-not-can_write_names-clause-answered
returns-then-not-can_write_names-clause-answered c = λ h k t told read.
    let m = c.args.pages.now in
    let is = tests_are h m t c.args.saved.now read c.argument-at.result c.argument-at.ensures ∙ unmet _ _ (sym c.can_write_names.ensures ∙ c.if-not-can_write_names.true) in
    subst (λ (w : List Write). IsAnswered h t k m k m w (Err EFAULT) (uname h t)) (sym c.requires) (answered_said h t k m (Err EFAULT) (uname h t) told is)

pub returns-clause-answered : goal.returns-clause-answered
returns-clause-answered c = λ h k t told read.
    let m = c.args.pages.now in
    let m' = c.write_names.new.pages in
    let ws : List Write = names_written c.argument-at.result in
    let is : uname h t ≡ names_told h t c.argument-at.result =
    tests_are h m t c.args.saved.now read c.argument-at.result c.argument-at.ensures ∙ met _ _ (sym c.can_write_names.ensures ∙ c.if-not-can_write_names.false) in
    let done = answered_wrote h t k m m' (Ok 0) ws told c.write_names.ensures.entered in
    subst (λ (w : List Write). IsAnswered h t k m k m' w (Ok 0) (uname h t)) (sym c.write_names.ensures.told)
    (subst (λ (d : CallDone). IsAnswered h t k m k m' ws (Ok 0) d) (sym is) done)
