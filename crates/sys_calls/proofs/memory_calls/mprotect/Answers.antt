-- mprotect is refused, or gives pages another permission.
use Rattle.sys_calls.proofs.Common.{◌≡◌, [], Result, ℕ, subst, sym, ◌∙◌, Errno, IsRemapped, argument, mprotect}
use Rattle.sys_calls.proofs.GuestMemory.{argument_is}
use Rattle.sys_calls.proofs.PageCalls.{mprotect_made, mprotect_refused, passed_on, prot_from}
use Rattle.sys_calls.proofs.memory_calls.mprotect.Goals as goal

pub returns-in_err-protect-clause-remapped : goal.returns-in_err-protect-clause-remapped
returns-in_err-protect-clause-remapped c = λ h t has file.
    let prot : c.argument.result ≡ argument h t 2 = c.argument.ensures ∙ argument_is h t c.args.saved.now file 2 in
    let at : c.argument-2.result ≡ argument h t 0 = c.argument-2.ensures ∙ argument_is h t c.args.saved.now file 0 in
    let len : c.argument-3.result ≡ argument h t 1 = c.argument-3.ensures ∙ argument_is h t c.args.saved.now file 1 in
    subst (λ (x : Result ℕ Errno). IsRemapped h t c.args.pages.now c.protect.new.self [] x (mprotect h t)) (sym (passed_on c.from_residual.result c.in_err-protect.field-0.0 c.from_residual.ensures))
    (mprotect_refused h t c.args.pages.now c.protect.new.self has c.argument-2.result c.argument-3.result c.prot_of-prot.result
    (argument h t 0) (argument h t 1) (argument h t 2) at len (prot_from c.prot_of-prot.result c.argument.result (argument h t 2) prot c.prot_of-prot.ensures.same c.prot_of-prot.ensures.above)
    c.in_err-protect.field-0.0 c.in_err-protect.ensures.answer c.in_err-protect.ensures.refused)

pub returns-clause-remapped : goal.returns-clause-remapped
returns-clause-remapped c = λ h t has file.
    let prot : c.argument.result ≡ argument h t 2 = c.argument.ensures ∙ argument_is h t c.args.saved.now file 2 in
    let at : c.argument-2.result ≡ argument h t 0 = c.argument-2.ensures ∙ argument_is h t c.args.saved.now file 0 in
    let len : c.argument-3.result ≡ argument h t 1 = c.argument-3.ensures ∙ argument_is h t c.args.saved.now file 1 in
    let is = c.in_ok-protect.ensures in
    mprotect_made h t c.args.pages.now c.protect.new.self has c.argument-2.result c.argument-3.result c.prot_of-prot.result
    (argument h t 0) (argument h t 1) (argument h t 2) at len (prot_from c.prot_of-prot.result c.argument.result (argument h t 2) prot c.prot_of-prot.ensures.same c.prot_of-prot.ensures.above)
    c.in_ok-protect.field-0 is.answer is.permissions is.held is.free is.break_at is.break_start is.code
