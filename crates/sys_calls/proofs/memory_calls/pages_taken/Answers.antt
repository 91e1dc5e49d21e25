-- A call that removes pages, protects them, or gives advice about them.
use Rattle.sys_calls.proofs.Common.{◌≡◌, ℕ, ◌%◌, ◌^◌, Some, None, ap, sym, ◌∙◌, register, PageRun, is_in, permission_for, argument, call_number, int_argument}
use Rattle.mach_types.specs.declared.registers.Regs.{Regs}
use Rattle.sys_calls.proofs.AdviceCalls.{taken_advising}
use Rattle.sys_calls.proofs.PageCalls.{prot_from, taken_protecting, taken_unmapping}
use Rattle.sys_calls.proofs.memory_calls.pages_taken.Goals as goal

pub returns-in-215 : goal.returns-in-215
returns-in-215 c = λ h t has file n.
    let at : c.get-at.result ≡ argument h t 0 = c.get-at.ensures ∙ ap (λ (f : Regs). register f 10) file in
    let len : c.get-len.result ≡ argument h t 1 = c.get-len.ensures ∙ ap (λ (f : Regs). register f 11) file in
    let number : c.get.result ≡ call_number h t = c.get.ensures ∙ ap (λ (f : Regs). register f 17) file in
    c.unless_refused.ensures None n
    ∙ ap (λ (r : PageRun). is_in r n)
    (taken_unmapping h t c.args.pages.now has c.get-at.result c.get-len.result at len c.unmap_refusal.result c.unmap_refusal.ensures (sym number ∙ c.in-215.is))

pub returns-in-226 : goal.returns-in-226
returns-in-226 c = λ h t has file n.
    let at : c.get-at.result ≡ argument h t 0 = c.get-at.ensures ∙ ap (λ (f : Regs). register f 10) file in
    let len : c.get-len.result ≡ argument h t 1 = c.get-len.ensures ∙ ap (λ (f : Regs). register f 11) file in
    let prot : c.get-in-226.result ≡ argument h t 2 = c.get-in-226.ensures ∙ ap (λ (f : Regs). register f 12) file in
    let number : c.get.result ≡ call_number h t = c.get.ensures ∙ ap (λ (f : Regs). register f 17) file in
    c.unless_refused-in-226.ensures (Some (permission_for (argument h t 2))) n
    ∙ ap (λ (r : PageRun). is_in r n)
    (taken_protecting h t c.args.pages.now has c.get-at.result c.get-len.result c.prot_of-prot.result at len
    (prot_from c.prot_of-prot.result c.get-in-226.result (argument h t 2) prot c.prot_of-prot.ensures.same c.prot_of-prot.ensures.above)
    c.protect_refusal.result c.protect_refusal.ensures (sym number ∙ c.in-226.is))

pub returns-in-233 : goal.returns-in-233
returns-in-233 c = λ h t has file n.
    let at : c.get-at.result ≡ argument h t 0 = c.get-at.ensures ∙ ap (λ (f : Regs). register f 10) file in
    let len : c.get-len.result ≡ argument h t 1 = c.get-len.ensures ∙ ap (λ (f : Regs). register f 11) file in
    let advice : c.low_half.result ≡ int_argument h t 2 =
    c.low_half.ensures ∙ ap (λ (n : ℕ). n % 2 ^ 32) (c.get-in-233.ensures ∙ ap (λ (f : Regs). register f 12) file) in
    let number : c.get.result ≡ call_number h t = c.get.ensures ∙ ap (λ (f : Regs). register f 17) file in
    c.pages_dropped.ensures n
    ∙ ap (λ (r : PageRun). is_in r n)
    (taken_advising h t c.args.pages.now has c.get-at.result c.get-len.result c.low_half.result at len advice (sym number ∙ c.in-233.is))
