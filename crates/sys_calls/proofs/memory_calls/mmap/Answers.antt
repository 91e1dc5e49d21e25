-- mmap is refused, or maps pages.
use Rattle.sys_calls.proofs.Common.{◌≡◌, ℕ, ◌/◌, [], ◌∷◌, Ok, Err, Result, None, subst, sym, ◌∙◌, Errno, IsRemapped, argument, mmap, run, zeros_of}
use Rattle.sys_calls.proofs.GuestMemory.{argument_is}
use Rattle.sys_calls.proofs.PageCalls.{mmap_made, mmap_past_flags, mmap_refused, passed_on, prot_from}
use Rattle.sys_calls.proofs.memory_calls.mmap.Goals as goal

pub returns-in_err-at-clause-remapped : goal.returns-in_err-at-clause-remapped
returns-in_err-at-clause-remapped c = λ h t has file.
    let len : c.argument-len.result ≡ argument h t 1 = c.argument-len.ensures ∙ argument_is h t c.args.saved.now file 1 in
    let flags : c.argument.result ≡ argument h t 3 = c.argument.ensures ∙ argument_is h t c.args.saved.now file 3 in
    let prot : c.argument-prot.result ≡ argument h t 2 = c.argument-prot.ensures ∙ argument_is h t c.args.saved.now file 2 in
    subst (λ (x : Result ℕ Errno). IsRemapped h t c.args.pages.now c.map.new.self c.args.written.now.items x (mmap h t)) (sym (passed_on c.from_residual.result c.in_err-at.field-0.0 c.from_residual.ensures))
    (mmap_past_flags h t c.args.pages.now c.map.new.self c.args.written.now.items (Err c.in_err-at.field-0.0) c.argument.result flags
    (sym c.are_mapping_flags.ensures ∙ c.if-not-are_mapping_flags.false)
    (mmap_refused h t c.args.pages.now c.map.new.self has c.argument-len.result c.prot_of.result (argument h t 1) (argument h t 2) len
    (prot_from c.prot_of.result c.argument-prot.result (argument h t 2) prot c.prot_of.ensures.same c.prot_of.ensures.above)
    c.in_err-at.field-0.0 c.args.written.now.items c.requires.fresh c.in_err-at.ensures.answer c.in_err-at.ensures.refused))

pub returns-clause-remapped : goal.returns-clause-remapped
returns-clause-remapped c = λ h t has file.
    let len : c.argument-len.result ≡ argument h t 1 = c.argument-len.ensures ∙ argument_is h t c.args.saved.now file 1 in
    let flags : c.argument.result ≡ argument h t 3 = c.argument.ensures ∙ argument_is h t c.args.saved.now file 3 in
    let prot : c.argument-prot.result ≡ argument h t 2 = c.argument-prot.ensures ∙ argument_is h t c.args.saved.now file 2 in
    let is = c.in_ok-at.ensures in
    mmap_past_flags h t c.args.pages.now c.map.new.self c.tell_zeros.new.written.items (Ok c.in_ok-at.at) c.argument.result flags
    (sym c.are_mapping_flags.ensures ∙ c.if-not-are_mapping_flags.false)
    (mmap_made h t c.args.pages.now c.map.new.self has c.argument-len.result c.prot_of.result (argument h t 1) (argument h t 2) len
    (prot_from c.prot_of.result c.argument-prot.result (argument h t 2) prot c.prot_of.ensures.same c.prot_of.ensures.above)
    c.in_ok-at.at c.tell_zeros.new.written.items is.answer
    (c.tell_zeros.ensures None ∙ (λ i. zeros_of (run (c.in_ok-at.at / 4096) (c.pages_of.ensures i) None) ∷ []))
    is.permissions is.held is.free is.break_at is.break_start is.code)
