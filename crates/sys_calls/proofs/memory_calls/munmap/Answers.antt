-- munmap is refused, or removes pages.
use Rattle.sys_calls.proofs.Common.{◌≡◌, ◌∙◌, argument}
use Rattle.sys_calls.proofs.GuestMemory.{argument_is}
use Rattle.sys_calls.proofs.PageCalls.{munmap_made}
use Rattle.sys_calls.proofs.memory_calls.munmap.Goals as goal

pub returns-clause-remapped : goal.returns-clause-remapped
returns-clause-remapped c = λ h t has file.
    let at : c.argument.result ≡ argument h t 0 = c.argument.ensures ∙ argument_is h t c.args.saved.now file 0 in
    let len : c.argument-2.result ≡ argument h t 1 = c.argument-2.ensures ∙ argument_is h t c.args.saved.now file 1 in
    let is = c.in_ok-unmap.ensures in
    munmap_made h t c.args.pages.now c.unmap.new.self has c.argument.result c.argument-2.result (argument h t 0) (argument h t 1) at len
    c.in_ok-unmap.field-0 is.answer is.permissions is.held is.free is.break_at is.break_start is.code
