-- The break moves, or stays.
use Rattle.sys_calls.proofs.Common.{◌≡◌, ℕ, ap, ◌∙◌, break_run, argument, zeros_if_mapped}
use Rattle.sys_calls.proofs.GuestMemory.{argument_is}
use Rattle.sys_calls.proofs.PageCalls.{brk_remapped}
use Rattle.sys_calls.proofs.memory_calls.brk.Goals as goal

pub returns : goal.returns
returns c = record {
  remapped = λ h t has file.
      let at : c.argument.result ≡ argument h t 0 = c.argument.ensures ∙ argument_is h t c.args.saved.now file 0 in
      let is = c.move_break-to.ensures in
      brk_remapped h t c.args.pages.now c.move_break-to.new.self has c.argument.result (argument h t 0) at c.move_break-to.result c.tell_growth.new.written.items
      is.answer (c.tell_growth.ensures ∙ ap (λ (b : ℕ). zeros_if_mapped (break_run b c.move_break-to.result)) c.break_at-from.ensures) is.code
      is.break_at is.refused is.permissions is.held is.free is.break_start;
}
