-- The command is asked for by the registers.
use Rattle.sys_calls.proofs.Common.{answers, Answer, ◌≡◌, ◌<◌, ◌%◌, ℕ, ℤ, sym, ap, ◌∙◌, arith, to_z, of_z, of_z-to_z, command, signed_32, argument, int_argument, running_harts, IsMade, subst, registered_after, w32}
use Rattle.sys_calls.proofs.Barriers.{answer_asked, made_answers, registered_then}
use Rattle.sys_calls.proofs.GuestMemory.{argument_is, int_argument_is}
use Rattle.sys_calls.proofs.barrier_call.membarrier.Goals as goal

-- 32 bits that are read as a signed number, written and read again
again : (z : ℤ) (n : ℕ) → z ≡ signed_32 n → to_z w32 (of_z w32 z) ≡ signed_32 n
again z n is =
    let fits : n % 4294967296 < 4294967296 = omega arith in
    ap (to_z w32) (ap (of_z w32) is ∙ of_z-to_z w32 (n % 4294967296) fits)

pub returns : goal.returns
returns c = record {
  made = λ h m hart count busy told has file.
      let t = c.args.caller.tid.0 in
      let k = c.args.kernel.now in
      let cmd : to_z w32 (of_z w32 c.signed_argument-cmd.result) ≡ signed_32 (argument h t 0) =
      again c.signed_argument-cmd.result (argument h t 0) (c.signed_argument-cmd.ensures ∙ ap signed_32 (argument_is h t c.args.saved.now file 0)) in
      let flags : c.int_argument-flags.result ≡ int_argument h t 1 = c.int_argument-flags.ensures ∙ int_argument_is h t c.args.saved.now file 1 in
      let cpu : to_z w32 (of_z w32 c.signed_argument-cpu.result) ≡ signed_32 (argument h t 2) =
      again c.signed_argument-cpu.result (argument h t 2) (c.signed_argument-cpu.ensures ∙ ap signed_32 (argument_is h t c.args.saved.now file 2)) in
      let here : c.args.caller.here.0 ≡ h.hart = sym hart in
      let set : c.args.caller.running ≡ running_harts h.kernel.threads h.setting.limits.harts = sym busy in
      let many : c.args.caller.harts ≡ h.setting.limits.harts = sym count in
      let is : c.command-outcome.result ≡ answer_asked h t =
      c.command-outcome.ensures.answer ∙ (λ i. command (told.barriers i) (cmd i) (flags i) (cpu i) (here i) (set i) (many i)) in
      let after : c.command-outcome.new.regs ≡ registered_after h.kernel.barriers (signed_32 (argument h t 0)) (int_argument h t 1) =
      c.command-outcome.ensures.registered ∙ (λ i. registered_after (told.barriers i) (cmd i) (flags i)) in
      subst (λ (a : Answer). IsMade h t k m (record k { registered = c.command-outcome.new.regs }) m c.end_command.new.saved c.end_command.result (answers h t a)) is
      (made_answers h t c.args.caller.here.0 k c.command-outcome.new.regs m c.end_command.new.saved c.end_command.result c.command-outcome.result hart told has c.requires
      (registered_then h t c.command-outcome.new.regs c.command-outcome.result is after) (c.end_command.ensures.saved h t file) (c.end_command.ensures.barrier h t) c.end_command.ensures.answer c.end_command.ensures.stays c.end_command.ensures.runs_on c.end_command.ensures.ends);
}
