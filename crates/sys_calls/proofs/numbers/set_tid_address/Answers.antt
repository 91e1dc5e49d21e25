-- Another address to clear, and an answer.
use Rattle.sys_calls.proofs.Common.{◌≡◌, [], refl, ap, ◌∙◌, Ok, Saved, argument, register, with_clear}
use Rattle.sys_calls.proofs.Laws.{holds_threads}
use Rattle.sys_calls.proofs.CallerTables.{cleared_runs}
use Rattle.sys_calls.proofs.numbers.set_tid_address.Goals as goal
use Rattle.sys_calls.proofs.CallAnswers.{answered_changed}
use Rattle.sys_calls.proofs.KernelWrites.{entered_none}

pub returns : goal.returns
returns c = record {
  answered = λ h m told read.
      let at : c.argument.result ≡ argument h c.args.tid.0 0 = c.argument.ensures ∙ ap (λ (f : Saved). register f.file 10) read.file in
      let ts = with_clear c.args.tid.0 (argument h c.args.tid.0 0) h.kernel.threads in
      answered_changed h c.args.tid.0 c.args.kernel.now (record c.args.kernel.now { threads = c.set_clear.new.self }) m m [] [] (Ok c.args.tid.0) (record h.kernel { threads = ts })
      (holds_threads told c.set_clear.new.self ts
      (c.set_clear.ensures.threads ∙ (λ i. with_clear c.args.tid.0 (at i) (told.threads i))))
      refl refl (cleared_runs h.hart c.args.tid.0 (argument h c.args.tid.0 0) h.kernel.threads) (entered_none m) refl c.set_clear.ensures.saved;
}
