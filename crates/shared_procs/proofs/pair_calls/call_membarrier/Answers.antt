-- membarrier(2) as the definitions answer it beside another process.
use Rattle.shared_procs.proofs.Common.{not, sym, ap, ◌∙◌, answers, Done, done_of, half, here_two, setting, stand, Exec}
use Rattle.shared_procs.proofs.PairCalls.{barrier_called, barrier_hidden}
use Rattle.shared_procs.proofs.PairEvents.{unshared}
use Rattle.shared_procs.proofs.pair_calls.call_membarrier.Goals as goal

pub finish_call-requires : goal.finish_call-requires
finish_call-requires c =
    let has = c.requires.step in
    let s = has.setting in
    let m = has.pair in
    let p = has.process in
    let few = has.step.place.limits.eight_harts in
    record {
      stand = stand s m p;
      before = c.args.mine.now;
      done = answers (here_two s m p c.args.hart.0) has.step.thread c.command_two-outcome.result;
      called =
          barrier_called s m p c.args.hart c.args.mine.now c.args.other.now has.step c.saved_of-saved.result c.signed_argument-cmd.result
          c.signed_argument-cpu.result c.int_argument-flags.result c.threads_on-running.result c.threads_beside-beside.result c.len-harts.result
          (c.saved_of-saved.ensures (stand s m p) has.step.thread has.step.place has.step.at) c.signed_argument-cmd.ensures
          c.int_argument-flags.ensures c.signed_argument-cpu.ensures
          (c.threads_on-running.ensures (setting s p) (half p m) has.step.place.tied few)
          (c.threads_beside-beside.ensures (setting s (not p)) (half (not p) m) has.step.beside few)
          (c.len-harts.ensures ∙ c.args.mine.now.harts.ok.0 ∙ has.step.place.tied.all_harts) c.requires.number c.command_two-outcome.result c.command_two-outcome.new.mine
          c.end_command-end.new.saved c.end_command-end.result c.command_two-outcome.ensures.answer c.command_two-outcome.ensures.registered
          c.end_command-end.ensures.saved c.end_command-end.ensures.barrier c.end_command-end.ensures.answer c.end_command-end.ensures.stays
          c.end_command-end.ensures.runs_on c.end_command-end.ensures.ends;
    }

pub returns : goal.returns
returns c s m p step =
    let few = step.place.limits.eight_harts in
    let h = c.args.hart.0 in
    let a = c.command_two-outcome.result in
    let d = done_of Exec (here_two s m p h) in
    let called =
    barrier_called s m p c.args.hart c.args.mine.now c.args.other.now step c.saved_of-saved.result c.signed_argument-cmd.result
    c.signed_argument-cpu.result c.int_argument-flags.result c.threads_on-running.result c.threads_beside-beside.result c.len-harts.result
    (c.saved_of-saved.ensures (stand s m p) step.thread step.place step.at) c.signed_argument-cmd.ensures c.int_argument-flags.ensures
    c.signed_argument-cpu.ensures
    (c.threads_on-running.ensures (setting s p) (half p m) step.place.tied few)
    (c.threads_beside-beside.ensures (setting s (not p)) (half (not p) m) step.beside few)
    (c.len-harts.ensures ∙ c.args.mine.now.harts.ok.0 ∙ step.place.tied.all_harts) c.requires.number a c.command_two-outcome.new.mine c.end_command-end.new.saved
    c.end_command-end.result c.command_two-outcome.ensures.answer c.command_two-outcome.ensures.registered c.end_command-end.ensures.saved
    c.end_command-end.ensures.barrier c.end_command-end.ensures.answer c.end_command-end.ensures.stays c.end_command-end.ensures.runs_on
    c.end_command-end.ensures.ends in
    unshared s m p h d c.args.mine.now c.finish_call.new.self c.pass_by.new.self
    (c.finish_call.ensures (stand s m p) c.args.mine.now (answers (here_two s m p h) step.thread a) called)
    (barrier_hidden s m p c.args.hart c.args.mine.now c.args.other.now step a called.done)
    (c.pass_by.ensures (setting s (not p)) (half (not p) m) d step.beside (ap (λ (e : Done). e.took) called.done)
    (ap (λ (e : Done). e.barrier) called.done ∙ sym (c.end_command-end.ensures.barrier (here_two s m p h) step.thread)))
