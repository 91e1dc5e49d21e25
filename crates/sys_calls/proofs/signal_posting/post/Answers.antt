-- The signal is posted; a wait that it breaks is answered, and the thread is ready.
use Rattle.sys_calls.proofs.Common.{refl, ap, ◌∙◌, waits, Waiting, OnTrue_at}
use Rattle.sys_calls.proofs.SignalPosting.{answered_broken, answered_posted, vain_as}
use Rattle.sys_calls.proofs.ThreadSignals.{held_as_live, signals_held, tids, tids_posted}
use Rattle.sys_calls.proofs.CallerTables.{unlisted}
use Rattle.sys_calls.proofs.signal_posting.post.Goals as goal

pub post-requires-clause-held : goal.post-requires-clause-held
post-requires-clause-held c = signals_held c.args.to.0 c.args.kernel.now c.requires.signals c.requires.live

pub waits_in_vain-requires : goal.waits_in_vain-requires
waits_in_vain-requires c =
    let alike = ap tids c.post.ensures ∙ tids_posted c.args.to.0 c.args.sig c.args.kernel.now.signals ∙ c.requires.signals in
    record { held = held_as_live c.args.to.0 c.args.kernel.now.threads.threads c.post.new.self alike ∙ c.requires.live }

pub push-requires-clause-not_ready : goal.push-requires-clause-not_ready
push-requires-clause-not_ready c =
    let waiting : waits c.args.kernel.now.threads.threads c.args.to.0 = OnTrue_at c.if-waits_in_vain.true c.waits_in_vain.ensures.waits in
    unlisted c.args.to.0 c.args.kernel.now (Waiting waiting.0) c.requires.tables waiting.1 refl

pub returns-then-waits_in_vain : goal.returns-then-waits_in_vain
returns-then-waits_in_vain c = record {
  answered = λ h t m told.
      let k = c.args.kernel.now in
      let u = c.args.to.0 in
      let waiting : waits k.threads.threads u = OnTrue_at c.if-waits_in_vain.true c.waits_in_vain.ensures.waits in
      let vain = vain_as h u c.args.sig k c.post.new.self c.waits_in_vain.result told c.post.ensures c.waits_in_vain.ensures.answer ∙ c.if-waits_in_vain.true in
      answered_broken h t u c.args.sig k c.break_wait.new.self c.post.new.self c.push.new.self m told c.requires.tables waiting
      c.break_wait.ensures.threads c.break_wait.ensures.saved c.post.ensures c.push.ensures vain;
}

pub returns-else-waits_in_vain : goal.returns-else-waits_in_vain
returns-else-waits_in_vain c = record {
  answered = λ h t m told.
      let k = c.args.kernel.now in
      let u = c.args.to.0 in
      let sig = c.args.sig in
      let not_vain = vain_as h u sig k c.post.new.self c.waits_in_vain.result told c.post.ensures c.waits_in_vain.ensures.answer ∙ c.if-waits_in_vain.false in
      answered_posted h t u sig k c.post.new.self m told c.post.ensures not_vain;
}
