-- The next number is new.
use Rattle.sys_calls.proofs.Common.{◌<◌, length, sym, ◌∙◌, inl, inr, arith, cases_lt, false≢true, le-leb}
use Rattle.sys_calls.proofs.Children.{next_not_held, next_unlisted}
use Rattle.sys_calls.proofs.ThreadSignals.{as_many_signalled, next_not_signalled, signals_held}
use Rattle.sys_calls.proofs.cloning.add_child.Goals as goal

pub add-requires-clause-not_held : goal.add-requires-clause-not_held
add-requires-clause-not_held c = next_not_held c.args.tid.0 c.in_ok-child.child.0 c.args.kernel.now c.requires.tables c.requires.room c.in_ok-child.ensures.number

pub push-requires-clause-not_ready : goal.push-requires-clause-not_ready
push-requires-clause-not_ready c = next_unlisted c.args.tid.0 c.in_ok-child.child.0 c.args.kernel.now c.add.new.self c.requires.tables c.in_ok-child.ensures.number c.add.ensures

pub add-requires-2-clause-parent : goal.add-requires-2-clause-parent
add-requires-2-clause-parent c = signals_held c.args.tid.0 c.args.kernel.now c.requires.signals c.requires.live

pub add-requires-2-clause-not_held : goal.add-requires-2-clause-not_held
add-requires-2-clause-not_held c =
    next_not_signalled c.in_ok-child.child.0 c.args.kernel.now c.requires.tables.1.threads c.requires.signals c.in_ok-child.ensures.number

pub add-requires-2-clause-room : goal.add-requires-2-clause-room
add-requires-2-clause-room c =
    let k = c.args.kernel.now in
    let few : length k.threads.threads.live < 64 = elim (cases_lt (length k.threads.threads.live) 64) [
      | inl lt ↦ lt
      | inr le ↦ absurd (false≢true (sym c.requires.room ∙ le-leb 64 (length k.threads.threads.live) le))
    ] in
    omega (arith, few, as_many_signalled k.threads.threads k.signals c.requires.signals)
