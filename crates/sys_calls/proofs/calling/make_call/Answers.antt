-- The thread runs on its hart, and the tables agree once its call is made.
use Rattle.sys_calls.proofs.Common.{running_is, rules}
use Rattle.sys_calls.proofs.TablesAfterCalls.{agreed_made}
use Rattle.sys_calls.proofs.calling.make_call.Goals as goal

pub returns : goal.returns
returns c =
    let agreed = agreed_made c.args.kernel.now c.args.pages.now c.args.here c.args.running c.args.harts c.args.tid c.args.saved.now c.args.cid
    c.dispatch-end.new.kernel c.dispatch-end.new.pages c.dispatch-end.new.saved c.dispatch-end.result c.requires.running c.has_nothing_saved.ensures c.requires.runs
    c.requires.tables c.requires.areas c.requires.signals c.dispatch-end.ensures.made in
    record { made = search rules; table = search rules; tables = agreed.tables; signals = agreed.signals; areas = agreed.areas; written = search rules }

pub has_nothing_saved-requires : goal.has_nothing_saved-requires
has_nothing_saved-requires c =
    (c.args.here, running_is c.args.harts c.args.here.0 c.args.tid.0 c.args.kernel.now.threads.threads c.args.kernel.now.ready c.requires.tables c.requires.runs)
