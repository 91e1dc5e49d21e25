-- The thread that waited is held, and isn't ready.
use Rattle.sys_calls.proofs.Common.{◌≡◌, sym, Some, refl, Waiting, longest_waiter, waits, longest_waits}
use Rattle.kernel_threads.specs.Table.{hears_saved}
use Rattle.sys_calls.proofs.CallerTables.{held_live, live_in, unlisted}
use Rattle.sys_calls.proofs.waking.wake_one.Goals as goal

pub push-requires-clause-held : goal.push-requires-clause-held
push-requires-clause-held c =
    let ts = c.args.kernel.now.threads.threads in
    let longest : longest_waiter c.args.at (hears_saved c.args.mask c.args.kernel.now.threads.saved) ts ≡ Some c.in_ok-tid.tid.0 = sym c.in_ok-tid.ensures.longest in
    let waiting : waits ts c.in_ok-tid.tid.0 = longest_waits c.args.at (hears_saved c.args.mask c.args.kernel.now.threads.saved) ts c.in_ok-tid.tid.0 longest in
    held_live c.in_ok-tid.tid.0 c.args.kernel.now c.requires.tables (live_in c.in_ok-tid.tid.0 ts (Waiting waiting.0) waiting.1)

pub push-requires-clause-not_ready : goal.push-requires-clause-not_ready
push-requires-clause-not_ready c =
    let ts = c.args.kernel.now.threads.threads in
    let longest : longest_waiter c.args.at (hears_saved c.args.mask c.args.kernel.now.threads.saved) ts ≡ Some c.in_ok-tid.tid.0 = sym c.in_ok-tid.ensures.longest in
    let waiting : waits ts c.in_ok-tid.tid.0 = longest_waits c.args.at (hears_saved c.args.mask c.args.kernel.now.threads.saved) ts c.in_ok-tid.tid.0 longest in
    unlisted c.in_ok-tid.tid.0 c.args.kernel.now (Waiting waiting.0) c.requires.tables waiting.1 refl
