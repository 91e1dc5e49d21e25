use Rattle.machine_lock.proofs.Laws.{adds_none}
use Rattle.hart_workers.proofs.turns.append_worked.Goals as goal

pub returns-in-None-clause-appended : goal.returns-in-None-clause-appended
returns-in-None-clause-appended g c = adds_none (g.M.Meaning.next (g.M.Meaning.setting c.args.machine.now)) c.args.hart (g.M.Meaning.log c.args.machine.now)
