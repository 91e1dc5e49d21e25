use Rattle.machine_lock.specs.Turnstiles.{origin_of}
use Rattle.hart_workers.proofs.GrowthLemmas.{grew_looked}
use Rattle.hart_workers.proofs.workers.drive.Goals as goal

pub returns-clause-grew : goal.returns-clause-grew
returns-clause-grew g c = grew_looked g.M.Meaning.setting g.M.Meaning.log g.M.Meaning.next (origin_of c.args.lock.now) c.args.pass.now c.take_code.new.pass c.drive_many.new.pass c.take_code.ensures.looked c.drive_many.ensures.grew
