use Rattle.std.proofs.Common.{◌/◌, arith}
use Rattle.machine_lock.specs.Turnstiles.{origin_of}
use Rattle.hart_workers.proofs.GrowthLemmas.{grew_both}
use Rattle.hart_workers.proofs.workers.+halves.Goals as goal

pub drive_many-returns-clause-grew : goal.drive_many-returns-clause-grew
drive_many-returns-clause-grew g _ c =
    let s = c.split-other in
    let h = c.drive_halves in
    let j = c.join.ensures in
    grew_both g.M.Meaning.setting g.M.Meaning.log g.M.Meaning.next (origin_of c.args.lock.now) c.args.pass.now s.new.pass s.result h.new.pass h.new.other c.join.new.pass (c.args.count / 2) (grind arith) s.ensures.sound s.ensures.left s.ensures.given h.ensures.grew h.ensures.other_grew j.pass j.seen j.sound
