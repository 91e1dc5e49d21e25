use Rattle.std.proofs.Common.{rules}
use Rattle.machine_lock.specs.Turnstiles.{origin_of, start_of}
use Rattle.hart_workers.proofs.GrowthLemmas.{grew_self, grew_on}
use Rattle.hart_workers.proofs.turns.drive_one.Goals as goal

pub loop-init : goal.loop-init
loop-init g c = (grew_self g.M.Meaning.setting g.M.Meaning.log g.M.Meaning.next (origin_of c.args.lock.now) c.args.pass.now, search rules)

pub returns-then-eq-clause-grew : goal.returns-then-eq-clause-grew
returns-then-eq-clause-grew g c = grew_on g.M.Meaning.setting g.M.Meaning.log g.M.Meaning.next (origin_of c.args.lock.now) c.args.pass.now c.loop.pass c.turn-advance.new.pass c.loop.invariant.0 c.turn-advance.ensures.grew

pub loop-preserved : goal.loop-preserved
loop-preserved g c = (
  grew_on g.M.Meaning.setting g.M.Meaning.log g.M.Meaning.next (origin_of c.args.lock.now) c.args.pass.now c.loop.pass c.turn-advance.new.pass c.loop.invariant.0 c.turn-advance.ensures.grew,
  c.work_on.ensures (start_of c.args.lock.now) c.args.hart c.turn-advance.new.pass.seen c.requires.code c.turn-advance.ensures.lent,
)
