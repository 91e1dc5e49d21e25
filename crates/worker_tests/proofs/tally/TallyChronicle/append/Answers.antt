use Rattle.mach_types.specs.declared.events.Advance.TheVariants.{Ended, Made, NoneNow}
use Rattle.worker_tests.specs.Tallies.{next_of, ended_of}
use Rattle.machine_lock.proofs.Laws.{adds_none}
use Rattle.worker_tests.proofs.TallyLemmas.{adds_as}
use Rattle.worker_tests.proofs.tally.TallyChronicle.append.Goals as goal

pub returns-then-not-stretch-clause-appended : goal.returns-then-not-stretch-clause-appended
returns-then-not-stretch-clause-appended c = adds_none (next_of c.args.self.now.total c.args.self.now.harts) c.args.hart c.args.self.now.entries.items

pub returns-in-Made-clause-appended : goal.returns-in-Made-clause-appended
returns-in-Made-clause-appended c =
    adds_as (next_of c.args.self.now.total c.args.self.now.harts) (ended_of c.args.self.now.total) c.args.hart _ _ _ (Made c.in-Made.field-0) c.in-Made.is c.advance.ensures.advanced

pub returns-in-NoneNow-clause-appended : goal.returns-in-NoneNow-clause-appended
returns-in-NoneNow-clause-appended c =
    adds_as (next_of c.args.self.now.total c.args.self.now.harts) (ended_of c.args.self.now.total) c.args.hart _ _ _ NoneNow c.in-NoneNow.is c.advance.ensures.advanced

pub returns-in-Ended-clause-appended : goal.returns-in-Ended-clause-appended
returns-in-Ended-clause-appended c =
    adds_as (next_of c.args.self.now.total c.args.self.now.harts) (ended_of c.args.self.now.total) c.args.hart _ _ _ Ended c.in-Ended.is c.advance.ensures.advanced
