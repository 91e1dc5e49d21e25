-- A call and its count.
use Rattle.process.proofs.Common.{rules}
use Rattle.process.proofs.parts.Parts.make_call.Goals as goal

pub count-requires : goal.count-requires
count-requires c = (c.call_with_writes-written.ensures.made c.requires.stand c.requires.place c.requires.plan).room

pub returns-clause-after : goal.returns-clause-after
returns-clause-after c v place plan =
    (c.call_with_writes-written.ensures.made v place plan).after c.count.new.self (search rules)
