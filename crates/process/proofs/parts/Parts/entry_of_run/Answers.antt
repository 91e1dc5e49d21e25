-- The entry of a thread that may begin to run.
use Rattle.process.proofs.RunEvent.{starter_is_saved}
use Rattle.process.proofs.parts.Parts.entry_of_run.Goals as goal

pub unreachable-requires : goal.unreachable-requires
unreachable-requires c = starter_is_saved c.requires.stand c.args.self.now c.args.hart c.args.tid c.requires.place c.requires.free c.saved.result c.saved.ensures c.in_default.is
