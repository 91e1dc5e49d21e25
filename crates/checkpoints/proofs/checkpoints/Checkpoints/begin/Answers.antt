use Rattle.block_model.proofs.Laws.{start_run}
use Rattle.checkpoints.specs.Programs.{setting_for}
use Rattle.checkpoints.proofs.checkpoints.Checkpoints.begin.Goals as goal

pub replay-requires-clause-run : goal.replay-requires-clause-run
replay-requires-clause-run c = start_run (setting_for c.args.program.now)
