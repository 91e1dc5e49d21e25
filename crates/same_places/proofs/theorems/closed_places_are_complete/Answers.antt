use Rattle.same_places.specs.Closed.{after_logs}
use Rattle.same_places.proofs.Ends.{block_outcome, free_outcome, sound_outcome}
use Rattle.same_places.proofs.theorems.closed_places_are_complete.Goals as goal

pub returns-clause-free_runs : goal.returns-clause-free_runs
returns-clause-free_runs c = λ s logs log e. free_outcome s (after_logs s logs) log e

pub returns-clause-block_runs : goal.returns-clause-block_runs
returns-clause-block_runs c = λ s n logs log e. block_outcome s n (after_logs s logs) log e

pub returns-clause-sound : goal.returns-clause-sound
returns-clause-sound c = sound_outcome
