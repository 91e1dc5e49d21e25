use Rattle.mach_types.specs.declared.events.Choice.{Choice}
use Rattle.local_steps.specs.Runs.{choices}
use Rattle.settled_places.proofs.Closed.{free_of_charge, without_budget}
use Rattle.settled_places.proofs.Runs.{block_ends, free_ends}
use Rattle.settled_places.proofs.theorems.settled_searches_are_complete.Goals as goal

pub returns-clause-free_runs : goal.returns-clause-free_runs
returns-clause-free_runs c = λ s signals threads private logs log e found run spoken over.
    free_ends s signals threads private (λ (c : Choice). 0) 0 logs (without_budget s signals threads private logs found) log e run spoken (free_of_charge (choices log)) over

pub returns-clause-block_runs : goal.returns-clause-block_runs
returns-clause-block_runs c = λ s signals threads private n logs log e found run spoken over.
    block_ends s signals threads private (λ (c : Choice). 0) 0 logs (without_budget s signals threads private logs found) n log e run spoken (free_of_charge (choices log)) over
