use Rattle.settled_places.proofs.Runs.{block_ends, free_ends}
use Rattle.settled_places.proofs.theorems.settled_searches_within_budgets_are_complete.Goals as goal

pub returns-clause-free_runs : goal.returns-clause-free_runs
returns-clause-free_runs c = λ s signals threads private cost k logs log e found run spoken cheap over. free_ends s signals threads private cost k logs found log e run spoken cheap over

pub returns-clause-block_runs : goal.returns-clause-block_runs
returns-clause-block_runs c = λ s signals threads private cost k n logs log e found run spoken cheap over. block_ends s signals threads private cost k logs found n log e run spoken cheap over
