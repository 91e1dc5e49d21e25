use Rattle.std.proofs.Common.{◌≡◌, ◌≤◌, ◌++◌, length, reverse}
use Rattle.place_search.specs.Logs.{log_at}
use Rattle.place_search.proofs.paths.log_of.Given as goal

-- the entries so far are the last of the log, the last one first
abbrev pub invariant-back : goal.invariant-back
invariant-back l = record { place : l.at ≤ length l.rows; path : log_at l.rows l.at ++ reverse l.log.items ≡ log_at l.rows l.fn.place }

abbrev pub decreases-back : goal.decreases-back
decreases-back l = l.at
