-- Deciles of what was counted (own): of a sorted list that is told by how often each number from 0 on is in it.
use Rattle.std.specs.Prelude.{ℕ, ◌+◌, ◌-◌, ◌*◌, ◌/◌, ◌==◌, List, [], ◌∷◌, map, nat_lt, sum, if◌then◌else◌}
use Rattle.explored_runs.specs.declared.deciles.TheConstants.{TENTHS}

-- the number at a place of the list, from 0 on, where the counts are those of the numbers from k on
abbrev pub number_at : ℕ → ℕ → List ℕ → ℕ
number_at k place [] = k
number_at k place (count ∷ counts) = if nat_lt place count then k else number_at (k + 1) (place - count) counts

-- the decile of so many tenths: of n numbers that at the place (n - 1) * tenths / 10, rounded down
abbrev pub decile : List ℕ → ℕ → ℕ
decile counts tenths = number_at 0 ((sum counts - 1) * tenths / 10) counts

-- the least, those of one to nine tenths, and the greatest; none of an empty list
abbrev pub deciles : List ℕ → List ℕ
deciles counts =
    if sum counts == 0 then []
    else map (decile counts) TENTHS
