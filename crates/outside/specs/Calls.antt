-- Calls that are told to fail, by their numbers, counted from 1. (own)
use Rattle.std.specs.Prelude.{ℕ, ◌==◌, Bool, List}
use Rattle.std.specs.List.{list_any}
use Rattle.outside.specs.Counts.{counted}

-- whether the next call fails, after so many calls
abbrev pub is_failing : List ℕ → ℕ → Bool
is_failing failing calls = list_any (λ k. k == counted calls) failing
