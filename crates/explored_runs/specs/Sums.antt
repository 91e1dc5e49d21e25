-- What is said of all that is told (own): how many runs that is, and that no outcome is told twice.
use Rattle.std.specs.Prelude.{ℕ, ◌≡◌, ◌+◌, List, [], ◌∷◌, Option, Some, None, AllPairs}
use Rattle.explored_runs.specs.declared.explored.Found.{Found}
use Rattle.explored_runs.specs.declared.explored.Others.{Others}

-- how many runs came to the outcomes that were found
abbrev pub runs_of : List Found → ℕ
runs_of [] = 0
runs_of (f ∷ found) = f.runs + runs_of found

-- and how many to others
abbrev pub other_runs : Option Others → ℕ
other_runs None = 0
other_runs (Some others) = others.runs

-- no two have the same console and the same end
abbrev pub AreDifferent : List Found → Type 0
AreDifferent found = AllPairs (λ (f g : Found). f.console ≡ g.console → f.end ≡ g.end → ⊥) found
