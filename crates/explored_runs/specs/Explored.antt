-- What an exploration comes to (own): what is told of the runs of its seeds, in their order.
use Rattle.std.specs.Prelude.{ℕ, zero, suc, ◌≡◌, ◌≤◌, ◌<◌, ◌+◌, ◌⊎◌, true, false, List, length, Option, IfSome, slice_index_or}
use Rattle.block_model.specs.Setting.{Setting}
use Rattle.explored_runs.specs.declared.exploration.Exploration.{Exploration}
use Rattle.explored_runs.specs.declared.explored.Explored.{Explored}
use Rattle.explored_runs.specs.declared.made.Made.{Made}
use Rattle.explored_runs.specs.Accounts.{Account, IsWithin, account_of, has_enough, nothing, told}
use Rattle.explored_runs.specs.Made.{IsMadeAt}

-- one run more was told, that of this place, where as many outcomes as were asked for weren't found before it
pub record IsToldNext (s : Setting) (x : Exploration) (place : ℕ) (IsTold : Account → Type 0) (a : Account) : Type 0 where
  pub before : Account
  pub is_told : IsTold before
  pub wanted : has_enough x.until before ≡ false
  pub run : Made
  pub made : IsMadeAt s x place run
  pub counted : a ≡ told before run

-- this is told after the runs of the first places, so many
abbrev pub IsToldAfter : Setting → Exploration → ℕ → Account → Type 0
IsToldAfter s x zero a = a ≡ nothing
IsToldAfter s x (suc place) a = IsToldNext s x place (IsToldAfter s x place) a

-- on its way: no more runs were told than were asked for
pub record IsExploring (s : Setting) (x : Exploration) (a : Account) : Type 0 where
  pub told : IsToldAfter s x a.runs a
  pub within : IsWithin a
  pub few : a.runs ≤ x.runs

-- these runs were made of places one behind the other, from this one on; one may be absent
abbrev pub AreMadeFrom : Setting → Exploration → ℕ → List (Option Made) → Type 0
AreMadeFrom s x from round =
    (i : ℕ) (d : Option Made) → i < length round → IfSome (slice_index_or round i d) (IsMadeAt s x (from + i))

-- all runs that were asked for were told, or as many outcomes as were asked for were found
pub record IsExploredAs (s : Setting) (x : Exploration) (a : Account) : Type 0 where
  pub within : a.runs ≤ x.runs
  pub told : IsToldAfter s x a.runs a
  pub over : (a.runs ≡ x.runs) ⊎ (has_enough x.until a ≡ true)

abbrev pub IsExplored : Setting → Exploration → Explored → Type 0
IsExplored s x e = IsExploredAs s x (account_of e)
