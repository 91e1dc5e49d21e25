-- What a visit changes (own).
use Rattle.std.specs.Prelude.{ℕ, false, ◌≡◌, ◌+◌, ◌++◌, ◌∷◌, [], List, Option, Some, None, length, max}
use Rattle.mach_types.specs.declared.events.Entry.{Entry}
use Rattle.mach_types.specs.declared.limits.End.{End}
use Rattle.found_outcomes.specs.declared.findings.OutcomeFound.{OutcomeFound}
use Rattle.place_search.specs.Ends.{AreNoted}
use Rattle.place_search.specs.Preemptions.{IsPut}
use Rattle.place_search.specs.declared.row.Row.{Row}
use Rattle.place_search.specs.declared.visited.Visited.{Visited}

-- nothing was visited but the first place, whose key isn't kept yet
pub record IsFirst (v : Visited) : Type 0 where
  pub rows : v.rows.items ≡ []
  pub keys : v.keys ≡ []
  pub outcomes : v.outcomes.items ≡ []
  pub deepest : v.deepest ≡ 0
  pub deep : v.deep ≡ false
  pub left_out : v.left_out ≡ false

pub record IsUnchanged (v v' : Visited) : Type 0 where
  pub rows : v'.rows.items ≡ v.rows.items
  pub keys : v'.keys ≡ v.keys
  pub outcomes : v'.outcomes.items ≡ v.outcomes.items
  pub deepest : v'.deepest ≡ v.deepest
  pub deep : v'.deep ≡ v.deep
  pub left_out : v'.left_out ≡ v.left_out

-- one place more, with the next number, whose log has so many entries
pub record IsAdded (row : Row) (key : List ℕ) (depth : ℕ) (v v' : Visited) : Type 0 where
  pub rows : v'.rows.items ≡ v.rows.items ++ row ∷ []
  pub keys : IsPut key (length v.rows.items + 1) v.keys v'.keys
  pub outcomes : v'.outcomes.items ≡ v.outcomes.items
  pub deepest : v'.deepest ≡ max v.deepest depth
  pub deep : v'.deep ≡ v.deep
  pub left_out : v'.left_out ≡ v.left_out

-- an end that a run may have come to is noted
abbrev pub IsEndNoted : Option End → List ℕ → List Entry → List OutcomeFound → List OutcomeFound → Type 0
IsEndNoted None console log os os' = os' ≡ os
IsEndNoted (Some end) console log os os' = AreNoted end console log os os'

pub record IsNoted (ended : Option End) (console : List ℕ) (log : List Entry) (v v' : Visited) : Type 0 where
  pub rows : v'.rows.items ≡ v.rows.items
  pub keys : v'.keys ≡ v.keys
  pub outcomes : IsEndNoted ended console log v.outcomes.items v'.outcomes.items
  pub deepest : v'.deepest ≡ v.deepest
  pub deep : v'.deep ≡ v.deep
  pub left_out : v'.left_out ≡ v.left_out
