-- How many preemptions the logs of places have, where their number is limited (own).
use Rattle.std.specs.Prelude.{ℕ, ◌≡◌, ◌≤◌, ◌+◌, ◌⊎◌, Bool, false, List, ◌∷◌, map, All, Option, Some, None, if◌then◌else◌, nat_le, slice_index_or, bytes_eq}
use Rattle.std.specs.Map.{lookup}
use Rattle.mach_types.specs.declared.events.Choice.{Choice}
use Rattle.mach_types.specs.declared.events.Entry.{Entry}
use Rattle.settled_places.specs.Budgets.{preempt_cost, spent}
use Rattle.place_search.specs.Logs.{logs_of}
use Rattle.place_search.specs.declared.row.Row.{Row}

-- what a choice costs: a preemption 1 where so many are allowed, and else nothing
abbrev pub cost_of : Option ℕ → Choice → ℕ
cost_of None c = 0
cost_of (Some limit) c = preempt_cost c

-- how much a log may cost
abbrev pub budget_of : Option ℕ → ℕ
budget_of None = 0
budget_of (Some limit) = limit

-- what is kept of each place, by its number; of the first one nothing is
abbrev pub kept_of : List Row → List ℕ
kept_of rows = 0 ∷ map (λ (row : Row). row.preemptions) rows

abbrev pub kept_at : List Row → ℕ → ℕ
kept_at rows place = slice_index_or (kept_of rows) place 0

-- it is what the logs cost, which is never above the budget
pub record ArePaid (cost : Choice → ℕ) (budget : ℕ) (rows : List Row) : Type 0 where
  pub kept : map (spent cost) (logs_of rows) ≡ kept_of rows
  pub few : All (λ n. n ≤ budget) (kept_of rows)

-- what a log that costs so much costs with one choice more; none where that is above the budget
abbrev pub paid_with : Option ℕ → ℕ → Choice → Option ℕ
paid_with limit n c =
    if nat_le (n + cost_of limit c) (budget_of limit) then Some (n + cost_of limit c) else None

-- a choice after a log has to be tried: none that is allowed was left out, or the log can pay for it
abbrev pub IsDue : Option ℕ → Bool → List Entry → Choice → Type 0
IsDue limit left_out log c =
    (left_out ≡ false) ⊎ (spent (cost_of limit) log + cost_of limit c ≤ budget_of limit)

-- the number of a place, where its log has no more preemptions than n
abbrev pub no_dearer : List Row → ℕ → Option ℕ → Option ℕ
no_dearer rows n None = None
no_dearer rows n (Some place) = if nat_le (kept_at rows place) n then Some place else None

-- that of the place that has a key
abbrev pub known_in : List Row → List (List ℕ × ℕ) → List ℕ → ℕ → Option ℕ
known_in rows keys key n = no_dearer rows n (lookup (bytes_eq key) keys)

-- a key is kept with the number of a place, whatever number it had
abbrev pub IsPut : List ℕ → ℕ → List (List ℕ × ℕ) → List (List ℕ × ℕ) → Type 0
IsPut key place keys keys' = (other : List ℕ)
    → lookup (bytes_eq other) keys' ≡ (if bytes_eq other key then Some place else lookup (bytes_eq other) keys)
