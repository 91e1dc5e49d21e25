-- What holds of the places that were visited (own).
use Rattle.std.specs.Prelude.{ℕ, ◌≡◌, ◌<◌, ◌≤◌, ◌++◌, ◌∷◌, true, List, length, All, Contains, Some, bytes_eq, slice_index_or, []}
use Rattle.std.specs.Map.{lookup}
use Rattle.mach_types.specs.declared.events.Entry.{Entry}
use Rattle.block_model.specs.Run.{IsBlockRun}
use Rattle.block_model.specs.Setting.{Setting}
use Rattle.block_model.specs.Layouts.{IsLaidOut}
use Rattle.page_map.specs.Map.{Map}
use Rattle.process.specs.declared.parts.Parts.{Parts}
use Rattle.same_places.specs.Replayed.{StandAfter}
use Rattle.place_keys.specs.Packed.{packed}
use Rattle.place_keys.specs.PartWords.{parts_words}
use Rattle.found_outcomes.specs.Found.{AreDifferent, IsEndFound, IsShown}
use Rattle.found_outcomes.specs.Search.{IsAtLimit, IsDepth}
use Rattle.found_outcomes.specs.declared.findings.OutcomeFound.{OutcomeFound}
use Rattle.prompt_runs.specs.Prompt.{IsSpokenOf}
use Rattle.search_reductions.specs.declared.signals.Signals.{Signals}
use Rattle.place_search.specs.Logs.{AreAfterParents, log_at, logs_of, owed_at}
use Rattle.place_search.specs.SettlingSteps.{IsOwedAfter, IsStandingAt}
use Rattle.place_search.specs.Starting.{IsStart}
use Rattle.place_search.specs.declared.remade.Remade.{Remade}
use Rattle.place_search.specs.declared.row.Row.{Row}
use Rattle.place_search.specs.declared.visited.Visited.{Visited}
use Rattle.place_search.specs.declared.visiting.Reached.{Reached}

-- a key with a number: it is the packed words of what is owed after the log of this number, and of parts that stand where it has
-- come to
pub record IsKeyOf (s : Setting) (signals : Signals) (start : Map) (logs : List (List Entry)) (known : List ℕ × ℕ) : Type 0 where
  pub visited : known.1 < length logs
  pub owed : ℕ
  pub set : IsOwedAfter s signals (slice_index_or logs known.1 []) owed
  pub parts : Parts
  pub stands : StandAfter s (slice_index_or logs known.1 []) parts
  pub words : packed (owed ∷ parts_words start parts) ≡ known.0

-- each key that is known has the number of such a log
abbrev pub AreKeysOf : Setting → Signals → Map → List (List Entry) → List (List ℕ × ℕ) → Type 0
AreKeysOf s signals start logs keys =
    (key : List ℕ) (number : ℕ) → lookup (bytes_eq key) keys ≡ Some number → IsKeyOf s signals start logs (key, number)

-- one of the logs goes on at the step limit
pub record HasLimit (s : Setting) (logs : List (List Entry)) : Type 0 where
  pub log : List Entry
  pub visited : Contains logs log
  pub at_limit : IsAtLimit s log

-- the logs are block runs that are spoken of, within the step limit, each place says what is owed after its log, each key is that of the
-- place of its number, and each outcome is that of one of them, and of no other
pub record HasVisited (s : Setting) (signals : Signals) (start : Map) (v : Visited) : Type 0 where
  pub runs : All (IsBlockRun s) (logs_of v.rows.items)
  pub spoken : All (IsSpokenOf signals s) (logs_of v.rows.items)
  pub owed : (k : ℕ) → k ≤ length v.rows.items → IsOwedAfter s signals (log_at v.rows.items k) (owed_at v.rows.items k)
  pub short : All (λ log. length log ≤ s.limits.steps) (logs_of v.rows.items)
  pub parents : AreAfterParents v.rows.items
  pub keys : AreKeysOf s signals start (logs_of v.rows.items) v.keys
  pub shown : All (IsShown s signals) v.outcomes.items
  pub among : All (λ (o : OutcomeFound). Contains (logs_of v.rows.items) o.log.items) v.outcomes.items
  pub different : AreDifferent v.outcomes.items
  pub within : All (λ log. length log ≤ v.deepest) (logs_of v.rows.items)
  pub deepest : IsDepth (logs_of v.rows.items) v.deepest
  pub at_limit : v.deep ≡ true → HasLimit s (logs_of v.rows.items)

-- each log that was visited and is over ends as one of the outcomes says
abbrev pub AreEndsFound : Setting → Visited → Type 0
AreEndsFound s v = All (IsEndFound s v.outcomes.items) (logs_of v.rows.items)

-- more was visited, and maybe more was found
pub record IsMore (v v' : Visited) : Type 0 where
  pub more_rows : List Row
  pub rows : v'.rows.items ≡ v.rows.items ++ more_rows
  pub more_outcomes : List OutcomeFound
  pub outcomes : v'.outcomes.items ≡ v.outcomes.items ++ more_outcomes
  pub deep : v.deep ≡ true → v'.deep ≡ true
  pub left_out : v.left_out ≡ true → v'.left_out ≡ true

-- these entries of a run that has come to a place that was visited have led to where the parts stand
pub record MayVisit (s : Setting) (signals : Signals) (v : Visited) (from : Reached) (entries : List Entry) (owed : ℕ) (made : Remade)
    : Type 0 where
  pub visited : HasVisited s signals made.start v
  pub laid : IsLaidOut s.program
  pub started : IsStart s made.start
  pub place : from.place ≤ length v.rows.items
  pub log_is : from.log.items ≡ log_at v.rows.items from.place
  pub there : IsStandingAt s signals from.log.items entries owed made.parts
