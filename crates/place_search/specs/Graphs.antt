-- Where the events of the places that were visited lead, and at which of them a run is over (own).
use Rattle.std.specs.Prelude.{ℕ, ◌≡◌, ◌≢◌, ◌<◌, ◌↔◌, ◌++◌, Bool, true, List, length, None, All, Contains}
use Rattle.mach_types.specs.declared.events.Choice.{Choice}
use Rattle.mach_types.specs.declared.events.Entry.{Entry}
use Rattle.block_model.specs.Events.{refusal_of}
use Rattle.block_model.specs.Plain.{here_in_plain, plain_after, plain_over}
use Rattle.block_model.specs.Setting.{Setting}
use Rattle.graph_walks.specs.declared.edge.Edge.{Edge}
use Rattle.place_search.specs.SettlingSteps.{Ways, all_or_none, none_private}
use Rattle.place_search.specs.declared.graph.Graph.{Graph}
use Rattle.settled_places.specs.SettledSearch.{IsOpenInTime}
use Rattle.settled_places.specs.Edges.{IsBusyEdge, IsEdge, LeadsTo, executed_along, log_by_number}

-- an event of the first place, and settling steps after it, lead to the second, and both were visited. If the
-- edge is a busy one, some such event does along which an instruction is executed
pub record IsMade (s : Setting) (ways : Ways) (logs : List (List Entry)) (edge : Edge) : Type 0 where
  pub from : edge.from < length logs
  pub to : edge.to < length logs
  pub made : IsEdge s ways.signals (all_or_none ways) none_private (log_by_number logs edge.from)
      (log_by_number logs edge.to)
  pub busy : edge.busy ≡ true → IsBusyEdge s ways.signals (all_or_none ways) none_private (log_by_number logs edge.from)
      (log_by_number logs edge.to)

-- the run of the log with this number is over
pub record IsEndedAt (s : Setting) (logs : List (List Entry)) (k : ℕ) : Type 0 where
  pub visited : k < length logs
  pub over : plain_over (plain_after s (log_by_number logs k)) ≢ None

-- each edge is such a one, and each place that is noted as ended is
pub record IsTrue (s : Setting) (ways : Ways) (logs : List (List Entry)) (g : Graph) : Type 0 where
  pub edges : All (IsMade s ways logs) g.edges.items
  pub ended : All (IsEndedAt s logs) g.ended.items

-- the event of a choice after the first log settles to the same place as the second one, along a busy edge just if
-- an instruction is executed on the way
pub record LeadsSo (s : Setting) (ways : Ways) (busy : Bool) (log other : List Entry) (h : ℕ) (c : Choice) : Type 0 where
  pub leads : LeadsTo s ways.signals (all_or_none ways) none_private log other h c
  pub told : busy ≡ true ↔ 0 < executed_along c leads.settles.more

-- the edge of a choice at the place with this number, which is that of the log
pub record LeadsAlong (s : Setting) (ways : Ways) (logs : List (List Entry)) (edges : List Edge) (place : ℕ)
    (log : List Entry) (h : ℕ) (c : Choice) : Type 0 where
  pub edge : Edge
  pub among : Contains edges edge
  pub from : edge.from ≡ place
  pub to : edge.to < length logs
  pub along : LeadsSo s ways edge.busy log (log_by_number logs edge.to) h c

-- there may be more edges, and more places may be noted as ended
pub record IsWithMore (g g' : Graph) : Type 0 where
  pub more_edges : List Edge
  pub edges : g'.edges.items ≡ g.edges.items ++ more_edges
  pub more_ended : List ℕ
  pub ended : g'.ended.items ≡ g.ended.items ++ more_ended

-- each place at which a run is over is noted, and each choice at another that has to be tried, comes in time and is allowed
-- has its edge
pub record IsWhole (s : Setting) (ways : Ways) (logs : List (List Entry)) (g : Graph) : Type 0 where
  pub ended : (k : ℕ) → k < length logs → plain_over (plain_after s (log_by_number logs k)) ≢ None
      → Contains g.ended.items k
  pub edges : (k h : ℕ) (c : Choice) → k < length logs → IsOpenInTime s ways.signals logs (log_by_number logs k) h c
      → refusal_of c (here_in_plain s (plain_after s (log_by_number logs k)) h) ≡ None
      → LeadsAlong s ways logs g.edges.items k (log_by_number logs k) h c
