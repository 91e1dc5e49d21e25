-- Which of the logs that a search stored are one event apart, and settling steps after it (own).
use Rattle.std.specs.Prelude.{ℕ, ◌≡◌, ◌<◌, ◌+◌, Bool, List, [], ◌∷◌, length, None, Contains, slice_index_or}
use Rattle.mach_types.specs.declared.events.Choice.{Choice}
use Rattle.mach_types.specs.declared.events.Entry.{Entry}
use Rattle.block_model.specs.Events.{refusal_of}
use Rattle.block_model.specs.Plain.{here_in_plain, plain_after}
use Rattle.block_model.specs.Setting.{Setting}
use Rattle.local_steps.specs.Runs.{MayCome, instructions_by}
use Rattle.prompt_runs.specs.Owed.{owed_after}
use Rattle.prompt_runs.specs.Prompt.{IsInTime}
use Rattle.search_reductions.specs.declared.signals.Signals.{Signals}
use Rattle.settled_places.specs.SettledSearch.{IsOpenInTime, LeadsToStored}

-- the log with this number, from 0
abbrev pub log_by_number : List (List Entry) → ℕ → List Entry
log_by_number logs k = slice_index_or logs k []

-- the event of a choice after the first log settles to the same place as the second one
abbrev pub LeadsTo : Setting → Signals → (ℕ → Bool) → (ℕ → ℕ → Bool) → List Entry → List Entry → ℕ → Choice
    → Type 0
LeadsTo s signals threads private log other h c =
    LeadsToStored s signals threads private (other ∷ []) log h c

-- some event that may come after the first log, and comes in time, does
pub record IsEdge (s : Setting) (signals : Signals) (threads : ℕ → Bool) (private : ℕ → ℕ → Bool)
    (log other : List Entry) : Type 0 where
  pub hart : ℕ
  pub choice : Choice
  pub may : MayCome s (plain_after s log) (hart, choice)
  pub in_time : IsInTime (plain_after s log) (owed_after signals s log) hart choice
  pub leads : LeadsTo s signals threads private log other hart choice

-- an edge of log number k is that of this choice
pub record HasEdge (s : Setting) (signals : Signals) (threads : ℕ → Bool) (private : ℕ → ℕ → Bool)
    (logs : List (List Entry)) (edges : ℕ → List ℕ) (k h : ℕ) (c : Choice) : Type 0 where
  pub to : ℕ
  pub listed : Contains (edges k) to
  pub leads : LeadsTo s signals threads private (log_by_number logs k) (log_by_number logs to) h c

-- for each log by its number, the numbers of the logs to which its events lead: each of these numbers is that
-- of a log, and of an event that may come and comes in time; and each choice that has to be tried, comes in
-- time and is allowed has one
pub record AreEdges (s : Setting) (signals : Signals) (threads : ℕ → Bool) (private : ℕ → ℕ → Bool)
    (logs : List (List Entry)) (edges : ℕ → List ℕ) : Type 0 where
  pub numbers : (k j : ℕ) → k < length logs → Contains (edges k) j → j < length logs
  pub made : (k j : ℕ) → k < length logs → Contains (edges k) j
      → IsEdge s signals threads private (log_by_number logs k) (log_by_number logs j)
  pub all : (k h : ℕ) (c : Choice) → k < length logs → IsOpenInTime s signals logs (log_by_number logs k) h c
      → refusal_of c (here_in_plain s (plain_after s (log_by_number logs k)) h) ≡ None
      → HasEdge s signals threads private logs edges k h c

-- how many instructions are executed along an edge: its event may be one, and each settling step is
abbrev pub executed_along : Choice → List Entry → ℕ
executed_along c more = instructions_by c + length more

-- some event that may come after the first log, and comes in time, leads to the second, and on the way an
-- instruction is executed
pub record IsBusyEdge (s : Setting) (signals : Signals) (threads : ℕ → Bool) (private : ℕ → ℕ → Bool)
    (log other : List Entry) : Type 0 where
  pub edge : IsEdge s signals threads private log other
  pub busy : 0 < executed_along edge.choice edge.leads.settles.more

-- an edge of log number k is that of this choice, and it is a busy one if an instruction is executed along it
pub record HasToldEdge (s : Setting) (signals : Signals) (threads : ℕ → Bool) (private : ℕ → ℕ → Bool)
    (logs : List (List Entry)) (edges busy : ℕ → List ℕ) (k h : ℕ) (c : Choice) : Type 0 where
  pub edge : HasEdge s signals threads private logs edges k h c
  pub told : 0 < executed_along c edge.leads.settles.more → Contains (busy k) edge.to

-- for each log by its number, the numbers of the logs to which its busy edges lead: along each of these an
-- instruction is executed; and each choice that has to be tried, comes in time and is allowed has an edge,
-- which is one of these if an instruction is executed along it
pub record AreBusyEdges (s : Setting) (signals : Signals) (threads : ℕ → Bool) (private : ℕ → ℕ → Bool)
    (logs : List (List Entry)) (edges busy : ℕ → List ℕ) : Type 0 where
  pub numbers : (k j : ℕ) → k < length logs → Contains (busy k) j → j < length logs
  pub made : (k j : ℕ) → k < length logs → Contains (busy k) j
      → IsBusyEdge s signals threads private (log_by_number logs k) (log_by_number logs j)
  pub all : (k h : ℕ) (c : Choice) → k < length logs → IsOpenInTime s signals logs (log_by_number logs k) h c
      → refusal_of c (here_in_plain s (plain_after s (log_by_number logs k)) h) ≡ None
      → HasToldEdge s signals threads private logs edges busy k h c
