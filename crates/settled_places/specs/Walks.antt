-- Walks along edges between stored logs, of which each is known by its number (own).
use Rattle.std.specs.Prelude.{ℕ, ◌≡◌, ◌≢◌, ◌<◌, ◌≤◌, Bool, true, List, length, None, Contains}
use Rattle.mach_types.specs.declared.events.Entry.{Entry}
use Rattle.block_model.specs.Plain.{plain_after, plain_over}
use Rattle.block_model.specs.Setting.{Setting}
use Rattle.settled_places.specs.Edges.{log_by_number}

-- some walk from here comes to a log whose run is over
pub data ReachesEnd (s : Setting) (logs : List (List Entry)) (edges : ℕ → List ℕ) : ℕ → Type 0 where
  There : {k : ℕ} → plain_over (plain_after s (log_by_number logs k)) ≢ None → ReachesEnd s logs edges k
  Along : {k : ℕ} (j : ℕ) → Contains (edges k) j → ReachesEnd s logs edges j → ReachesEnd s logs edges k

-- some of the numbers, where no run is over and which no edge leaves
pub record IsTrap (s : Setting) (logs : List (List Entry)) (edges : ℕ → List ℕ) (among : ℕ → Bool)
    : Type 0 where
  pub goes : (k : ℕ) → k < length logs → among k ≡ true
      → plain_over (plain_after s (log_by_number logs k)) ≡ None
  pub stays : (k j : ℕ) → k < length logs → among k ≡ true → Contains (edges k) j → among j ≡ true

-- some walk from here comes to this number
pub data ComesTo (edges : ℕ → List ℕ) (to : ℕ) : ℕ → Type 0 where
  Here : {k : ℕ} → k ≡ to → ComesTo edges to k
  Further : {k : ℕ} (j : ℕ) → Contains (edges k) j → ComesTo edges to j → ComesTo edges to k

-- a busy edge from which some walk leads back to where it begins: so a walk can go round and round
pub record GoesRound (logs : List (List Entry)) (edges busy : ℕ → List ℕ) : Type 0 where
  pub from : ℕ
  pub visited : from < length logs
  pub to : ℕ
  pub listed : Contains (busy from) to
  pub back : ComesTo edges from to

-- ranks of the numbers: along no edge does the rank rise, and along a busy one it falls
pub record AreRanks (logs : List (List Entry)) (edges busy : ℕ → List ℕ) (rank : ℕ → ℕ) : Type 0 where
  pub stays : (k j : ℕ) → k < length logs → Contains (edges k) j → rank j ≤ rank k
  pub falls : (k j : ℕ) → k < length logs → Contains (busy k) j → rank j < rank k
