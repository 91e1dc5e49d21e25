-- Where nothing was visited but the first place.
use Rattle.std.proofs.Common.{◌≡◌, ℕ, zero, suc, ◌∷◌, ◌≤◌, ◌<◌, slice_index_or, true, false, List, [], length, refl, sym, ◌∙◌, subst, arith, lit<, All, Contains}
use Rattle.std.proofs.lemmas.List.Elements.{All-cons, All-nil}
use Rattle.mach_types.specs.declared.events.Entry.{Entry}
use Rattle.block_model.specs.Layouts.{IsLaidOut}
use Rattle.block_model.specs.Plain.{Plain, plain_start}
use Rattle.block_model.specs.Run.{IsBlockRun}
use Rattle.block_model.specs.Setting.{Setting}
use Rattle.block_model.proofs.Laws.{start_plain}
use Rattle.page_map.specs.Map.{Map}
use Rattle.process.specs.Refinement.{IsTied}
use Rattle.same_places.specs.Places.{rested}
use Rattle.place_search.specs.Starting.{IsStart}
use Rattle.process.specs.declared.parts.Parts.{Parts}
use Rattle.same_places.specs.Replayed.{StandAfter}
use Rattle.place_keys.specs.Packed.{packed}
use Rattle.place_keys.specs.PartWords.{parts_words}
use Rattle.found_outcomes.specs.Found.{AreDifferent, IsEndFound, IsShown}
use Rattle.found_outcomes.specs.declared.findings.OutcomeFound.{OutcomeFound}
use Rattle.mach_types.specs.Kernel.Scheduling.{has_hart}
use Rattle.mach_types.proofs.Laws.{has_hart-harts_that}
use Rattle.prompt_runs.specs.Prompt.{IsSpokenOf}
use Rattle.search_reductions.specs.declared.signals.Signals.{Signals}
use Rattle.place_search.specs.Logs.{AreAfterParents, log_at, logs_of, owed_at}
use Rattle.place_search.specs.SettlingSteps.{IsOwedAfter}
use Rattle.place_search.specs.Preemptions.{IsPut}
use Rattle.place_search.specs.Visiting.{AreKeysOf, HasVisited, IsKeyOf}
use Rattle.place_search.proofs.Preemptions.{keys_put}
use Rattle.place_search.specs.Visits.{IsFirst, IsNoted}
use Rattle.place_search.specs.declared.row.Row.{Row}
use Rattle.place_search.specs.declared.visited.Visited.{Visited}
use Rattle.place_search.proofs.Visits.{end_at, noted_end, noted_has}

one : (P : List Entry → Type 0) → P [] → All P (logs_of [])
one P it = All-cons P [] [] it (All-nil P)

pub first_there : (v : Visited) → IsFirst v → Contains (logs_of v.rows.items) []
first_there v first = subst (λ (rows : List Row). Contains (logs_of rows) []) (sym first.rows) (0, lit< tt, refl)

-- at the first place none is owed
no_hart_in : (h : ℕ) → has_hart 0 h ≡ false
no_hart_in h = has_hart-harts_that (λ k. false) 0 h

nothing_owed : (s : Setting) (signals : Signals) (k : ℕ) → k ≤ 0 → IsOwedAfter s signals (log_at [] k) (owed_at [] k)
nothing_owed s signals zero le h lt = no_hart_in h
nothing_owed s signals (suc k) le h lt = absurd (omega (arith, le))

pub first_has : (s : Setting) (signals : Signals) (start : Map) (v : Visited) → IsFirst v → IsBlockRun s [] → HasVisited s signals start v
first_has s signals start v first run = record {
  runs = subst (λ (rows : List Row). All (IsBlockRun s) (logs_of rows)) (sym first.rows) (one (IsBlockRun s) run);
  spoken = subst (λ (rows : List Row). All (IsSpokenOf signals s) (logs_of rows)) (sym first.rows) (one (IsSpokenOf signals s) tt);
  owed = subst (λ (rows : List Row). (k : ℕ) → k ≤ length rows → IsOwedAfter s signals (log_at rows k) (owed_at rows k)) (sym first.rows) (nothing_owed s signals);
  short = subst (λ (rows : List Row). All (λ (log : List Entry). length log ≤ s.limits.steps) (logs_of rows)) (sym first.rows) (one (λ (log : List Entry). length log ≤ s.limits.steps) (omega arith));
  parents = subst (λ (rows : List Row). AreAfterParents rows) (sym first.rows) (λ i d lt. absurd (omega (arith, lt)));
  keys = subst (AreKeysOf s signals start (logs_of v.rows.items)) (sym first.keys) (λ key number is. absurd cc);
  shown = subst (All (IsShown s signals)) (sym first.outcomes) (All-nil (IsShown s signals));
  among = subst (All (λ (o : OutcomeFound). Contains (logs_of v.rows.items) o.log.items)) (sym first.outcomes) (All-nil (λ (o : OutcomeFound). Contains (logs_of v.rows.items) o.log.items));
  different = subst (λ (os : List OutcomeFound). AreDifferent os) (sym first.outcomes) (λ i j d lt within. absurd (omega (arith, within)));
  within = subst (λ (rows : List Row). All (λ (log : List Entry). length log ≤ v.deepest) (logs_of rows)) (sym first.rows) (one (λ (log : List Entry). length log ≤ v.deepest) (omega arith));
  deepest = record { log = []; visited = first_there v first; entries = sym first.deepest };
  at_limit = λ deep. let bad : true ≡ false = sym deep ∙ first.deep in absurd cc;
}

-- with its end noted and its key kept
module _ (s : Setting) (signals : Signals) (start : Map) (v v' : Visited) (first : IsFirst v) (run : IsBlockRun s []) (m : Parts) (stands : StandAfter s [] m) (noted : IsNoted m.ended m.kernel.console [] v v') where
  pub noted_first : HasVisited s signals start v'
  noted_first = noted_has s signals start v v' [] m.ended m.kernel.console noted (first_has s signals start v first run) (first_there v first) (end_at s [] m run stands)

  rows_first : [] ≡ v'.rows.items
  rows_first = sym (noted.rows ∙ first.rows)

  pub ends_first : All (IsEndFound s v'.outcomes.items) (logs_of v'.rows.items)
  ends_first =
      subst (λ (rows : List Row). All (IsEndFound s v'.outcomes.items) (logs_of rows)) rows_first
      (one (IsEndFound s v'.outcomes.items) (noted_end s v v' [] m.ended m.kernel.console noted (end_at s [] m run stands)))

  pub key_first : (key : List ℕ) → key ≡ packed (0 ∷ parts_words start m) → IsKeyOf s signals start (logs_of v'.rows.items) (key, 0)
  key_first key is = record {
    visited = subst (λ (rows : List Row). 0 < length (logs_of rows)) rows_first (lit< tt);
    owed = 0;
    set = subst (λ (rows : List Row). IsOwedAfter s signals (slice_index_or (logs_of rows) 0 []) 0) rows_first (λ h lt. no_hart_in h);
    parts = m;
    stands = subst (λ (rows : List Row). StandAfter s (slice_index_or (logs_of rows) 0 []) m) rows_first stands;
    words = sym is;
  }

  pub keyed_first : (key : List ℕ) (keys : List (List ℕ × ℕ)) → key ≡ packed (0 ∷ parts_words start m) → IsPut key 0 v'.keys keys → HasVisited s signals start (record v' { keys = keys })
  keyed_first key keys is put =
      let h = noted_first in
      record {
        runs = h.runs;
        spoken = h.spoken;
        owed = h.owed;
        short = h.short;
        parents = h.parents;
        keys = keys_put s signals start (logs_of v'.rows.items) v'.keys keys key 0 put h.keys (key_first key is);
        shown = h.shown;
        among = h.among;
        different = h.different;
        within = h.within;
        deepest = h.deepest;
        at_limit = h.at_limit;
      }

-- the pages of the start
pub started_same : (s : Setting) (m m' : Map) → m' ≡ m → IsStart s m → IsStart s m'
started_same s m m' maps is = subst (IsStart s) (sym maps) is

pub start_stands : (s : Setting) (m : Parts) → IsTied s (plain_start s) m → IsStart s m.pages
start_stands s m tied = record { first = m; stands = subst (λ (p : Plain). IsTied s (rested p) m) (sym (start_plain s)) tied; pages = refl }
