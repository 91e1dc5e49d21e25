-- What holds of the places that were visited still does as one more is.
use Rattle.std.proofs.Common.{◌≡◌, ℕ, ◌+◌, ◌<◌, ◌≤◌, get_or, map, length-append, true, List, [], ◌∷◌, ◌++◌, length, Option, Some, None, refl, sym, ap, ◌∙◌, subst, arith, append-nil, append_assoc, inl, inr, max, All, Contains}
use Rattle.std.proofs.lemmas.Bool.{cases_lt}
use Rattle.std.proofs.lemmas.List.{get_or_append_left, get_or_at, length-map, map-append}
use Rattle.std.proofs.lemmas.List.Elements.{All-contains, All-push, All-weaker, Contains-append_left, Contains-push}
use Rattle.mach_types.specs.declared.events.Entry.{Entry}
use Rattle.mach_types.specs.declared.limits.End.{End}
use Rattle.block_model.specs.Plain.{plain_over}
unfoldable use Rattle.block_model.specs.Plain.{plain_after}
use Rattle.block_model.specs.Run.{IsBlockRun}
use Rattle.block_model.specs.Setting.{Setting}
use Rattle.page_map.specs.Map.{Map}
use Rattle.process.specs.declared.parts.Parts.{Parts}
use Rattle.same_places.specs.Replayed.{StandAfter}
use Rattle.place_keys.specs.Packed.{packed}
use Rattle.place_keys.specs.PartWords.{parts_words}
use Rattle.found_outcomes.specs.Found.{AreDifferent, HasBeenFound, IsEndFound, IsShown}
use Rattle.found_outcomes.specs.Search.{IsAtLimit, IsDepth}
use Rattle.found_outcomes.specs.declared.findings.OutcomeFound.{OutcomeFound}
use Rattle.prompt_runs.specs.Prompt.{IsSpokenOf}
use Rattle.search_reductions.specs.declared.signals.Signals.{Signals}
use Rattle.place_search.specs.Logs.{AreAfterParents, AreSingle, log_at, log_next, logs_of, owed_at, owed_of}
use Rattle.place_search.specs.SettlingSteps.{IsOwedAfter}
use Rattle.place_search.specs.Visiting.{AreKeysOf, HasLimit, HasVisited, IsKeyOf, IsMore}
use Rattle.place_search.specs.Visits.{IsAdded, IsEndNoted, IsNoted, IsUnchanged}
use Rattle.place_search.specs.declared.row.Row.{Row}
use Rattle.place_search.specs.declared.visited.Visited.{Visited}
use Rattle.place_search.proofs.Logs.{logs_length, logs_push, parents_push}
use Rattle.place_search.proofs.Preemptions.{keys_put}
use Rattle.place_search.proofs.Outcomes.{more_found, more_of, noted_all, noted_different, noted_found}

abbrev Logs : Type 0
Logs = List (List Entry)

-- WHERE NOTHING CHANGES

pub unchanged_has : (s : Setting) (signals : Signals) (start : Map) (v v' : Visited) → IsUnchanged v v' → HasVisited s signals start v → HasVisited s signals start v'
unchanged_has s signals start v v' u h =
    let r : v.rows.items ≡ v'.rows.items = sym u.rows in
    record {
      runs = subst (λ (rows : List Row). All (IsBlockRun s) (logs_of rows)) r h.runs;
      spoken = subst (λ (rows : List Row). All (IsSpokenOf signals s) (logs_of rows)) r h.spoken;
      owed = subst (λ (rows : List Row). (k : ℕ) → k ≤ length rows → IsOwedAfter s signals (log_at rows k) (owed_at rows k)) r h.owed;
      short = subst (λ (rows : List Row). All (λ (log : List Entry). length log ≤ s.limits.steps) (logs_of rows)) r h.short;
      parents = subst (λ (rows : List Row). AreAfterParents rows) r h.parents;
      keys = subst (AreKeysOf s signals start (logs_of v'.rows.items)) (sym u.keys) (subst (λ (rows : List Row). AreKeysOf s signals start (logs_of rows) v.keys) r h.keys);
      shown = subst (All (IsShown s signals)) (sym u.outcomes) h.shown;
      among = subst (All (λ (o : OutcomeFound). Contains (logs_of v'.rows.items) o.log.items)) (sym u.outcomes)
          (subst (λ (rows : List Row). All (λ (o : OutcomeFound). Contains (logs_of rows) o.log.items) v.outcomes.items) r h.among);
      different = subst (λ (os : List OutcomeFound). AreDifferent os) (sym u.outcomes) h.different;
      within = subst (λ (n : ℕ). All (λ (log : List Entry). length log ≤ n) (logs_of v'.rows.items)) (sym u.deepest)
          (subst (λ (rows : List Row). All (λ (log : List Entry). length log ≤ v.deepest) (logs_of rows)) r h.within);
      deepest = subst (IsDepth (logs_of v'.rows.items)) (sym u.deepest) (subst (λ (rows : List Row). IsDepth (logs_of rows) v.deepest) r h.deepest);
      at_limit = λ deep. subst (λ (rows : List Row). HasLimit s (logs_of rows)) r (h.at_limit (sym u.deep ∙ deep));
    }

pub unchanged_more : (v v' : Visited) → IsUnchanged v v' → IsMore v v'
unchanged_more v v' u = record {
  more_rows = [];
  rows = u.rows ∙ sym (append-nil v.rows.items);
  more_outcomes = [];
  outcomes = u.outcomes ∙ sym (append-nil v.outcomes.items);
  deep = λ was. u.deep ∙ was;
  left_out = λ was. u.left_out ∙ was;
}

pub same_more : (v : Visited) → IsMore v v
same_more v = record { more_rows = []; rows = sym (append-nil v.rows.items); more_outcomes = []; outcomes = sym (append-nil v.outcomes.items); deep = λ was. was; left_out = λ was. was }

pub more_more : (a b c : Visited) → IsMore a b → IsMore b c → IsMore a c
more_more a b c first second = record {
  more_rows = first.more_rows ++ second.more_rows;
  rows = second.rows ∙ ap (λ (rows : List Row). rows ++ second.more_rows) first.rows ∙ append_assoc a.rows.items first.more_rows second.more_rows;
  more_outcomes = first.more_outcomes ++ second.more_outcomes;
  outcomes = second.outcomes ∙ ap (λ (os : List OutcomeFound). os ++ second.more_outcomes) first.outcomes ∙ append_assoc a.outcomes.items first.more_outcomes second.more_outcomes;
  deep = λ was. second.deep (first.deep was);
  left_out = λ was. second.left_out (first.left_out was);
}

pub single_stays : (v v' : Visited) → v'.rows.items ≡ v.rows.items → AreSingle v.rows.items → AreSingle v'.rows.items
single_stays v v' is single = subst (λ (rows : List Row). AreSingle rows) (sym is) single

-- ONE PLACE MORE

pub single_more : (v v' : Visited) (row : Row) (key : List ℕ) (depth : ℕ) → IsAdded row key depth v v' → length row.entries.items ≡ 1 → AreSingle v.rows.items → AreSingle v'.rows.items
single_more v v' row key depth added one single =
    subst (λ (rows : List Row). AreSingle rows) (sym added.rows) (All-push (λ (r : Row). length r.entries.items ≡ 1) v.rows.items row single one)

key_stays : (s : Setting) (signals : Signals) (start : Map) (logs more : Logs) (known : List ℕ × ℕ) → IsKeyOf s signals start logs known → IsKeyOf s signals start (logs ++ more) known
key_stays s signals start logs more known at =
    let size = length-append logs more in
    let there : known.1 < length logs = at.visited in
    record {
      visited = omega arith;
      owed = at.owed;
      set = subst (λ (log : List Entry). IsOwedAfter s signals log at.owed) (sym (get_or_append_left logs more [] known.1 there)) at.set;
      parts = at.parts;
      stands = subst (λ (log : List Entry). StandAfter s log at.parts) (sym (get_or_append_left logs more [] known.1 there)) at.stands;
      words = at.words;
    }

-- the key of a place that is added has the next number
pub key_new : (s : Setting) (signals : Signals) (start : Map) (logs : Logs) (log : List Entry) (key : List ℕ) (number owed : ℕ) (parts : Parts) → number ≡ length logs → IsOwedAfter s signals log owed → StandAfter s log parts
    → packed (owed ∷ parts_words start parts) ≡ key
    → IsKeyOf s signals start (logs ++ log ∷ []) (key, number)
key_new s signals start logs log key number owed parts is set stands words =
    let size = length-append logs (log ∷ []) in
    record {
      visited = omega arith;
      owed = owed;
      set = subst (λ (l : List Entry). IsOwedAfter s signals l owed) (sym (get_or_at logs log [] [] number (sym is))) set;
      parts = parts;
      stands = subst (λ (l : List Entry). StandAfter s l parts) (sym (get_or_at logs log [] [] number (sym is))) stands;
      words = words;
    }

-- each place says what is owed there
owed_pushed : (rows : List Row) (row : Row) → owed_of (rows ++ row ∷ []) ≡ owed_of rows ++ row.owed ∷ []
owed_pushed rows row = ap (λ (l : List ℕ). 0 ∷ l) (map-append (λ (r : Row). r.owed) rows (row ∷ []))

owed_more : (s : Setting) (signals : Signals) (rows : List Row) (row : Row) (log : List Entry) → ((k : ℕ) → k ≤ length rows → IsOwedAfter s signals (log_at rows k) (owed_at rows k))
    → logs_of (rows ++ row ∷ []) ≡ logs_of rows ++ log ∷ [] → IsOwedAfter s signals log row.owed
    → (k : ℕ) → k ≤ length (rows ++ row ∷ []) → IsOwedAfter s signals (log_at (rows ++ row ∷ []) k) (owed_at (rows ++ row ∷ []) k)
owed_more s signals rows row log each logs set k le =
    let sizes = logs_length rows in
    let all = length-append rows (row ∷ []) in
    let owing : length (owed_of rows) ≡ length rows + 1 = let mapped = length-map rows (λ (r : Row). r.owed) in omega arith in
    elim (cases_lt k (length rows + 1)) [
      | inl lt ↦
          let log_is : log_at (rows ++ row ∷ []) k ≡ log_at rows k = ap (λ (l : Logs). get_or l k []) logs ∙ get_or_append_left (logs_of rows) (log ∷ []) [] k (omega arith) in
          let owed_is : owed_at (rows ++ row ∷ []) k ≡ owed_at rows k = ap (λ (l : List ℕ). get_or l k 0) (owed_pushed rows row) ∙ get_or_append_left (owed_of rows) (row.owed ∷ []) 0 k (omega arith) in
          subst (λ (l : List Entry). IsOwedAfter s signals l (owed_at (rows ++ row ∷ []) k)) (sym log_is) (subst (IsOwedAfter s signals (log_at rows k)) (sym owed_is) (each k (omega arith)))
      | inr ge ↦
          let log_is : log_at (rows ++ row ∷ []) k ≡ log = ap (λ (l : Logs). get_or l k []) logs ∙ get_or_at (logs_of rows) log [] [] k (omega arith) in
          let owed_is : owed_at (rows ++ row ∷ []) k ≡ row.owed = ap (λ (l : List ℕ). get_or l k 0) (owed_pushed rows row) ∙ get_or_at (owed_of rows) row.owed [] 0 k (omega arith) in
          subst (λ (l : List Entry). IsOwedAfter s signals l (owed_at (rows ++ row ∷ []) k)) (sym log_is) (subst (IsOwedAfter s signals log) (sym owed_is) set)
    ]

depth_next : (logs : Logs) (log : List Entry) (deepest : ℕ) → IsDepth logs deepest → IsDepth (logs ++ log ∷ []) (max deepest (length log))
depth_next logs log deepest was =
    elim (cases_lt deepest (length log)) [
      | inl lt ↦ record { log = log; visited = Contains-push logs log; entries = omega (arith, lt) }
      | inr le ↦ record { log = was.log; visited = Contains-append_left logs (log ∷ []) was.log was.visited; entries = omega (arith, le, was.entries) }
    ]

pub logs_added : (v v' : Visited) (row : Row) (key : List ℕ) (depth : ℕ) (log : List Entry) → IsAdded row key depth v v' → log_next (logs_of v.rows.items) row ≡ log
    → logs_of v'.rows.items ≡ logs_of v.rows.items ++ log ∷ []
logs_added v v' row key depth log added is =
    ap (λ (rows : List Row). logs_of rows) added.rows ∙ logs_push v.rows.items row ∙ ap (λ (l : List Entry). logs_of v.rows.items ++ l ∷ []) is

pub added_has : (s : Setting) (signals : Signals) (start : Map) (v v' : Visited) (row : Row) (key : List ℕ) (log : List Entry) (parts : Parts) → IsAdded row key (length log) v v' → HasVisited s signals start v → row.parent ≤ length v.rows.items
    → log_next (logs_of v.rows.items) row ≡ log → length log ≤ s.limits.steps → IsBlockRun s log → IsSpokenOf signals s log → IsOwedAfter s signals log row.owed → StandAfter s log parts
    → packed (row.owed ∷ parts_words start parts) ≡ key → HasVisited s signals start v'
added_has s signals start v v' row key log parts added h parent is short run spoken set stands words =
    let logs = logs_of v.rows.items in
    let now : logs ++ log ∷ [] ≡ logs_of v'.rows.items = sym (logs_added v v' row key (length log) log added is) in
    let number = length v.rows.items + 1 in
    let all : (λ (l : List Entry). length l ≤ max v.deepest (length log)) log = omega arith in
    record {
      runs = subst (All (IsBlockRun s)) now (All-push (IsBlockRun s) logs log h.runs run);
      spoken = subst (All (IsSpokenOf signals s)) now (All-push (IsSpokenOf signals s) logs log h.spoken spoken);
      owed = subst (λ (rows : List Row). (k : ℕ) → k ≤ length rows → IsOwedAfter s signals (log_at rows k) (owed_at rows k)) (sym added.rows)
          (owed_more s signals v.rows.items row log h.owed (logs_push v.rows.items row ∙ ap (λ (l : List Entry). logs ++ l ∷ []) is) set);
      short = subst (All (λ (l : List Entry). length l ≤ s.limits.steps)) now (All-push (λ (l : List Entry). length l ≤ s.limits.steps) logs log h.short short);
      parents = subst (λ (rows : List Row). AreAfterParents rows) (sym added.rows) (parents_push v.rows.items row h.parents parent);
      keys = subst (λ (l : Logs). AreKeysOf s signals start l v'.keys) now
          (keys_put s signals start (logs ++ log ∷ []) v.keys v'.keys key number added.keys
          (λ other k is. key_stays s signals start logs (log ∷ []) (other, k) (h.keys other k is))
          (key_new s signals start logs log key number row.owed parts (sym (logs_length v.rows.items)) set stands words));
      shown = subst (All (IsShown s signals)) (sym added.outcomes) h.shown;
      among = subst (All (λ (o : OutcomeFound). Contains (logs_of v'.rows.items) o.log.items)) (sym added.outcomes)
          (subst (λ (l : Logs). All (λ (o : OutcomeFound). Contains l o.log.items) v.outcomes.items) now
          (All-weaker (λ (o : OutcomeFound). Contains logs o.log.items) (λ (o : OutcomeFound). Contains (logs ++ log ∷ []) o.log.items)
          (λ o has. Contains-append_left logs (log ∷ []) o.log.items has) v.outcomes.items h.among));
      different = subst (λ (os : List OutcomeFound). AreDifferent os) (sym added.outcomes) h.different;
      within = subst (λ (n : ℕ). All (λ (l : List Entry). length l ≤ n) (logs_of v'.rows.items)) (sym added.deepest)
          (subst (All (λ (l : List Entry). length l ≤ max v.deepest (length log))) now
          (All-push (λ (l : List Entry). length l ≤ max v.deepest (length log)) logs log
          (All-weaker (λ (l : List Entry). length l ≤ v.deepest) (λ (l : List Entry). length l ≤ max v.deepest (length log)) (λ l le. omega (arith, le)) logs h.within) all));
      deepest = subst (IsDepth (logs_of v'.rows.items)) (sym added.deepest)
          (subst (λ (l : Logs). IsDepth l (max v.deepest (length log))) now (depth_next logs log v.deepest h.deepest));
      at_limit = λ deep.
          let was = h.at_limit (sym added.deep ∙ deep) in
          subst (HasLimit s) now (record { log = was.log; visited = Contains-append_left logs (log ∷ []) was.log was.visited; at_limit = was.at_limit });
    }

pub added_more : (v v' : Visited) (row : Row) (key : List ℕ) (depth : ℕ) → IsAdded row key depth v v' → IsMore v v'
added_more v v' row key depth added = record { more_rows = row ∷ []; rows = added.rows; more_outcomes = []; outcomes = added.outcomes ∙ sym (append-nil v.outcomes.items); deep = λ was. added.deep ∙ was; left_out = λ was. added.left_out ∙ was }

-- AN END THAT IS NOTED

-- what the run of a log shows, of which a search that stands there reads the end and the console
pub record IsEndOf (s : Setting) (log : List Entry) (ended : Option End) (console : List ℕ) : Type 0 where
  pub run : IsBlockRun s log
  pub ended_is : ended ≡ plain_over (plain_after s log)
  pub console_is : console ≡ (plain_after s log).kernel.console

pub end_at : (s : Setting) (log : List Entry) (m : Parts) → IsBlockRun s log → StandAfter s log m → IsEndOf s log m.ended m.kernel.console
end_at s log m run stands = record { run = run; ended_is = stands.ended; console_is = stands.tables.console }

shown_by : (s : Setting) (signals : Signals) (log : List Entry) (e : End) (console : List ℕ) → IsEndOf s log (Some e) console → IsSpokenOf signals s log → (o : OutcomeFound) → o.end ≡ e → o.console ≡ console → o.log.items ≡ log → IsShown s signals o
shown_by s signals log e console of spoken o ends consoles logs = (
  record {
    run = subst (IsBlockRun s) (sym logs) of.run;
    over = ap (λ (l : List Entry). plain_over (plain_after s l)) logs ∙ sym of.ended_is ∙ ap Some (sym ends);
    console_is = ap (λ (l : List Entry). (plain_after s l).kernel.console) logs ∙ sym of.console_is ∙ sym consoles;
  },
  subst (IsSpokenOf signals s) (sym logs) spoken,
)

noted_some : (s : Setting) (signals : Signals) (start : Map) (v v' : Visited) (log : List Entry) (e : End) (console : List ℕ) → IsNoted (Some e) console log v v' → HasVisited s signals start v → Contains (logs_of v.rows.items) log
    → IsEndOf s log (Some e) console → HasVisited s signals start v'
noted_some s signals start v v' log e console noted h there of =
    let r : v.rows.items ≡ v'.rows.items = sym noted.rows in
    record {
      runs = subst (λ (rows : List Row). All (IsBlockRun s) (logs_of rows)) r h.runs;
      spoken = subst (λ (rows : List Row). All (IsSpokenOf signals s) (logs_of rows)) r h.spoken;
      owed = subst (λ (rows : List Row). (k : ℕ) → k ≤ length rows → IsOwedAfter s signals (log_at rows k) (owed_at rows k)) r h.owed;
      short = subst (λ (rows : List Row). All (λ (log : List Entry). length log ≤ s.limits.steps) (logs_of rows)) r h.short;
      parents = subst (λ (rows : List Row). AreAfterParents rows) r h.parents;
      keys = subst (AreKeysOf s signals start (logs_of v'.rows.items)) (sym noted.keys) (subst (λ (rows : List Row). AreKeysOf s signals start (logs_of rows) v.keys) r h.keys);
      shown = noted_all (IsShown s signals) e console log v.outcomes.items v'.outcomes.items h.shown (shown_by s signals log e console of (All-contains (IsSpokenOf signals s) (logs_of v.rows.items) log h.spoken there)) noted.outcomes;
      among = subst (λ (rows : List Row). All (λ (o : OutcomeFound). Contains (logs_of rows) o.log.items) v'.outcomes.items) r
          (noted_all (λ (o : OutcomeFound). Contains (logs_of v.rows.items) o.log.items) e console log v.outcomes.items v'.outcomes.items h.among
          (λ o ends consoles logs. subst (λ (l : List Entry). Contains (logs_of v.rows.items) l) (sym logs) there) noted.outcomes);
      different = noted_different e console log v.outcomes.items v'.outcomes.items h.different noted.outcomes;
      within = subst (λ (n : ℕ). All (λ (l : List Entry). length l ≤ n) (logs_of v'.rows.items)) (sym noted.deepest)
          (subst (λ (rows : List Row). All (λ (l : List Entry). length l ≤ v.deepest) (logs_of rows)) r h.within);
      deepest = subst (IsDepth (logs_of v'.rows.items)) (sym noted.deepest) (subst (λ (rows : List Row). IsDepth (logs_of rows) v.deepest) r h.deepest);
      at_limit = λ deep. subst (λ (rows : List Row). HasLimit s (logs_of rows)) r (h.at_limit (sym noted.deep ∙ deep));
    }

none_noted : (v v' : Visited) (log : List Entry) (console : List ℕ) → IsNoted None console log v v' → IsUnchanged v v'
none_noted v v' log console noted = record { rows = noted.rows; keys = noted.keys; outcomes = noted.outcomes; deepest = noted.deepest; deep = noted.deep; left_out = noted.left_out }

pub noted_has : (s : Setting) (signals : Signals) (start : Map) (v v' : Visited) (log : List Entry) (ended : Option End) (console : List ℕ) → IsNoted ended console log v v' → HasVisited s signals start v → Contains (logs_of v.rows.items) log
    → IsEndOf s log ended console → HasVisited s signals start v'
noted_has s signals start v v' log None console noted h there of = unchanged_has s signals start v v' (none_noted v v' log console noted) h
noted_has s signals start v v' log (Some e) console noted h there of = noted_some s signals start v v' log e console noted h there of

pub noted_more : (v v' : Visited) (log : List Entry) (ended : Option End) (console : List ℕ) → IsNoted ended console log v v' → IsMore v v'
noted_more v v' log None console noted = unchanged_more v v' (none_noted v v' log console noted)
noted_more v v' log (Some e) console noted =
    let more = more_of e console log v.outcomes.items v'.outcomes.items noted.outcomes in
    record { more_rows = []; rows = noted.rows ∙ sym (append-nil v.rows.items); more_outcomes = more.0; outcomes = more.1; deep = λ was. noted.deep ∙ was; left_out = λ was. noted.left_out ∙ was }

-- the end of the log itself is then among the outcomes
found_where : (e : End) (console : List ℕ) (log : List Entry) (os os' : List OutcomeFound) (ended : Option End) → IsEndNoted ended console log os os' → ended ≡ Some e → HasBeenFound os' e console
found_where e console log os os' None noted is = absurd cc
found_where e console log os os' (Some e') noted is =
    let same : e' ≡ e = cc in
    subst (λ (x : End). HasBeenFound os' x console) same (noted_found e' console log os os' noted)

pub noted_end : (s : Setting) (v v' : Visited) (log : List Entry) (ended : Option End) (console : List ℕ) → IsNoted ended console log v v' → IsEndOf s log ended console → IsEndFound s v'.outcomes.items log
noted_end s v v' log ended console noted of = λ e over.
    subst (HasBeenFound v'.outcomes.items e) of.console_is (found_where e console log v.outcomes.items v'.outcomes.items ended noted.outcomes (of.ended_is ∙ over))

-- those of the others still are
pub end_stays : (s : Setting) (v v' : Visited) → IsMore v v' → (log : List Entry) → IsEndFound s v.outcomes.items log → IsEndFound s v'.outcomes.items log
end_stays s v v' more log found = λ e over.
    subst (λ (os : List OutcomeFound). HasBeenFound os e (plain_after s log).kernel.console) (sym more.outcomes)
    (more_found v.outcomes.items more.more_outcomes e (plain_after s log).kernel.console (found e over))

pub equal_more : (v v' : Visited) → v' ≡ v → IsMore v v'
equal_more v v' is = subst (λ (x : Visited). IsMore v x) (sym is) (same_more v)

-- A LOG AT THE STEP LIMIT

pub deep_has : (s : Setting) (signals : Signals) (start : Map) (v : Visited) (log : List Entry) → HasVisited s signals start v → Contains (logs_of v.rows.items) log → IsAtLimit s log → HasVisited s signals start (record v { deep = true })
deep_has s signals start v log h visited at_limit = record {
  runs = h.runs;
  spoken = h.spoken;
  owed = h.owed;
  short = h.short;
  parents = h.parents;
  keys = h.keys;
  shown = h.shown;
  among = h.among;
  different = h.different;
  within = h.within;
  deepest = h.deepest;
  at_limit = λ deep. record { log = log; visited = visited; at_limit = at_limit };
}

pub deep_more : (v v' : Visited) → IsMore v v' → IsMore v (record v' { deep = true })
deep_more v v' more = record { more_rows = more.more_rows; rows = more.rows; more_outcomes = more.more_outcomes; outcomes = more.outcomes; deep = λ was. refl; left_out = more.left_out }

-- A PREEMPTION THAT IS LEFT OUT

pub left_out_has : (s : Setting) (signals : Signals) (start : Map) (v : Visited) → HasVisited s signals start v → HasVisited s signals start (record v { left_out = true })
left_out_has s signals start v h = record {
  runs = h.runs;
  spoken = h.spoken;
  owed = h.owed;
  short = h.short;
  parents = h.parents;
  keys = h.keys;
  shown = h.shown;
  among = h.among;
  different = h.different;
  within = h.within;
  deepest = h.deepest;
  at_limit = h.at_limit;
}

pub left_out_more : (v v' : Visited) → IsMore v v' → IsMore v (record v' { left_out = true })
left_out_more v v' more = record { more_rows = more.more_rows; rows = more.rows; more_outcomes = more.more_outcomes; outcomes = more.outcomes; deep = more.deep; left_out = λ was. refl }
