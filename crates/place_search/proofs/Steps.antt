-- A choice that is tried, and what was tried before.
use Rattle.std.proofs.Common.{◌≡◌, ℕ, zero, suc, ◌+◌, ◌-◌, ◌<◌, ◌≤◌, lit<, Bool, true, false, List, [], ◌∷◌, ◌++◌, append-nil, append_assoc, length, Option, Some, None, is_some, refl, sym, ap, ◌∙◌, subst, arith, inr, All, Contains, length-append, below_more}
use Rattle.std.proofs.lemmas.List.{get_or_default}
use Rattle.std.proofs.lemmas.List.Elements.{All-contains, All-weaker, Contains-append_left, Contains-get_or}
use Rattle.mach_types.specs.Events.{choice_of, kind_of}
use Rattle.mach_types.specs.Limits.{InRange}
use Rattle.mach_types.specs.declared.events.Choice.{Choice}
use Rattle.mach_types.specs.declared.events.Entry.{Entry}
use Rattle.mach_types.specs.declared.events.Why.{Why}
use Rattle.mach_types.specs.declared.limits.End.{End}
use Rattle.page_map.specs.Map.{Map}
use Rattle.block_model.specs.Events.{done_of, refusal_of}
use Rattle.block_model.specs.Plain.{Plain, here_in_plain, here_of, plain_over}
unfoldable use Rattle.block_model.specs.Plain.{plain_after}
use Rattle.block_model.specs.Run.{IsBlockRun}
use Rattle.block_model.specs.Setting.{Seen, Setting}
use Rattle.block_model.specs.Tables.{IsTables}
use Rattle.block_model.proofs.Laws.{loaded_is_laid_out, next_event, run_before, standing, within_limit}
use Rattle.block_model.proofs.Swaps.Logs.{last_decided}
use Rattle.process.specs.declared.parts.Parts.{Parts}
use Rattle.same_places.specs.Choices.{all_choices}
use Rattle.same_places.specs.Places.{IsCarried, IsSamePlace, plain_after_choice, rested}
use Rattle.same_places.proofs.Laws.{same_but_counts, same_itself}
use Rattle.process.specs.Refinement.{IsTied}
use Rattle.std.specs.Prelude.{◌↔◌}
use Rattle.local_steps.specs.Resting.{LeavesAreas}
use Rattle.local_steps.specs.Runs.{instructions_by}
use Rattle.settled_places.specs.Budgets.{IsSettledSearchWithin, spent}
use Rattle.settled_places.specs.Edges.{IsBusyEdge, IsEdge, log_by_number}
use Rattle.mach_types.specs.Kernel.Scheduling.{has_hart}
use Rattle.mach_types.specs.Kernel.Barriers.{harts_that}
use Rattle.owed_signals.specs.Dues.{AreDuesOf, is_in_time}
use Rattle.owed_signals.specs.Owing.{owes_in}
use Rattle.owed_signals.specs.declared.dues.Dues.{Dues}
use Rattle.prompt_runs.specs.Owed.{machine_after, owed_after, owed_next, traps}
use Rattle.prompt_runs.specs.Prompt.{IsInTime, IsSpokenOf}
use Rattle.prompt_runs.proofs.InTime.{owed_more, spoken_more}
use Rattle.search_reductions.specs.declared.signals.Signals.{Signals}
use Rattle.settled_places.specs.SettledSearch.{IsOpenInTime, IsSettledSearch, LeadsToStored}
use Rattle.settled_places.specs.Settling.{AreSettlingSteps, SettlesBack, settles_of}
use Rattle.place_search.specs.SettlingSteps.{HasMore, IsOwedAfter, IsStandingAt, Ways, all_or_none, none_private}
use Rattle.place_search.specs.declared.remade.Remade.{Remade}
use Rattle.place_search.proofs.Starts.{started_same}
use Rattle.same_places.specs.Replayed.{StandAfter}
use Rattle.checkpoints.specs.Standing.{AreStanding}
use Rattle.same_places.specs.Searched.{IsTried}
use Rattle.same_places.specs.Trying.{IsGoing, IsLonger}
use Rattle.place_keys.specs.Packed.{packed}
use Rattle.place_keys.specs.PartWords.{parts_words}
use Rattle.found_outcomes.specs.Search.{IsAtLimit}
use Rattle.graph_walks.specs.declared.edge.Edge.{Edge}
use Rattle.place_search.specs.Graphs.{IsEndedAt, IsMade, IsTrue, IsWhole, IsWithMore, LeadsAlong, LeadsSo}
use Rattle.place_search.specs.Logs.{AreSingle, log_at, logs_of}
use Rattle.place_search.specs.Searching.{ComesInTime, IsExpanded, IsExpandedAt, IsOpenAt, IsReached, IsSearching, IsTask, IsTriedAt, IsTriedWhereDue, setting_for, ways_of}
use Rattle.place_search.specs.Starting.{IsStart}
use Rattle.place_search.specs.Visiting.{HasVisited, IsKeyOf, IsMore, MayVisit}
use Rattle.place_search.specs.declared.graph.Graph.{Graph}
use Rattle.place_search.specs.declared.row.Row.{Row}
use Rattle.place_search.specs.declared.task.Task.{Task}
use Rattle.place_search.specs.declared.trying.Searcher.{Searcher}
use Rattle.place_search.specs.declared.visited.Visited.{Visited}
use Rattle.place_search.specs.declared.visiting.Reached.{Reached}
use Rattle.place_search.specs.Preemptions.{ArePaid, IsDue, budget_of, cost_of, paid_with}
use Rattle.place_search.proofs.Graphs.{along_stays, number_stays}
use Rattle.place_search.proofs.Preemptions.{due_before, kept_is, kept_stays, paid_some, spent_after}
use Rattle.place_search.proofs.Logs.{has_first, has_log, logs_length, stays_at}

abbrev Logs : Type 0
Logs = List (List Entry)

-- AT A PLACE THAT WAS VISITED

pub ended_none : (o : Option End) → false ≡ is_some o → o ≡ None
ended_none None is = refl
ended_none (Some e) is = absurd cc

pub run_at : (s : Setting) (signals : Signals) (start : Map) (v : Visited) (place : ℕ) (log : List Entry) → HasVisited s signals start v → place ≤ length v.rows.items → log ≡ log_at v.rows.items place → IsBlockRun s log
run_at s signals start v place log h there is =
    subst (IsBlockRun s) (sym is) (All-contains (IsBlockRun s) (logs_of v.rows.items) (log_at v.rows.items place) h.runs (has_log v.rows.items place there))

pub open_run : (task : Task) (x : Searcher) (from : Reached) → IsOpenAt task x from → IsBlockRun (setting_for task) from.log.items
open_run task x from opened = run_at (setting_for task) task.signals x.made.start x.visited from.place from.log.items opened.searching.visited opened.place opened.log_is

pub open_spoken : (task : Task) (x : Searcher) (from : Reached) → IsOpenAt task x from → IsSpokenOf task.signals (setting_for task) from.log.items
open_spoken task x from opened =
    let s = setting_for task in
    let v = x.visited in
    subst (IsSpokenOf task.signals s) (sym opened.log_is) (All-contains (IsSpokenOf task.signals s) (logs_of v.rows.items) (log_at v.rows.items from.place) opened.searching.visited.spoken (has_log v.rows.items from.place opened.place))

pub going : (task : Task) (x : Searcher) (from : Reached) (h : ℕ) → IsTask task → IsOpenAt task x from → StandAfter (setting_for task) from.log.items x.made.parts → h < task.limits.harts
    → IsGoing (setting_for task) from.log.items x.made.code x.made.parts h
going task x from h is opened stands lt = record {
  run = open_run task x from opened;
  stands = stands;
  limits = is.in_range;
  pages = opened.searching.code;
  goes = opened.goes;
  room = opened.room;
  lt = lt;
}

pub may_visit : (task : Task) (x : Searcher) (from : Reached) (entries : List Entry) (owed : ℕ) (made : Remade) → IsTask task → IsOpenAt task x from
    → IsStandingAt (setting_for task) task.signals from.log.items entries owed made.parts
    → made.start ≡ x.made.start → MayVisit (setting_for task) task.signals x.visited from entries owed made
may_visit task x from entries owed made is opened there start_is = record {
  visited = subst (λ (start : Map). HasVisited (setting_for task) task.signals start x.visited) (sym start_is) opened.searching.visited;
  laid = loaded_is_laid_out task.limits.frames task.image.now is.bootable;
  started = started_same (setting_for task) x.made.start made.start start_is opened.searching.started;
  place = opened.place;
  log_is = opened.log_is;
  there = there;
}

pub few_entries : (s : Setting) (log entries : List Entry) → InRange s.limits → IsBlockRun s (log ++ entries) → length log + length entries < 4294967296
few_entries s log entries range run =
    let size = length-append log entries in
    let few = within_limit s (log ++ entries) run in
    let most = range.most_steps in
    omega arith

-- the place is there, whatever else is visited
pub still_open : (task : Task) (x x' : Searcher) (from : Reached) → IsOpenAt task x from → IsSearching task x' → IsMore x.visited x'.visited
    → (x'.moved ≡ false → StandAfter (setting_for task) from.log.items x'.made.parts) → IsOpenAt task x' from
still_open task x x' from opened searching more stands =
    let size = length-append x.visited.rows.items more.more_rows in
    let all : length x'.visited.rows.items ≡ length x.visited.rows.items + length more.more_rows = ap (λ (rows : List Row). length rows) more.rows ∙ size in
    let there : from.place ≤ length x.visited.rows.items = opened.place in
    record {
      searching = searching;
      place = omega arith;
      log_is = opened.log_is ∙ sym (stays_at x.visited.rows.items more.more_rows from.place there) ∙ sym (ap (λ (rows : List Row). log_at rows from.place) more.rows);
      kept = opened.kept ∙ kept_stays x.visited.rows.items x'.visited.rows.items more.more_rows from.place more.rows there;
      goes = opened.goes;
      room = opened.room;
      stands = stands;
      sees = opened.sees;
      owed = opened.owed;
    }

-- a search with other parts, which are those of the same program
pub searching_on : (task : Task) (x x' : Searcher) → IsSearching task x → x'.visited ≡ x.visited → x'.graph ≡ x.graph → x'.made.start ≡ x.made.start
    → x'.made.code ≡ x.made.code → AreStanding (setting_for task) x'.checkpoints → IsSearching task x'
searching_on task x x' is visited graph start code standing =
    let s = setting_for task in
    record {
      visited = subst (λ (m : Map). HasVisited s task.signals m x'.visited) (sym start) (subst (HasVisited s task.signals x.made.start) (sym visited) is.visited);
      started = started_same s x.made.start x'.made.start start is.started;
      code = code ∙ is.code;
      standing = standing;
      graph = subst (λ (v : Visited). IsTrue s (ways_of task) (logs_of v.rows.items) x'.graph) (sym visited) (subst (IsTrue s (ways_of task) (logs_of x.visited.rows.items)) (sym graph) is.graph);
      few = subst (λ (v : Visited). length v.rows.items < task.most) (sym visited) is.few;
      single = λ off. subst (λ (v : Visited). AreSingle v.rows.items) (sym visited) (is.single off);
      paid = subst (λ (v : Visited). ArePaid (cost_of task.preemptions) (budget_of task.preemptions) v.rows.items) (sym visited) is.paid;
    }

-- after a visit, with these edges
pub opened_after : (task : Task) (x : Searcher) (from : Reached) (made : Remade) (v : Visited) (g : Graph) → IsOpenAt task x from → HasVisited (setting_for task) task.signals made.start v → IsStart (setting_for task) made.start
    → made.code ≡ x.made.code → length v.rows.items < task.most → IsMore x.visited v → IsTrue (setting_for task) (ways_of task) (logs_of v.rows.items) g
    → (task.settle ≡ false → AreSingle v.rows.items) → ArePaid (cost_of task.preemptions) (budget_of task.preemptions) v.rows.items
    → IsOpenAt task (record { visited = v; graph = g; made = made; moved = true; checkpoints = x.checkpoints }) from
opened_after task x from made v g opened has started code few more is_true single paid =
    let now : Searcher = record { visited = v; graph = g; made = made; moved = true; checkpoints = x.checkpoints } in
    still_open task x now from opened (record { visited = has; started = started; code = code ∙ opened.searching.code; standing = opened.searching.standing; graph = is_true; few = few; single = single; paid = paid }) more (λ bad. absurd cc)

some_not : (o : Option End) → true ≡ is_some o → o ≡ None → ⊥
some_not None is none = absurd cc
some_not (Some e) is none = absurd cc

-- a place at which the run is over
pub ended_at : (task : Task) (x : Searcher) (from : Reached) (place : ℕ) → IsReached task x from → from.place ≡ place → true ≡ is_some x.made.parts.ended → IsEndedAt (setting_for task) (logs_of x.visited.rows.items) place
ended_at task x from place reached is some =
    let s = setting_for task in
    let size = logs_length x.visited.rows.items in
    let there = reached.place in
    let log : log_at x.visited.rows.items place ≡ from.log.items = ap (log_at x.visited.rows.items) (sym is) ∙ sym reached.log_is in
    record {
      visited = omega arith;
      over = λ none. some_not x.made.parts.ended some (reached.stands.ended ∙ (ap (λ (l : List Entry). plain_over (plain_after s l)) (sym log) ∙ none));
    }

pub expanded_over : (s : Setting) (ways : Ways) (preemptions : Option ℕ) (left_out : Bool) (logs : Logs) (g : Graph) (place : ℕ) (log : List Entry) (m : Parts) → StandAfter s log m → (m.ended ≡ None → ⊥)
    → Contains g.ended.items place → IsExpanded s ways preemptions left_out logs g place log
expanded_over s ways preemptions left_out logs g place log m stands over noted = record {
  room = λ goes. absurd (over (stands.ended ∙ goes));
  tried = λ h c opened due. absurd (over (stands.ended ∙ opened.goes));
  over = λ is. noted;
}

pub expanded_end : (task : Task) (x : Searcher) (from : Reached) (g : Graph) (place : ℕ) → IsReached task x from → from.place ≡ place → true ≡ is_some x.made.parts.ended → Contains g.ended.items place
    → IsExpanded (setting_for task) (ways_of task) task.preemptions x.visited.left_out (logs_of x.visited.rows.items) g place (log_at x.visited.rows.items place)
expanded_end task x from g place reached is some noted =
    let s = setting_for task in
    let logs = logs_of x.visited.rows.items in
    let log : from.log.items ≡ log_at x.visited.rows.items place = reached.log_is ∙ ap (log_at x.visited.rows.items) is in
    subst (IsExpanded s (ways_of task) task.preemptions x.visited.left_out logs g place) log (expanded_over s (ways_of task) task.preemptions x.visited.left_out logs g place from.log.items x.made.parts reached.stands (some_not x.made.parts.ended some) noted)

pub open_at : (task : Task) (x : Searcher) (from : Reached) → IsSearching task x → IsReached task x from → false ≡ is_some x.made.parts.ended → length from.log.items < task.limits.steps → IsOpenAt task x from
open_at task x from searching reached none room = record {
  searching = searching;
  place = reached.place;
  log_is = reached.log_is;
  kept = reached.kept;
  goes = sym reached.stands.ended ∙ ended_none x.made.parts.ended none;
  room = room;
  stands = λ there. reached.stands;
  sees = record { parts = x.made.parts; stands = reached.stands; sights = reached.sees; dues = reached.dues };
  owed = λ h lt. ap (λ n. has_hart n h) reached.owed ∙ searching.visited.owed from.place reached.place h lt ∙ (λ i. owed_after task.signals (setting_for task) (sym reached.log_is i) h);
}

-- WHAT WAS TRIED

abbrev IsCalm : Setting → Ways → List Entry → ℕ → Choice → Type 0
IsCalm s ways log h c = LeavesAreas s (settles_of (all_or_none ways)) none_private (plain_after s log) (h, c)

-- the law of keys, for parts without counts
abbrev EqualWordsAreOnePlace : Type 0
EqualWordsAreOnePlace =
    (start : Map) (m other : Parts) (s : Setting) (p q : Plain) → parts_words start m ≡ parts_words start other → IsTied s p m → IsTied s q other → IsSamePlace s p q

pub same_where : (s : Setting) (start : Map) (log other : List Entry) (m n : Parts) → EqualWordsAreOnePlace → parts_words start n ≡ parts_words start m → StandAfter s other n → StandAfter s log m
    → IsSamePlace s (plain_after s other) (plain_after s log)
same_where s start log other m n law words there here =
    same_but_counts s (plain_after s other) (plain_after s log) (rested (plain_after s other)) (rested (plain_after s log))
    (law start n m s (rested (plain_after s other)) (rested (plain_after s log)) words there here)

-- the laws of owed signals, as contracts say them
abbrev pub SetsSayWhatIsOwed : Type 0
SetsSayWhatIsOwed =
    (s : Setting) (signals : Signals) (p : Plain) (m : Parts) (owed : ℕ → Bool) (before h : ℕ) (c : Choice) → s.limits.harts ≤ 8 → h < s.limits.harts
    → ((k : ℕ) → k < s.limits.harts → has_hart before k ≡ owed k) → IsTied s (rested (machine_after s p h c)) m → (k : ℕ) → k < s.limits.harts
    → has_hart (harts_that (owes_in signals m before h c (traps (here_in_plain s p h))) 8) k ≡ owed_next signals s p owed h c k

abbrev pub DuesSayYes : Type 0
DuesSayYes =
    (s : Setting) (p : Plain) (m : Parts) (owed : ℕ → Bool) (set h : ℕ) (x : Dues) (c : Choice) → s.limits.harts ≤ 8 → h < s.limits.harts → has_hart set h ≡ owed h → IsTied s (rested p) m
    → AreDuesOf m set x → is_in_time x h c ≡ true → IsInTime p owed h c

-- a choice that the dues let pass comes in time
pub comes_in_time : (task : Task) (x : Searcher) (from : Reached) (h : ℕ) (c : Choice) → IsTask task → IsOpenAt task x from → h < task.limits.harts → is_in_time from.dues h c ≡ true → DuesSayYes
    → IsInTime (plain_after (setting_for task) from.log.items) (owed_after task.signals (setting_for task) from.log.items) h c
comes_in_time task x from h c is opened lt passes law =
    law (setting_for task) (plain_after (setting_for task) from.log.items) opened.sees.parts (owed_after task.signals (setting_for task) from.log.items) from.owed h from.dues c
    is.in_range.eight_harts lt (opened.owed h lt) opened.sees.stands opened.sees.dues passes

-- so does the entry of its event
pub entry_in_time : (s : Setting) (signals : Signals) (log : List Entry) (h : ℕ) (c : Choice) (e : Entry) (m : Parts) → IsLonger s log h c e m → IsInTime (plain_after s log) (owed_after signals s log) h c
    → IsInTime (plain_after s log) (owed_after signals s log) e.hart.0 (choice_of e)
entry_in_time s signals log h c e m longer in_time =
    let p = plain_after s log in
    let own = owed_after signals s log in
    subst (λ (n : ℕ). IsInTime p own n (choice_of e)) (sym longer.hart) (subst (IsInTime p own h) (sym longer.choice) in_time)

-- after its event the parts stand at a run that is spoken of, and the set says what is owed there
pub event_stands : (s : Setting) (signals : Signals) (log : List Entry) (h : ℕ) (c : Choice) (e : Entry) (m : Parts) (before owed : ℕ) (trapped : Bool) → s.limits.harts ≤ 8 → h < s.limits.harts
    → IsSpokenOf signals s log → IsOwedAfter s signals log before → IsInTime (plain_after s log) (owed_after signals s log) h c → IsLonger s log h c e m
    → trapped ≡ traps (here_in_plain s (plain_after s log) h) → owed ≡ harts_that (owes_in signals m before h c trapped) 8 → SetsSayWhatIsOwed → IsStandingAt s signals log (e ∷ []) owed m
event_stands s signals log h c e m before owed trapped few lt spoken set in_time longer traps_are owed_is law =
    let p = plain_after s log in
    let own = owed_after signals s log in
    let at = entry_in_time s signals log h c e m longer in_time in
    let tied : IsTied s (rested (machine_after s p h c)) m = subst (λ (q : Plain). IsTied s (rested q) m) longer.next longer.stands in
    let after : owed_after signals s (log ++ e ∷ []) ≡ owed_next signals s p own h c = owed_more signals s log (e ∷ []) ∙ (λ i. owed_next signals s p own (longer.hart i) (longer.choice i)) in
    record {
      run = longer.run;
      spoken = spoken_more signals s log (e ∷ []) spoken (at, tt);
      set = λ k below.
          ap (λ n. has_hart n k) (owed_is ∙ ap (λ b. harts_that (owes_in signals m before h c b) 8) traps_are)
          ∙ law s signals p m own before h c few lt set tied k below ∙ (λ i. sym after i k);
      stands = longer.stands;
    }

head_same : (x y : ℕ) (xs ys : List ℕ) → x ∷ xs ≡ y ∷ ys → x ≡ y
head_same x y xs ys is = cc

tail_same : (x y : ℕ) (xs ys : List ℕ) → x ∷ xs ≡ y ∷ ys → xs ≡ ys
tail_same x y xs ys is = cc

-- an edge is busy just if the entries of an event of this choice, and of settling steps after it, are instructions
abbrev pub IsBusyBy : Bool → Choice → List Entry → Type 0
IsBusyBy busy c entries = busy ≡ true ↔ 0 < instructions_by c + (length entries - 1)

-- settling steps after the event of a choice lead to a place that has a number
leads_to : (s : Setting) (ways : Ways) (busy : Bool) (start : Map) (logs : Logs) (log : List Entry) (h : ℕ) (c : Choice) (e : Entry) (entries : List Entry) (after : Parts) (owed to : ℕ)
    → e.hart.0 ≡ h → choice_of e ≡ c → plain_after s (log ++ e ∷ []) ≡ plain_after_choice s (plain_after s log) h c → HasMore s ways log (e ∷ []) entries → IsStandingAt s ways.signals log entries owed after
    → IsKeyOf s ways.signals start logs (packed (owed ∷ parts_words start after), to) → ((words others : List ℕ) → packed words ≡ packed others → words ≡ others) → EqualWordsAreOnePlace → IsBusyBy busy c entries
    → LeadsSo s ways busy log (log_by_number logs to) h c
leads_to s ways busy start logs log h c e entries after owed to hart choice next settles there key equal law told =
    let settled = settles (e ∷ []) (record { more = []; entries_are = refl; steps = tt }) in
    let other = log_by_number logs to in
    let all : log ++ entries ≡ (log ++ e ∷ []) ++ settled.more = ap (λ (es : List Entry). log ++ es) settled.entries_are ∙ sym (append_assoc log (e ∷ []) settled.more) in
    let words = equal (key.owed ∷ parts_words start key.parts) (owed ∷ parts_words start after) key.words in
    let bits : key.owed ≡ owed = head_same key.owed owed (parts_words start key.parts) (parts_words start after) words in
    let same = same_where s start (log ++ entries) other after key.parts law (tail_same key.owed owed (parts_words start key.parts) (parts_words start after) words) key.stands there.stands in
    let size : length entries ≡ length ((e ∷ []) ++ settled.more) = ap (λ (es : List Entry). length es) settled.entries_are in
    let joined = length-append (e ∷ []) settled.more in
    record {
      leads = record {
        entry = e;
        hart = hart;
        choice = choice;
        next = next;
        settles = record {
          more = settled.more;
          steps = settled.steps;
          other = other;
          stored = (0, lit< tt, refl);
          same = subst (λ (l : List Entry). IsSamePlace s (plain_after s other) (plain_after s l)) all same;
          owed = λ k lt. sym (key.set k lt) ∙ ap (λ n. has_hart n k) bits ∙ there.set k lt ∙ (λ i. owed_after ways.signals s (all i) k);
        };
      };
      told = (λ on. let some = told.0 on in omega (arith, some, size, joined), λ some. told.1 (omega (arith, some, size, joined)));
    }

pub tried_ok : (s : Setting) (ways : Ways) (cost : Choice → ℕ) (start : Map) (logs : Logs) (g : Graph) (place : ℕ) (log : List Entry) (h : ℕ) (c : Choice) (e : Entry) (m : Parts) (entries : List Entry) (after : Parts) (owed : ℕ) (edge : Edge)
    → IsCarried s (plain_after s log) h c → IsCalm s ways log h c → IsLonger s log h c e m → HasMore s ways log (e ∷ []) entries → IsStandingAt s ways.signals log entries owed after
    → edge.from ≡ place → spent cost (log_by_number logs edge.to) ≤ spent cost log + cost c → Contains g.edges.items edge → IsKeyOf s ways.signals start logs (packed (owed ∷ parts_words start after), edge.to)
    → ((words others : List ℕ) → packed words ≡ packed others → words ≡ others) → EqualWordsAreOnePlace → IsBusyBy edge.busy c entries → IsTriedAt s ways cost logs g place log h c
tried_ok s ways cost start logs g place log h c e m entries after owed edge carried calm longer settles there from cheap among key equal law told = record {
  carried = λ in_time. carried;
  calm = λ in_time free. calm;
  next = λ in_time free. (
    record {
      edge = edge;
      among = among;
      from = from;
      to = key.visited;
      along = leads_to s ways edge.busy start logs log h c e entries after owed edge.to longer.hart longer.choice longer.next settles there key equal law told;
    },
    cheap,
  );
}

pub tried_refused : (s : Setting) (ways : Ways) (cost : Choice → ℕ) (logs : Logs) (g : Graph) (place : ℕ) (log : List Entry) (h : ℕ) (c : Choice) (why : Why) → IsCarried s (plain_after s log) h c
    → refusal_of c (here_in_plain s (plain_after s log) h) ≡ Some why → IsTriedAt s ways cost logs g place log h c
tried_refused s ways cost logs g place log h c why carried refused = record {
  carried = λ in_time. carried;
  calm = λ in_time free. let bad : Some why ≡ None = sym refused ∙ free in absurd cc;
  next = λ in_time free. let bad : Some why ≡ None = sym refused ∙ free in absurd cc;
}

pub tried_late : (s : Setting) (ways : Ways) (cost : Choice → ℕ) (logs : Logs) (g : Graph) (place : ℕ) (log : List Entry) (h : ℕ) (c : Choice) → (ComesInTime s ways log h c → ⊥) → IsTriedAt s ways cost logs g place log h c
tried_late s ways cost logs g place log h c late = record {
  carried = λ in_time. absurd (late in_time);
  calm = λ in_time free. absurd (late in_time);
  next = λ in_time free. absurd (late in_time);
}

-- where no thread settles, the entry of the event is the only one
none_settle : (s : Setting) (ways : Ways) (log more : List Entry) → ways.settle ≡ false → AreSettlingSteps s ways.signals (all_or_none ways) none_private log more → more ≡ []
none_settle s ways log [] off steps = refl
none_settle s ways log (e ∷ more) off steps = let on : ways.settle ≡ true = steps.0.rests.may in absurd (cc (sym on ∙ off))

pub one_entry : (s : Setting) (ways : Ways) (log entries : List Entry) (e : Entry) → ways.settle ≡ false → HasMore s ways log (e ∷ []) entries → length entries ≡ 1
one_entry s ways log entries e off more =
    let settled = more (e ∷ []) (record { more = []; entries_are = refl; steps = tt }) in
    let none : settled.more ≡ [] = none_settle s ways (log ++ e ∷ []) settled.more off settled.steps in
    ap (λ (l : List Entry). length l) (settled.entries_are ∙ ap (λ (l : List Entry). (e ∷ []) ++ l) none)

-- the edge of an entry that a run has after the log
pub made_ok : (s : Setting) (ways : Ways) (start : Map) (logs : Logs) (log : List Entry) (e : Entry) (entries : List Entry) (after : Parts) (owed : ℕ) (edge : Edge) → IsBlockRun s (log ++ e ∷ []) → IsInTime (plain_after s log) (owed_after ways.signals s log) e.hart.0 (choice_of e)
    → HasMore s ways log (e ∷ []) entries → IsStandingAt s ways.signals log entries owed after → edge.from < length logs → log ≡ log_by_number logs edge.from
    → IsKeyOf s ways.signals start logs (packed (owed ∷ parts_words start after), edge.to) → ((words others : List ℕ) → packed words ≡ packed others → words ≡ others) → EqualWordsAreOnePlace → IsBusyBy edge.busy (choice_of e) entries
    → IsMade s ways logs edge
made_ok s ways start logs log e entries after owed edge run in_time settles there from is key equal law told =
    let v : Seen = record { setting = s; seed = 0; log = log } in
    let last = next_event v e (done_of (choice_of e) (here_of v e.hart.0)) (run_before s log (e ∷ []) run) (last_decided s log e run) refl in
    let along = leads_to s ways edge.busy start logs log e.hart.0 (choice_of e) e entries after owed edge.to refl refl last.next settles there key equal law told in
    let made : IsEdge s ways.signals (all_or_none ways) none_private log (log_by_number logs edge.to) = record {
      hart = e.hart.0;
      choice = choice_of e;
      may = record { goes = last.goes; lt = last.lt; free = last.free };
      in_time = in_time;
      leads = along.leads;
    } in
    record {
      from = from;
      to = key.visited;
      made = subst (λ (l : List Entry). IsEdge s ways.signals (all_or_none ways) none_private l (log_by_number logs edge.to)) is made;
      busy = λ on. subst (λ (l : List Entry). IsBusyEdge s ways.signals (all_or_none ways) none_private l (log_by_number logs edge.to)) is (record { edge = made; busy = along.told.0 on });
    }

-- it stays so as more is visited, and more edges are found
pub tried_stays : (s : Setting) (ways : Ways) (cost : Choice → ℕ) (v v' : Visited) (g g' : Graph) (place : ℕ) (log : List Entry) (h : ℕ) (c : Choice) → IsMore v v' → IsWithMore g g'
    → IsTriedAt s ways cost (logs_of v.rows.items) g place log h c → IsTriedAt s ways cost (logs_of v'.rows.items) g' place log h c
tried_stays s ways cost v v' g g' place log h c more grown tried = record {
  carried = tried.carried;
  calm = tried.calm;
  next = λ in_time free.
      let was = tried.next in_time free in
      let same = number_stays v.rows.items v'.rows.items more.more_rows was.0.edge.to more.rows was.0.to in
      (along_stays s ways v v' g g' place log h c more grown was.0, subst (λ (l : List Entry). spent cost l ≤ spent cost log + cost c) same was.1);
}

-- where it has to be tried
pub where_due_stays : (task : Task) (x x' : Searcher) (from : Reached) (h : ℕ) (c : Choice) → IsMore x.visited x'.visited → IsWithMore x.graph x'.graph → IsTriedWhereDue task x from h c → IsTriedWhereDue task x' from h c
where_due_stays task x x' from h c more grown tried = λ due.
    tried_stays (setting_for task) (ways_of task) (cost_of task.preemptions) x.visited x'.visited x.graph x'.graph from.place from.log.items h c more grown
    (tried (due_before task.preemptions x.visited.left_out x'.visited.left_out from.log.items c more.left_out due))

pub all_stay : (task : Task) (x x' : Searcher) (from : Reached) (h : ℕ) (choices : List Choice) → IsMore x.visited x'.visited → IsWithMore x.graph x'.graph → All (IsTriedWhereDue task x from h) choices
    → All (IsTriedWhereDue task x' from h) choices
all_stay task x x' from h choices more grown tried = All-weaker (IsTriedWhereDue task x from h) (IsTriedWhereDue task x' from h) (λ c one. where_due_stays task x x' from h c more grown one) choices tried

pub expanded_stays : (task : Task) (x x' : Searcher) (place : ℕ) (log : List Entry) → IsMore x.visited x'.visited → IsWithMore x.graph x'.graph → Contains (logs_of x.visited.rows.items) log → IsExpandedAt task x place log
    → IsExpandedAt task x' place log
expanded_stays task x x' place log more grown visited expanded =
    let g = x.graph in
    record {
      room = expanded.room;
      tried = λ h c opened due.
          tried_stays (setting_for task) (ways_of task) (cost_of task.preemptions) x.visited x'.visited g x'.graph place log h c more grown
          (expanded.tried h c (record { visited = visited; goes = opened.goes; lt = opened.lt; tried = opened.tried }) (due_before task.preemptions x.visited.left_out x'.visited.left_out log c more.left_out due));
      over = λ is. subst (λ (ks : List ℕ). Contains ks place) (sym grown.ended) (Contains-append_left g.ended.items grown.more_ended place (expanded.over is));
    }

-- WHAT A LOG COSTS

-- what a place costs that a choice is tried at
pub kept_cost : (task : Task) (x : Searcher) (from : Reached) → IsOpenAt task x from → from.preemptions ≡ spent (cost_of task.preemptions) from.log.items
kept_cost task x from opened =
    let rows = x.visited.rows.items in
    let cost = cost_of task.preemptions in
    opened.kept ∙ sym (kept_is cost (budget_of task.preemptions) rows opened.searching.paid from.place) ∙ ap (spent cost) (sym opened.log_is)

-- and the place after the choice
pub cost_after : (task : Task) (x : Searcher) (from : Reached) (entries : List Entry) (n : ℕ) (c : Choice) (e : Entry) → IsOpenAt task x from → choice_of e ≡ c
    → HasMore (setting_for task) (ways_of task) from.log.items (e ∷ []) entries → paid_with task.preemptions from.preemptions c ≡ Some n
    → (spent (cost_of task.preemptions) (from.log.items ++ entries) ≡ n) × (n ≤ budget_of task.preemptions) × (n ≡ spent (cost_of task.preemptions) from.log.items + cost_of task.preemptions c)
cost_after task x from entries n c e opened choice more is =
    let paid = paid_some task.preemptions from.preemptions n c is in
    let kept = kept_cost task x from opened in
    let all = spent_after (setting_for task) (ways_of task) task.preemptions from.log.items entries c e choice more in
    let same = paid.0 in
    (omega arith, paid.1, omega arith)

-- ALL CHOICES OF A PLACE

pub tables_at : (s : Setting) (log : List Entry) → IsBlockRun s log → IsTables s.limits.harts (plain_after s log).kernel.threads (plain_after s log).kernel.scheduling
tables_at s log run = let v : Seen = record { setting = s; seed = 0; log = log } in (standing v run).sound.tables

pub expanded_by : (task : Task) (x : Searcher) (from : Reached) (choices : List Choice) (order : List ℕ) → let s = setting_for task in let log = from.log.items in IsBlockRun s log → plain_over (plain_after s log) ≡ None
    → length log < s.limits.steps → order ≡ (plain_after s log).kernel.scheduling.order → choices ≡ all_choices order
    → ((c : Choice) → IsTables s.limits.harts (plain_after s log).kernel.threads (plain_after s log).kernel.scheduling → IsTried (plain_after s log).kernel.threads c
    → Contains (all_choices (plain_after s log).kernel.scheduling.order) c)
    → ((h : ℕ) → h < s.limits.harts → All (IsTriedWhereDue task x from h) choices) → IsExpandedAt task x from.place log
expanded_by task x from choices order run goes room order_is choices_are listed tried =
    let s = setting_for task in
    let log = from.log.items in
    let all : all_choices (plain_after s log).kernel.scheduling.order ≡ choices = ap all_choices (sym order_is) ∙ sym choices_are in
    record {
      room = λ still. room;
      tried = λ h c opened due.
          All-contains (IsTriedWhereDue task x from h) choices c (tried h opened.lt) (subst (λ (cs : List Choice). Contains cs c) all (listed c (tables_at s log run) opened.tried)) due;
      over = λ is. absurd (is goes);
    }

-- ALL PLACES

only : (x y : List Entry) → Contains (x ∷ []) y → x ≡ y
only x y (zero, lt, at) = at
only x y (suc i, lt, at) = absurd (omega (arith, lt))

shallow_before : (a b : Bool) → (a ≡ true → b ≡ true) → b ≡ false → a ≡ false
shallow_before true b stays is = sym (stays refl) ∙ is
shallow_before false b stays is = refl

-- each place is expanded
abbrev pub AreExpanded : Task → Searcher → ℕ → Type 0
AreExpanded task x place = (k : ℕ) → k < place → IsExpandedAt task x k (log_at x.visited.rows.items k)

pub expanded_next : (task : Task) (x x' : Searcher) (place : ℕ) → IsMore x.visited x'.visited → IsWithMore x.graph x'.graph → place ≤ length x.visited.rows.items
    → (x.visited.deep ≡ false → AreExpanded task x place) → (x'.visited.deep ≡ false → IsExpandedAt task x' place (log_at x'.visited.rows.items place)) → x'.visited.deep ≡ false → AreExpanded task x' (place + 1)
expanded_next task x x' place more grown there before here shallow =
    let rows = x.visited.rows.items in
    let P : ℕ → Type 0 = λ k. IsExpandedAt task x' k (log_at x'.visited.rows.items k) in
    below_more P place
    (λ k lt.
    let within : k ≤ length rows = omega (arith, lt) in
    let same : log_at rows k ≡ log_at x'.visited.rows.items k = sym (ap (λ (r : List Row). log_at r k) more.rows ∙ stays_at rows more.more_rows k within) in
    subst (IsExpandedAt task x' k) same
    (expanded_stays task x x' k (log_at rows k) more grown (has_log rows k within) (before (shallow_before x.visited.deep x'.visited.deep more.deep shallow) k lt)))
    (here shallow)

-- the number of a log, and that it is expanded under it
numbered : (task : Task) (x : Searcher) (place : ℕ) → length x.visited.rows.items + 1 ≤ place → AreExpanded task x place → (log : List Entry) → Contains (logs_of x.visited.rows.items) log → (k : ℕ) × IsExpandedAt task x k log
numbered task x place all each log (k, lt, at) =
    let rows = x.visited.rows.items in
    let size = logs_length rows in
    let same : log_at rows k ≡ log = get_or_default (logs_of rows) k [] log lt ∙ at in
    (k, subst (IsExpandedAt task x k) same (each k (omega (arith, lt))))

has_number : (logs : Logs) (k : ℕ) → k < length logs → Contains logs (log_by_number logs k)
has_number logs k lt = Contains-get_or logs k [] lt

-- an edge leads to one of the logs
stored_along : (s : Setting) (ways : Ways) (logs : Logs) (edges : List Edge) (place : ℕ) (log : List Entry) (h : ℕ) (c : Choice) → LeadsAlong s ways logs edges place log h c
    → LeadsToStored s ways.signals (all_or_none ways) none_private logs log h c
stored_along s ways logs edges place log h c along =
    let settles = along.along.leads.settles in
    let other = log_by_number logs along.edge.to in
    record {
      entry = along.along.leads.entry;
      hart = along.along.leads.hart;
      choice = along.along.leads.choice;
      next = along.along.leads.next;
      settles = record {
        more = settles.more;
        steps = settles.steps;
        other = settles.other;
        stored = subst (Contains logs) (only other settles.other settles.stored) (has_number logs along.edge.to along.to);
        same = settles.same;
        owed = settles.owed;
      };
    }

-- the start is one of the logs
starts : (s : Setting) (ways : Ways) (rows : List Row) → SettlesBack s ways.signals (all_or_none ways) none_private (logs_of rows) []
starts s ways rows = record { more = []; steps = tt; other = []; stored = has_first rows; same = same_itself s (plain_after s []); owed = λ k lt. refl }

module _ (task : Task) (x : Searcher) (place : ℕ) (steps : (setting_for task).limits.steps ≤ 1000000) (h : HasVisited (setting_for task) task.signals x.made.start x.visited)
    (all : length x.visited.rows.items + 1 ≤ place) (each : AreExpanded task x place) where
  abbrev s : Setting
  s = setting_for task

  abbrev ways : Ways
  ways = ways_of task

  abbrev rows : List Row
  rows = x.visited.rows.items

  abbrev Stored : List Entry → ℕ → Choice → Type 0
  Stored log k c = LeadsToStored s task.signals (all_or_none ways) none_private (logs_of rows) log k c

  at : (log : List Entry) → Contains (logs_of rows) log → (k : ℕ) × IsExpandedAt task x k log
  at log visited = numbered task x place all each log visited

  -- where each choice has to be tried
  pub searched_by : ((log : List Entry) (c : Choice) → IsDue task.preemptions x.visited.left_out log c) → IsSettledSearch s task.signals (all_or_none ways) none_private (logs_of rows)
  searched_by due = record {
    steps = steps;
    runs = h.runs;
    spoken = h.spoken;
    room = λ log visited goes. (at log visited).1.room goes;
    start = starts s ways rows;
    carried = λ log k c w. ((at log w.opens.visited).1.tried k c w.opens (due log c)).carried w.in_time;
    calm = λ log k c w free. ((at log w.opens.visited).1.tried k c w.opens (due log c)).calm w.in_time free;
    next = λ log k c w free.
        stored_along s ways (logs_of rows) x.graph.edges.items (at log w.opens.visited).0 log k c (((at log w.opens.visited).1.tried k c w.opens (due log c)).next w.in_time free).0;
  }

  pub whole_by : ((log : List Entry) (c : Choice) → IsDue task.preemptions x.visited.left_out log c) → IsWhole s ways (logs_of rows) x.graph
  whole_by due =
      let size = logs_length rows in
      record {
        ended = λ k lt over. (each k (omega (arith, lt))).over over;
        edges = λ k h c lt w free. (((each k (omega (arith, lt))).tried h c w.opens (due (log_by_number (logs_of rows) k) c)).next w.in_time free).0;
      }

  -- and where each that can be paid for has to be
  pub searched_within : IsSettledSearchWithin s task.signals (all_or_none ways) none_private (cost_of task.preemptions) (budget_of task.preemptions) (logs_of rows)
  unfolding stored_along at starts
  searched_within = record {
    steps = steps;
    runs = h.runs;
    spoken = h.spoken;
    room = λ log visited goes. (at log visited).1.room goes;
    start = (starts s ways rows, omega arith);
    carried = λ log k c w. ((at log w.opens.opens.visited).1.tried k c w.opens.opens (inr w.cheap)).carried w.opens.in_time;
    calm = λ log k c w free. ((at log w.opens.opens.visited).1.tried k c w.opens.opens (inr w.cheap)).calm w.opens.in_time free;
    next = λ log k c w free.
        let a = at log w.opens.opens.visited in
        let along = (a.1.tried k c w.opens.opens (inr w.cheap)).next w.opens.in_time free in
        let leads : Stored log k c = stored_along s ways (logs_of rows) x.graph.edges.items a.0 log k c along.0 in
        let same = only (log_by_number (logs_of rows) along.0.edge.to) along.0.along.leads.settles.other along.0.along.leads.settles.stored in
        (leads, subst (λ (l : List Entry). spent (cost_of task.preemptions) l ≤ spent (cost_of task.preemptions) log + cost_of task.preemptions c) same along.1);
  }

-- where no thread settles, it is so of a search in which none does
pub all_visited : (s : Setting) (ways : Ways) (logs : Logs) → ways.settle ≡ false → IsSettledSearch s ways.signals (all_or_none ways) none_private logs
    → IsSettledSearch s ways.signals (λ t. false) (λ t b. false) logs
all_visited s ways logs off h = subst (λ (b : Bool). IsSettledSearch s ways.signals (λ t. b) (λ t b. false) logs) off h

-- A LOG AT THE STEP LIMIT

pub at_limit_of : (task : Task) (x : Searcher) (from : Reached) → IsSearching task x → IsReached task x from → false ≡ is_some x.made.parts.ended → task.limits.steps ≤ length from.log.items
    → Contains (logs_of x.visited.rows.items) from.log.items × IsAtLimit (setting_for task) from.log.items
at_limit_of task x from searching reached none full =
    let s = setting_for task in
    let there : Contains (logs_of x.visited.rows.items) from.log.items =
    subst (Contains (logs_of x.visited.rows.items)) (sym reached.log_is) (has_log x.visited.rows.items from.place reached.place) in
    let few : length from.log.items ≤ s.limits.steps =
    All-contains (λ (log : List Entry). length log ≤ s.limits.steps) (logs_of x.visited.rows.items) from.log.items searching.visited.short there in
    (there, record { goes = sym reached.stands.ended ∙ ended_none x.made.parts.ended none; all_steps = omega arith })

pub next_there : (v v' : Visited) (place : ℕ) → IsMore v v' → place ≤ length v.rows.items → place + 1 ≤ length v'.rows.items + 1
next_there v v' place more there =
    let size : length v'.rows.items ≡ length v.rows.items + length more.more_rows = ap (λ (rows : List Row). length rows) more.rows ∙ length-append v.rows.items more.more_rows in
    omega arith
