-- What the record holds for threads at each place of a block run: their ids and their areas.
use Rattle.block_model.proofs.Common.{◌≡◌, ℕ, ◌<◌, ◌≤◌, ◌||◌, List, [], ◌∷◌, ◌++◌, length, find, refl, sym, ap, ◌∙◌, subst, arith, Bool, true, false, cond, Some, None, Ok, AreIdsApart, Area, Choice, Done, Entry, Here, History, IsAllowedLog, IsHeld, IsLeastFree, IsRunHistory, IsSome, Setting, Tid, area_of, choice_of, decide, done, done_killed, done_of, done_running, event, here_in_history, history, id_of, interruption_here, is_area_of, is_live, is_ready, kernel, list_any, lives_on, next_id, option_map, refusal_of, running, running_on, runs, state_of}
use Rattle.mach_types.specs.declared.events.Choice.TheVariants as asked
use Rattle.block_model.proofs.Runs.{allowed_at, fit_at, history-append, settled}
use Rattle.block_model.proofs.Invariants.Events.{run_ready}
use Rattle.block_model.proofs.ThreadRecords.{held_start}
use Rattle.block_model.proofs.Ids.{fewer_than_harts, fewer_than_live, id_now, its_run, next_is, next_low}
use Rattle.block_model.proofs.KernelTables.{ready_state}

pub held_in : (s : Setting) (before : History) → IsRunHistory s before → IsHeld s.limits.harts (kernel s before)
held_in s [] run = held_start s.limits.harts s
held_in s (e ∷ before) run = (fit_at s e before run).held (held_in s before run.0)

pub ids_apart : (s : Setting) (log : List Entry) → s.limits.harts ≤ 8 → IsAllowedLog s log
    → AreIdsApart (kernel s (history s log)).threads (kernel s (history s log)).ids
ids_apart s log few run =
    (held_in s (history s log) run).ids few

-- where a thread may begin to run
module _ (s : Setting) (log : List Entry) (h : ℕ) (t : Tid) (entry : Entry) (few : s.limits.harts ≤ 8) (run : IsAllowedLog s log)
    (may : decide s (history s log) h (asked.Run t) ≡ Ok entry) where
  fewer : length (kernel s (history s log)).ids < s.limits.harts
  fewer =
      let k = kernel s (history s log) in
      let a = allowed_at s (history s log) h (asked.Run t) entry may in
      let p = run_ready (here_in_history s (history s log) h) t.0 a.free in
      let tables = (settled s (history s log) run).good.kernel.tables in
      fewer_than_harts s.limits.harts h t.0 k.threads k.scheduling k.ids tables ((held_in s (history s log) run).ids few) p.0 a.lt

  fewer_live : length (kernel s (history s log)).ids < length (kernel s (history s log)).threads.live
  fewer_live =
      let k = kernel s (history s log) in
      let a = allowed_at s (history s log) h (asked.Run t) entry may in
      let p = run_ready (here_in_history s (history s log) h) t.0 a.free in
      let tables = (settled s (history s log) run).good.kernel.tables in
      fewer_than_live s.limits.harts h t.0 k.threads k.scheduling k.ids tables ((held_in s (history s log) run).ids few) p.0 a.lt p.1

  low : next_id (kernel s (history s log)).ids ≤ length (kernel s (history s log)).ids
  low = let less = fewer in next_low (kernel s (history s log)).ids (omega arith)

  pub below_harts : next_id (kernel s (history s log)).ids < s.limits.harts
  below_harts = let less = fewer in let is = low in omega arith

  pub below_live : next_id (kernel s (history s log)).ids < length (kernel s (history s log)).threads.live
  below_live = let less = fewer_live in let is = low in omega arith

  pub least_free : IsLeastFree (kernel s (history s log)).ids (next_id (kernel s (history s log)).ids)
  least_free = let less = fewer in next_is (kernel s (history s log)).ids (omega arith)

-- a thread that began to run holds the next id
abbrev IdsOf : Here → ℕ → Done → Type 0
IdsOf here t d = running_on here.hart d.kernel.threads ≡ Some t → id_of t d.kernel.ids ≡ next_id here.kernel.ids

begun : (here : Here) (t : ℕ) (b : Bool) → AreIdsApart here.kernel.threads here.kernel.ids → runs here ≡ None → is_ready t here.kernel.threads ≡ true
    → IdsOf here t (cond b (done_running here t (interruption_here here t)) (done_killed here t (interruption_here here t)))
begun here t true is idle ready there =
    id_now t here.kernel.threads here.kernel.ids is (ap its_run (ready_state (state_of t here.kernel.threads) ready))
begun here t false is idle ready there = let bad : None ≡ Some t = sym idle ∙ there in absurd cc

begun_by : (s : Setting) (before : History) (entry : Entry) → s.limits.harts ≤ 8 → IsRunHistory s (event s before entry ∷ before)
    → choice_of entry ≡ asked.Run entry.tid → IdsOf (here_in_history s before entry.hart.0) entry.tid.0 (done s before entry)
unfolding done
begun_by s before entry few run is =
    let here = here_in_history s before entry.hart.0 in
    let t = entry.tid.0 in
    let a = allowed_at s before entry.hart.0 (choice_of entry) entry run.1 in
    let free : refusal_of (asked.Run entry.tid) here ≡ None = subst (λ (c : Choice). refusal_of c here ≡ None) is a.free in
    let p = run_ready here t free in
    subst (λ (c : Choice). IdsOf here t (done_of c here)) (sym is)
    (begun here t (lives_on here t (interruption_here here t)) ((held_in s before run.0).ids few) p.0 p.1)

pub its_id : (s : Setting) (log : List Entry) (entry : Entry) → s.limits.harts ≤ 8 → IsAllowedLog s (log ++ entry ∷ [])
    → choice_of entry ≡ asked.Run entry.tid → running s entry.hart.0 (history s (log ++ entry ∷ [])) ≡ Some entry.tid.0
    → id_of entry.tid.0 (kernel s (history s (log ++ entry ∷ []))).ids ≡ next_id (kernel s (history s log)).ids
its_id s log entry few run is there =
    let more = history-append s log entry in
    ap (λ (b : History). id_of entry.tid.0 (kernel s b).ids) more
    ∙ begun_by s (history s log) entry few (subst (IsRunHistory s) more run) is (sym (ap (running s entry.hart.0) more) ∙ there)

-- areas
any_found : (t : ℕ) (areas : List (ℕ × Area)) → IsSome (area_of t areas) → list_any (is_area_of t) areas ≡ true
any_found t [] some = absurd cc
any_found t (x ∷ areas) some = go (is_area_of t x) some (any_found t areas)
  where
    go : (b : Bool) → IsSome (option_map (λ (pair : ℕ × Area). pair.1) (cond b (Some x) (find (is_area_of t) areas)))
        → (IsSome (area_of t areas) → list_any (is_area_of t) areas ≡ true) → (b || list_any (is_area_of t) areas) ≡ true
    go true some rest = refl
    go false some rest = rest some

pub areas_live : (s : Setting) (log : List Entry) (t : ℕ) → IsAllowedLog s log
    → IsSome (area_of t (kernel s (history s log)).areas) → is_live t (kernel s (history s log)).threads ≡ true
areas_live s log t run some =
    let k = kernel s (history s log) in
    (held_in s (history s log) run).areas.live t (any_found t k.areas some)
