-- Which concurrency ids a call leaves, and that a thread holds the same one while it runs.
use Rattle.block_model.proofs.Common.{◌≡◌, ℕ, ◌⊎◌, Bool, true, false, cond, List, refl, ap, inl, inr, ◌≢◌, ◌≤◌, ◌∷◌, ◌++◌, ◌∙◌, ◌||◌, not, eqb, [], find, Option, Some, sym, subst, CallDone, Done, Entry, Here, History, IsAllowedLog, IsRunHistory, Kernel, Kind, Setting, Write, argument, called, choice_of, clear_of, cleared, clears, clone_child_cleartid, done, done_of, eqb-true, eqb_tells, event, false≢true, had_child, has_flag, here_in_history, history, id_of, is_id_of, kernel, list_any, ne_eqb, next_id, next_number, option_map_or, requeue, running, without_id, anyone}
use Rattle.block_model.proofs.CallEffects.{Answers, Bears, CallDeed, Exits, Leaves, MovesOff, TableStep, Waits, Wakes}
use Rattle.block_model.proofs.CallEffects.EachCall.{deed_called}
use Rattle.block_model.proofs.Invariants.Calls.Futexes.{requeue_keeps}
use Rattle.block_model.proofs.EventEffects.{Calls, EventDeed, Preempts, Runs, deed_of}
use Rattle.block_model.proofs.ThreadRecords.{none_left}
use Rattle.block_model.proofs.Ids.{first_id, holder_there, its_run}
use Rattle.block_model.proofs.IdsOfRuns.{held_in}
use Rattle.block_model.proofs.KernelTables.{running_is}
use Rattle.block_model.proofs.Runs.{history-append, settled}

-- the ids are those before, or those without thread t's
abbrev pub HasLostOne : ℕ → List (ℕ × ℕ) → List (ℕ × ℕ) → Type 0
HasLostOne t before after = (after ≡ before) ⊎ (after ≡ without_id t before)

-- waking changes none
ids_requeued : (n more at to : ℕ) (listens : ℕ → Bool) (k : Kernel) → (requeue n more at to listens k).kernel.ids ≡ k.ids
ids_requeued =
    requeue_keeps (λ a b. b.ids ≡ a.ids) (λ k. refl) (λ u k after waiting rest. rest) (λ u to k after waiting rest. rest)

either_kept : (b : Bool) (x y : Kernel) (ids : List (ℕ × ℕ)) → x.ids ≡ ids → y.ids ≡ ids → (cond b x y).ids ≡ ids
either_kept true x y ids p q = p
either_kept false x y ids p q = q

module _ (here : Here) (t number : ℕ) where
  ids_step : {entered : List Write} {k : Kernel} → TableStep here t number entered k → HasLostOne t here.kernel.ids k.ids
  ids_step Leaves = inr refl
  ids_step (Waits at none its_number) = inr refl
  ids_step (MovesOff set below some) = inr refl
  ids_step step = inl refl

  ids_deed : {c : CallDone} → CallDeed here t number c → HasLostOne t here.kernel.ids c.kernel.ids
  ids_deed (Answers n entered k no_error writes step) = ids_step step
  ids_deed (Wakes n more at to listens small) = inl (ids_requeued n more at to listens here.kernel)
  ids_deed (Exits more) = inr (ap (without_id t) (ids_requeued (cond (clears here t) 1 0) 0 (clear_of t here.kernel.threads) 0 anyone here.kernel))
  ids_deed (Bears entered writes free its_number) =
      let child = had_child t here.kernel in
      inl (either_kept (has_flag (argument here t 0) clone_child_cleartid) (cleared (next_number here.kernel) (argument here t 4) child) child _ refl refl)
  ids_deed deed = inl refl

pub ids_called : (here : Here) (t : ℕ) → HasLostOne t here.kernel.ids (called here t).kernel.ids
ids_called here t = ids_deed here t _ (deed_called here t)

-- a thread holds the id that it held, or none
abbrev Keeps : ℕ → List (ℕ × ℕ) → List (ℕ × ℕ) → Type 0
Keeps u before after = (id_of u after ≡ id_of u before) ⊎ (list_any (is_id_of u) after ≡ false)

-- another thread holds none any more
found_step : (t u : ℕ) (x : ℕ × ℕ) (ids : List (ℕ × ℕ)) → u ≢ t → (b : Bool) → eqb x.0 t ≡ b → find (is_id_of u) (without_id t ids) ≡ find (is_id_of u) ids
    → find (is_id_of u) (cond (not b) (x ∷ without_id t ids) (without_id t ids)) ≡ find (is_id_of u) (x ∷ ids)
found_step t u x ids other true same rest =
    let apart : eqb x.0 u ≡ false = ne_eqb x.0 u (λ e. other (sym e ∙ eqb-true x.0 t same)) in
    rest ∙ sym (ap (λ b. cond b (Some x) (find (is_id_of u) ids)) apart)
found_step t u x ids other false new rest = ap (cond (eqb x.0 u) (Some x)) rest

found_other : (t u : ℕ) (ids : List (ℕ × ℕ)) → u ≢ t → find (is_id_of u) (without_id t ids) ≡ find (is_id_of u) ids
found_other t u [] other = refl
found_other t u (x ∷ ids) other = found_step t u x ids other (eqb x.0 t) refl (found_other t u ids other)

keeps_without : (t u : ℕ) (ids : List (ℕ × ℕ)) → Keeps u ids (without_id t ids)
keeps_without t u ids = elim (eqb_tells u t) [
  | inl p ↦ inr (ap (λ n. list_any (is_id_of n) (without_id t ids)) p.1 ∙ none_left t ids)
  | inr q ↦ inl (ap (λ (o : Option (ℕ × ℕ)). option_map_or (λ pair. pair.1) o 0) (found_other t u ids q.1))
]

keeps_lost : (t u : ℕ) (before after : List (ℕ × ℕ)) → HasLostOne t before after → Keeps u before after
keeps_lost t u before after (inl same) = inl (ap (id_of u) same)
keeps_lost t u before after (inr less) = subst (Keeps u before) (sym less) (keeps_without t u before)

-- another thread begins to hold one
found_before : (u : ℕ) (ids : List (ℕ × ℕ)) (y : ℕ × ℕ) → list_any (is_id_of u) ids ≡ true → id_of u (ids ++ y ∷ []) ≡ id_of u ids
found_before u [] y there = absurd (false≢true there)
found_before u (x ∷ ids) y there = go (eqb x.0 u) (found_before u ids y) there
  where
    go : (b : Bool) → (list_any (is_id_of u) ids ≡ true → id_of u (ids ++ y ∷ []) ≡ id_of u ids) → (b || list_any (is_id_of u) ids) ≡ true
        → first_id u x (ids ++ y ∷ []) b ≡ first_id u x ids b
    go true rest there = refl
    go false rest there = rest there

module _ (here : Here) (tid u : ℕ) (there : list_any (is_id_of u) here.kernel.ids ≡ true) where
  keeps_deed : {k : Kind} {d : Done} → EventDeed here tid k d → Keeps u here.kernel.ids d.kernel.ids
  keeps_deed (Calls t e next calls outside) = keeps_lost t u here.kernel.ids (called here t).kernel.ids (ids_called here t)
  keeps_deed (Preempts k t leaves at) = keeps_without t u here.kernel.ids
  keeps_deed Runs = inl (found_before u here.kernel.ids (tid, next_id here.kernel.ids) there)
  keeps_deed deed = inl refl

-- a thread that runs holds one
holds : (s : Setting) (before : History) (h t : ℕ) → s.limits.harts ≤ 8 → IsRunHistory s before → running s h before ≡ Some t
    → list_any (is_id_of t) (kernel s before).ids ≡ true
holds s before h t few run at =
    let k = kernel s before in
    let state = running_is s.limits.harts h t k.threads k.scheduling (settled s before run).good.kernel.tables at in
    holder_there t k.threads k.ids ((held_in s before run).ids few) (ap its_run state)

-- who holds one after an event of a run holds the same
stays : (t : ℕ) (before after : List (ℕ × ℕ)) → Keeps t before after → list_any (is_id_of t) after ≡ true → id_of t after ≡ id_of t before
stays t before after (inl same) there = same
stays t before after (inr none) there = absurd (false≢true (sym none ∙ there))

stays_at : (s : Setting) (before : History) (entry : Entry) (h k t : ℕ) → s.limits.harts ≤ 8 → IsRunHistory s (event s before entry ∷ before)
    → running s h before ≡ Some t → running s k (event s before entry ∷ before) ≡ Some t
    → id_of t (done s before entry).kernel.ids ≡ id_of t (kernel s before).ids
unfolding done
stays_at s before entry h k t few run was is =
    let there = holds s before h t few run.0 was in
    let here = here_in_history s before entry.hart.0 in
    let kept = keeps_deed here entry.tid.0 t there (deed_of here entry.kind entry) in
    stays t (kernel s before).ids (done_of (choice_of entry) (here_in_history s before entry.hart.0)).kernel.ids kept
    (holds s (event s before entry ∷ before) k t few run is)

pub id_stays : (s : Setting) (log : List Entry) (entry : Entry) (h k t : ℕ) → s.limits.harts ≤ 8 → IsAllowedLog s (log ++ entry ∷ [])
    → running s h (history s log) ≡ Some t → running s k (history s (log ++ entry ∷ [])) ≡ Some t
    → id_of t (kernel s (history s (log ++ entry ∷ []))).ids ≡ id_of t (kernel s (history s log)).ids
id_stays s log entry h k t few run was is =
    let more = history-append s log entry in
    ap (λ (b : History). id_of t (kernel s b).ids) more
    ∙ stays_at s (history s log) entry h k t few (subst (IsRunHistory s) more run) was (sym (ap (running s k) more) ∙ is)
