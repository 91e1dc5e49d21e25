-- At the end of a walk the file of its thread is what its instructions make of the file at its start.
use Rattle.block_model.proofs.Common.{◌≡◌, ◌≢◌, ℕ, List, [], ◌∷◌, ◌++◌, refl, sym, ap, ◌∙◌, subst, Bool, true, false, cond, eqb, ◌&&◌, Option, Some, None, inl, inr, append_assoc, Choice, Done, Effect, Entry, Here, History, IsAllowedLog, IsRunHistory, Kernel, Saved, Setting, Store, by_call, by_effect, by_outcome, called_here, choice_of, done, done_drain_of, done_exec_by, done_of, done_take_by, eqb-false, eqb-true, eqb_same, event, file, file_among, fold, fold-append, here_in_history, history, is_call, next_effect, option_map_or, outcome_of, running, running_on, runs, waiting_here}
use Rattle.mach_types.specs.declared.events.Choice.TheVariants as asked
use Rattle.rv_inst.specs.declared.effects.Effect.TheVariants as effect
use Rattle.block_model.specs.Walks.{AreOfWalk, IsOfWalk, IsPlainExec, IsPlainTake, IsWalk, Answer, answer_in, answered, answers, computed, file_by, file_next, file_of, is_exec}
use Rattle.block_model.proofs.Replay.{history-more}
use Rattle.block_model.proofs.Runs.{fit_at, run_before}

-- what an entry of a walk does to the file of the walk's thread, and that the thread still runs on its hart
record IsStep (s : Setting) (h t : ℕ) (before : History) (e : Entry) : Type 0 where
  file_is : file s t (event s before e ∷ before)
      ≡ computed s.program.pages (file s t before) (answered s h before e)
  still : running s h (event s before e ∷ before) ≡ Some t

-- what an instruction does that makes neither a fault nor a call
unless_call : (here : Here) (t : ℕ) (e : Effect) (b : Bool) → is_call e ≡ b → e ≢ effect.Call
    → cond b (by_call here (called_here here t)) (by_outcome here t (outcome_of here t e))
    ≡ by_outcome here t (outcome_of here t e)
unless_call here t e false is other = refl
unless_call here t e true is other = absurd (other (only_call e is))
  where
    only_call : (e : Effect) → is_call e ≡ true → e ≡ effect.Call
    only_call effect.Call is = refl
    only_call e is = cc

-- the file that an instruction leaves, and the record
abbrev after_effect : Here → ℕ → Option Effect → Saved
after_effect here t o = option_map_or (file_by (here.file t) (answer_in here)) o (here.file t)

record IsPlainDone (here : Here) (t : ℕ) (o : Option Effect) (d : Done) : Type 0 where
  own : file_among d.files t (here.file t) ≡ after_effect here t o
  same : d.kernel ≡ here.kernel

outcome_done : (here : Here) (t : ℕ) (e : Effect)
    → IsPlainDone here t (Some e) (by_outcome here t (outcome_of here t e))
outcome_done here t e = record {
  own = ap (λ b. cond b (file_of (outcome_of here t e)) (here.file t)) (eqb_same t);
  same = refl;
}

effect_done : (here : Here) (t : ℕ) (o : Option Effect) → o ≢ Some effect.Call
    → IsPlainDone here t o (by_effect here t None o)
effect_done here t None other = record { own = refl; same = refl }
effect_done here t (Some e) other =
    let is = unless_call here t e (is_call e) refl (λ same. other (ap Some same)) in
    subst (IsPlainDone here t (Some e)) (sym is) (outcome_done here t e)

exec_done : (here : Here) (t : ℕ) (entry : Entry) → runs here ≡ Some t → IsPlainExec here t entry
    → IsPlainDone here t (next_effect here t) (done_of (choice_of entry) here)
exec_done here t entry at plain =
    let is : done_of (choice_of entry) here ≡ by_effect here t None (next_effect here t) =
    ap (λ c. done_of c here) plain.executes ∙ ap (λ r. done_exec_by here r) at
    ∙ ap (λ f. by_effect here t f (next_effect here t)) plain.no_fault in
    let e = next_effect here t in
    subst (IsPlainDone here t e) (sym is) (effect_done here t e plain.no_call)

drain_done : (here : Here) (t : ℕ) (ws : List Store) → IsPlainDone here t None (done_drain_of here ws)
drain_done here t [] = record { own = refl; same = refl }
drain_done here t (w ∷ ws) = record { own = refl; same = refl }

-- what a hart does that takes requests, where that interrupts nothing
take_by : (here : Here) (t : ℕ) (restarts : Bool) (running : Option ℕ) → (done_take_by here restarts running).interrupted ≡ None
    → IsPlainDone here t None (done_take_by here restarts running)
take_by here t true (Some u) quiet = absurd cc
take_by here t b o quiet = record { own = refl; same = refl }

take_done : (here : Here) (t : ℕ) (entry : Entry) → IsPlainTake here entry → IsPlainDone here t None (done_of (choice_of entry) here)
take_done here t entry plain =
    subst (λ c. IsPlainDone here t None (done_of c here)) (sym plain.takes) (take_by here t here.restart (runs here) plain.quiet)

-- one answer is given to an instruction of the hart, and none to another entry
answered_if : (s : Setting) (h : ℕ) (before : History) (e : Entry) (f : Saved) (b : Bool)
    → (eqb e.hart.0 h && is_exec (choice_of e)) ≡ b
    → computed s.program.pages f (cond b (answer_in (here_in_history s before h) ∷ []) [])
    ≡ computed s.program.pages f (answered s h before e)
answered_if s h before e f b is =
    let a = answer_in (here_in_history s before h) in
    ap (λ c. computed s.program.pages f (cond c (a ∷ []) [])) (sym is)

own_is : (e : Entry) (c : Choice) → choice_of e ≡ c
    → (eqb e.hart.0 e.hart.0 && is_exec (choice_of e)) ≡ is_exec c
own_is e c is = ap (λ b. b && is_exec (choice_of e)) (eqb_same e.hart.0) ∙ ap is_exec is

-- an entry of the walk's hart
own_step : (s : Setting) (t : ℕ) (before : History) (e : Entry) → running s e.hart.0 before ≡ Some t
    → IsOfWalk (here_in_history s before e.hart.0) t e → IsStep s e.hart.0 t before e
unfolding done
own_step s t before e at (inl drains) =
    let here = here_in_history s before e.hart.0 in
    let stored = drain_done here t (waiting_here here) in
    let did = subst (λ c. IsPlainDone here t None (done_of c here)) (sym drains) stored in
    let none = own_is e asked.Drain drains in
    record {
      file_is = did.own ∙ answered_if s e.hart.0 before e (file s t before) false none;
      still = ap (λ (k : Kernel). running_on e.hart.0 k.threads) did.same ∙ at;
    }
own_step s t before e at (inr (inl plain)) =
    let here = here_in_history s before e.hart.0 in
    let did = take_done here t e plain in
    let none = own_is e asked.Take plain.takes in
    record {
      file_is = did.own ∙ answered_if s e.hart.0 before e (file s t before) false none;
      still = ap (λ (k : Kernel). running_on e.hart.0 k.threads) did.same ∙ at;
    }
own_step s t before e at (inr (inr plain)) =
    let here = here_in_history s before e.hart.0 in
    let did = exec_done here t e at plain in
    let one = own_is e asked.Exec plain.executes in
    record {
      file_is = did.own ∙ answered_if s e.hart.0 before e (file s t before) true one;
      still = ap (λ (k : Kernel). running_on e.hart.0 k.threads) did.same ∙ at;
    }

-- an entry of another hart
other_step : (s : Setting) (h t : ℕ) (before : History) (e : Entry)
    → IsRunHistory s (event s before e ∷ before) → eqb e.hart.0 h ≡ false → running s h before ≡ Some t
    → IsStep s h t before e
other_step s h t before e run apart at =
    let fit = fit_at s (event s before e) before run in
    let ne : h ≢ e.hart.0 = λ same. eqb-false e.hart.0 h apart (sym same) in
    let none = ap (λ b. b && is_exec (choice_of e)) apart in
    record {
      file_is = fit.apart h t (file s t before) ne at ∙ answered_if s h before e (file s t before) false none;
      still = fit.others h ne ∙ at;
    }

-- an entry of a walk
abbrev IsStepOn : Setting → ℕ → History → Entry → ℕ → Type 0
IsStepOn s t before e h =
    running s h before ≡ Some t → IsOfWalk (here_in_history s before h) t e → IsStep s h t before e

step_by : (s : Setting) (h t : ℕ) (before : History) (e : Entry) (b : Bool) → eqb e.hart.0 h ≡ b
    → IsRunHistory s (event s before e ∷ before) → running s h before ≡ Some t
    → (e.hart.0 ≡ h → IsOfWalk (here_in_history s before h) t e) → IsStep s h t before e
step_by s h t before e false apart run at of_walk = other_step s h t before e run apart at
step_by s h t before e true same run at of_walk =
    let is = eqb-true e.hart.0 h same in
    subst (IsStepOn s t before e) is (own_step s t before e) at (of_walk is)

-- the whole walk
pub record IsComputed (s : Setting) (h t : ℕ) (before after : History) (given : List Answer) : Type 0 where
  pub file_is : file s t after ≡ computed s.program.pages (file s t before) given
  pub still : running s h after ≡ Some t

computed_step : (s : Setting) (h t : ℕ) (before : History) (e : Entry) (after : History) (given : List Answer)
    → IsStep s h t before e → IsComputed s h t (event s before e ∷ before) after given
    → IsComputed s h t before after (answered s h before e ++ given)
computed_step s h t before e after given one rest =
    let pages = s.program.pages in
    record {
      file_is = rest.file_is ∙ ap (λ f. computed pages f given) one.file_is
          ∙ sym (fold-append (file_next pages) (file s t before) (answered s h before e) given);
      still = rest.still;
    }

walked : (s : Setting) (h t : ℕ) (before : History) (stretch : List Entry)
    → IsRunHistory s (fold (λ b e. event s b e ∷ b) before stretch)
    → running s h before ≡ Some t → AreOfWalk s h t before stretch
    → IsComputed s h t before (fold (λ b e. event s b e ∷ b) before stretch) (answers s h before stretch)
walked s h t before [] run at all = record { file_is = refl; still = at }
walked s h t before (e ∷ rest) run at all =
    let next : History = event s before e ∷ before in
    let one = step_by s h t before e (eqb e.hart.0 h) refl (run_before s rest next run) at all.0 in
    computed_step s h t before e (fold (λ b e. event s b e ∷ b) next rest) (answers s h next rest) one
    (walked s h t next rest run one.still all.1)

-- at the end of a walk of a log's
abbrev IsWalked : Setting → ℕ → ℕ → List Entry → List Entry → Type 0
IsWalked s h t earlier stretch =
    let before = history s earlier in
    IsComputed s h t before (history s (earlier ++ stretch)) (answers s h before stretch)

pub walk_computed : (s : Setting) (earlier stretch later : List Entry) (h t : ℕ)
    → IsAllowedLog s (earlier ++ stretch ++ later) → IsWalk s h t (history s earlier) stretch
    → IsWalked s h t earlier stretch
walk_computed s earlier stretch later h t run walk =
    let before = history s earlier in
    let there = subst (IsRunHistory s) (history-more s (earlier ++ stretch) later) run in
    let here = run_before s later (history s (earlier ++ stretch)) there in
    let start = subst (IsRunHistory s) (history-more s earlier stretch) here in
    rw history-more (walked s h t before stretch start walk.starts walk.each)

-- what begins a walk is one, and so the thread runs there throughout
first_of_walk : (s : Setting) (h t : ℕ) (before : History) (first rest : List Entry)
    → AreOfWalk s h t before (first ++ rest) → AreOfWalk s h t before first
first_of_walk s h t before [] rest all = tt
first_of_walk s h t before (e ∷ first) rest all =
    (all.0, first_of_walk s h t (event s before e ∷ before) first rest all.1)

pub walk_throughout : (s : Setting) (earlier first rest later : List Entry) (h t : ℕ)
    → IsAllowedLog s (earlier ++ first ++ rest ++ later) → IsWalk s h t (history s earlier) (first ++ rest)
    → running s h (history s (earlier ++ first)) ≡ Some t
walk_throughout s earlier first rest later h t run walk =
    let log = append_assoc (earlier ++ first) rest later in
    let whole = subst (λ (log : List Entry). IsAllowedLog s log) log run in
    let begun = first_of_walk s h t (history s earlier) first rest walk.each in
    let begins : IsWalk s h t (history s earlier) first = record { starts = walk.starts; each = begun } in
    (walk_computed s earlier first (rest ++ later) h t whole begins).still
