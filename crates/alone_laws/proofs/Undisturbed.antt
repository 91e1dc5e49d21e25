-- A hart that is left undisturbed comes to where its instructions lead it, one after another.
use Rattle.std.proofs.Common.{◌≡◌, ℕ, suc, ◌+◌, ◌<◌, List, [], ◌∷◌, ◌++◌, refl, sym, ap, ◌∙◌, arith}
use Rattle.std.proofs.Common.{subst, Bool, true, false, ◌&&◌, ◌⊎◌, inl, inr, cond, eqb, append_assoc, append-nil}
use Rattle.std.proofs.lemmas.Bool.{eqb-true}
use Rattle.mach_types.proofs.Laws.{eqb_same}
use Rattle.mach_types.specs.Events.{is_instruction}
use Rattle.mach_types.specs.declared.events.Entry.{Entry}
use Rattle.mach_types.specs.declared.events.Kind.TheVariants as kind
use Rattle.block_model.specs.Deciding.{event, history}
use Rattle.block_model.specs.History.{Event, History}
use Rattle.block_model.specs.Run.{IsBlockRun, IsRunHistory}
use Rattle.block_model.specs.Setting.{Setting}
use Rattle.block_model.proofs.Laws.{history-append, run_before}
use Rattle.alone_laws.specs.Undisturbed.{Brings, IsUndisturbed, executed_on, executes}

-- so many instructions may be left: what each event keeps of that, and the last of them brings about
module _ (s : Setting) (h : ℕ) (Used : History → Type 0)
    (shorter : (e : Event) (before : History) → Used (e ∷ before) → Used before)
    (Left : ℕ → History → Type 0) (IsLikeThis : History → Type 0)
    (apart : (m : ℕ) (e : Event) (before : History) → IsRunHistory s (e ∷ before) → Used (e ∷ before)
    → eqb e.entry.hart.0 h ≡ false → Left m before → Left m (e ∷ before))
    (drained : (m : ℕ) (e : Event) (before : History) → IsRunHistory s (e ∷ before) → Used (e ∷ before)
    → e.entry.hart.0 ≡ h → e.entry.kind ≡ kind.Drain → Left m before → Left m (e ∷ before))
    (executed : (m : ℕ) (e : Event) (before : History) → IsRunHistory s (e ∷ before) → Used (e ∷ before)
    → e.entry.hart.0 ≡ h → e.entry.kind ≡ kind.Exec → Left m before
    → IsLikeThis (e ∷ before) ⊎ ((k : ℕ) × (k < m) × Left k (e ∷ before))) where
  -- what is used in a longer log is used in what it goes on from
  used_before : (log more : List Entry) → Used (history s (log ++ more)) → Used (history s log)
  used_before log [] used = subst (λ (l : List Entry). Used (history s l)) (append-nil log) used
  used_before log (x ∷ more) used =
      let longer = used_before (log ++ x ∷ []) more
      (subst (λ (l : List Entry). Used (history s l)) (sym (append_assoc log (x ∷ []) more)) used) in
      shorter (event s (history s log) x) (history s log) (subst Used (history-append s log x) longer)

  -- one more entry first
  behind_one : (log rest : List Entry) (x : Entry) (n m : ℕ)
      → ((count : ℕ) → count < n → cond (executes h x) (count + 1) count < m)
      → Brings s h n IsLikeThis (log ++ x ∷ []) rest → Brings s h m IsLikeThis log (x ∷ rest)
  behind_one log rest x n m fewer b = record {
    earlier = x ∷ b.earlier;
    entry = b.entry;
    later = b.later;
    stretch_is = ap (λ (l : List Entry). x ∷ l) b.stretch_is;
    own = b.own;
    executed = b.executed;
    soon = fewer (executed_on h b.earlier) b.soon;
    there = subst (λ (l : List Entry). IsLikeThis (history s (l ++ b.entry ∷ [])))
        (append_assoc log (x ∷ []) b.earlier) b.there;
  }

  module _ (log rest : List Entry) (x : Entry) (m : ℕ) (run : IsBlockRun s ((log ++ x ∷ []) ++ rest))
      (used : Used (history s ((log ++ x ∷ []) ++ rest))) (calm : IsUndisturbed h (x ∷ rest))
      (left : Left m (history s log)) (lt : m < executed_on h (x ∷ rest))
      (on : (k : ℕ) → Left k (history s (log ++ x ∷ [])) → k < executed_on h rest
      → Brings s h (suc k) IsLikeThis (log ++ x ∷ []) rest) where
    abbrev before : History
    before = history s log

    abbrev e : Event
    e = event s before x

    next : history s (log ++ x ∷ []) ≡ e ∷ before
    next = history-append s log x

    run_here : IsRunHistory s (e ∷ before)
    run_here = subst (IsRunHistory s) next (run_before s (log ++ x ∷ []) rest run).allowed

    used_here : Used (e ∷ before)
    used_here = subst Used next (used_before (log ++ x ∷ []) rest used)

    goes_on : (k : ℕ) → Left k (e ∷ before) → k < executed_on h rest
        → Brings s h (suc k) IsLikeThis (log ++ x ∷ []) rest
    goes_on k stands more = on k (subst (Left k) (sym next) stands) more

    without : executes h x ≡ false → Left m (e ∷ before) → Brings s h (suc m) IsLikeThis log (x ∷ rest)
    without no_exec stands =
        let count : executed_on h (x ∷ rest) ≡ executed_on h rest =
        ap (λ c. cond c (executed_on h rest + 1) (executed_on h rest)) no_exec in
        behind_one log rest x (suc m) (suc m)
        (λ n few. subst (λ c. cond c (n + 1) n < suc m) (sym no_exec) few)
        (goes_on m stands (omega (arith, count)))

    by_deed : executes h x ≡ true → IsLikeThis (e ∷ before) ⊎ ((k : ℕ) × (k < m) × Left k (e ∷ before))
        → x.hart.0 ≡ h → x.kind ≡ kind.Exec → Brings s h (suc m) IsLikeThis log (x ∷ rest)
    by_deed is_exec (inl there) own exec = record {
      earlier = [];
      entry = x;
      later = rest;
      stretch_is = refl;
      own = own;
      executed = exec;
      soon = omega arith;
      there = subst (λ (l : List Entry). IsLikeThis (history s (l ++ x ∷ []))) (sym (append-nil log))
          (subst IsLikeThis (sym next) there);
    }
    by_deed is_exec (inr more) own exec =
        let k = more.0 in
        let fewer = more.1 in
        let count : executed_on h (x ∷ rest) ≡ executed_on h rest + 1 =
        ap (λ c. cond c (executed_on h rest + 1) (executed_on h rest)) is_exec in
        behind_one log rest x (suc k) (suc m)
        (λ n few. subst (λ c. cond c (n + 1) n < suc m) (sym is_exec) (omega arith))
        (goes_on k more.2 (omega (arith, count)))

    by_kind : x.hart.0 ≡ h → (x.kind ≡ kind.Exec) ⊎ (x.kind ≡ kind.Drain)
        → Brings s h (suc m) IsLikeThis log (x ∷ rest)
    by_kind own (inl exec) =
        let is_exec : executes h x ≡ true =
        ap (λ k. eqb x.hart.0 h && is_instruction k) exec ∙ ap (λ n. eqb n h && true) own
        ∙ ap (λ c. c && true) (eqb_same h) in
        by_deed is_exec (executed m e before run_here used_here own exec left) own exec
    by_kind own (inr drain) =
        let no_exec : executes h x ≡ false =
        ap (λ k. eqb x.hart.0 h && is_instruction k) drain ∙ ap (λ n. eqb n h && false) own
        ∙ ap (λ c. c && false) (eqb_same h) in
        without no_exec (drained m e before run_here used_here own drain left)

    by_hart : (c : Bool) → eqb x.hart.0 h ≡ c → Brings s h (suc m) IsLikeThis log (x ∷ rest)
    by_hart true own = by_kind (eqb-true x.hart.0 h own) (calm.0 (eqb-true x.hart.0 h own))
    by_hart false other =
        without (ap (λ c. c && is_instruction x.kind) other) (apart m e before run_here used_here other left)

  pub brought : (rest log : List Entry) (m : ℕ) → IsBlockRun s (log ++ rest) → Used (history s (log ++ rest))
      → IsUndisturbed h rest → Left m (history s log) → m < executed_on h rest
      → Brings s h (suc m) IsLikeThis log rest
  brought [] log m run used calm left lt = absurd (omega arith)
  brought (x ∷ rest) log m run used calm left lt =
      let same : log ++ x ∷ rest ≡ (log ++ x ∷ []) ++ rest = sym (append_assoc log (x ∷ []) rest) in
      let run_on = subst (IsBlockRun s) same run in
      let used_on = subst (λ (l : List Entry). Used (history s l)) same used in
      by_hart log rest x m run_on used_on calm left lt
      (λ k stands more. brought rest (log ++ x ∷ []) k run_on used_on calm.1 stands more) (eqb x.hart.0 h) refl
