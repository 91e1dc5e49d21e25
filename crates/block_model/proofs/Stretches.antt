-- What a hart keeps while other harts make events, and the instructions of a stretch one by one.
use Rattle.block_model.proofs.Common.{◌≡◌, ◌≢◌, ℕ, ◌+◌, ◌≤◌, ◌<◌, List, [], ◌∷◌, ◌++◌, refl, sym, ap, ◌∙◌, subst, arith, Bool, true, false, cond, eqb, ◌&&◌, not, ltb, Option, Some, None, is_some, zero, suc, append_assoc, Entry, History, IsAllowedLog, IsRunHistory, Setting, and_parts, awaits, awaits_of_own, cond-false, cond-true, done, eqb-false, event, events, file, fold, has_ended, history, ltb-true, luck, not-true, option_map, running, sight_with, without_hart}
use Rattle.elf_load.specs.declared.image.ImagePage.{ImagePage}
use Rattle.block_model.specs.Stretches.{Stretch, goes_on, is_on_credit, lent, lent_to, may_lend, stepped, worked}
use Rattle.block_model.proofs.Replay.{history-more}
use Rattle.block_model.proofs.Runs.{fit_at, run_before}

-- no events are taken back
events_rise : (s : Setting) (h : ℕ) (rest : List Entry) (before : History)
    → events h before ≤ events h (fold (λ b e. event s b e ∷ b) before rest)
events_rise s h [] before = omega arith
events_rise s h (e ∷ rest) before =
    let more = events_rise s h rest (event s before e ∷ before) in
    let one = one_more (eqb e.hart.0 h) in
    omega (arith, more, one)
  where
    one_more : (b : Bool) → events h before ≤ cond b (events h before + 1) (events h before)
    one_more true = omega arith
    one_more false = omega arith

-- a thread that runs on a hart, its file, the hart's words and credit, and whether the thread waits in a barrier, as they were
pub record HasStayed (s : Setting) (seed h t : ℕ) (before later : History) : Type 0 where
  pub runs : running s h later ≡ Some t
  pub same_file : file s t later ≡ file s t before
  pub same_luck : luck s seed h later ≡ luck s seed h before
  pub same_waits : is_some (awaits h later) ≡ is_some (awaits h before)

-- an event of another hart lets a barrier wait for fewer harts, and begins and ends none
waits_as_before : (h : ℕ) (took : Bool) (awaits : Option ℕ) → is_some (cond took (option_map (without_hart h) awaits) awaits) ≡ is_some awaits
waits_as_before h false awaits = refl
waits_as_before h true None = refl
waits_as_before h true (Some left) = refl

-- while the hart makes no event they stay
stays_by : (s : Setting) (seed h t : ℕ) (e : Entry) (rest : List Entry) (before : History) (own : Bool) → eqb e.hart.0 h ≡ own
    → IsRunHistory s (fold (λ b e. event s b e ∷ b) before (e ∷ rest)) → running s h before ≡ Some t
    → events h (fold (λ b e. event s b e ∷ b) before (e ∷ rest)) ≡ events h before
    → (IsRunHistory s (fold (λ b e. event s b e ∷ b) before (e ∷ rest)) → running s h (event s before e ∷ before) ≡ Some t
    → events h (fold (λ b e. event s b e ∷ b) before (e ∷ rest)) ≡ events h (event s before e ∷ before)
    → HasStayed s seed h t (event s before e ∷ before) (fold (λ b e. event s b e ∷ b) before (e ∷ rest)))
    → HasStayed s seed h t before (fold (λ b e. event s b e ∷ b) before (e ∷ rest))
stays_by s seed h t e rest before true own run at same go =
    let more = events_rise s h rest (event s before e ∷ before) in
    let one : events h (event s before e ∷ before) ≡ events h before + 1 = cond-true (eqb e.hart.0 h) (events h before + 1) (events h before) own in
    absurd (omega (arith, more, one, same))
stays_by s seed h t e rest before false own run at same go =
    let fit = fit_at s (event s before e) before (run_before s rest (event s before e ∷ before) run) in
    let d = done s before e in
    let ne : h ≢ e.hart.0 = λ is. eqb-false e.hart.0 h own (sym is) in
    let none : events h (event s before e ∷ before) ≡ events h before = cond-false (eqb e.hart.0 h) (events h before + 1) (events h before) own in
    let is = go run (fit.others h ne ∙ at) (same ∙ sym none) in
    record {
      runs = is.runs;
      same_file = is.same_file ∙ fit.apart h t (file s t before) ne at;
      same_luck = is.same_luck ∙ cond-false (eqb e.hart.0 h) _ (luck s seed h before) own;
      same_waits = is.same_waits
          ∙ ap is_some (cond-false (eqb e.hart.0 h) (awaits_of_own d (awaits h before)) _ own)
          ∙ waits_as_before e.hart.0 d.took (awaits h before);
    }

stays_over : (s : Setting) (seed h t : ℕ) (rest : List Entry) (before : History)
    → IsRunHistory s (fold (λ b e. event s b e ∷ b) before rest) → running s h before ≡ Some t
    → events h (fold (λ b e. event s b e ∷ b) before rest) ≡ events h before
    → HasStayed s seed h t before (fold (λ b e. event s b e ∷ b) before rest)
stays_over s seed h t [] before run at same = record { runs = at; same_file = refl; same_luck = refl; same_waits = refl }
stays_over s seed h t (e ∷ rest) before run at same =
    stays_by s seed h t e rest before (eqb e.hart.0 h) refl run at same (stays_over s seed h t rest (event s before e ∷ before))

pub stays : (s : Setting) (seed h t : ℕ) (log more : List Entry) → IsAllowedLog s (log ++ more) → running s h (history s log) ≡ Some t
    → events h (history s (log ++ more)) ≡ events h (history s log)
    → HasStayed s seed h t (history s log) (history s (log ++ more))
stays s seed h t log more run at same =
    let whole = history-more s log more in
    subst (HasStayed s seed h t (history s log)) (sym whole)
    (stays_over s seed h t more (history s log) (subst (IsRunHistory s) whole run) at (sym (ap (events h) whole) ∙ same))

-- what is known of a stretch that was lent
pub record IsLent (s : Setting) (seed h : ℕ) (before : History) (l : Stretch) : Type 0 where
  pub goes : has_ended s before ≡ false
  pub lt : h < s.limits.harts
  pub on_credit : is_on_credit (sight_with s h before (luck s seed h before)) ≡ true
  pub thread : ℕ
  pub runs : running s h before ≡ Some thread
  pub is : l ≡ record { hart = h; events = events h before; file = file s thread before; credit = (luck s seed h before).credit; pcs = [] }

lent_by : (s : Setting) (seed h : ℕ) (before : History) (l : Stretch) (o : Option ℕ) (may : Bool) → may_lend s seed h before ≡ may
    → running s h before ≡ o → cond may (lent_to s seed h before o) None ≡ Some l → IsLent s seed h before l
lent_by s seed h before l (Some t) true may at is =
    let credited = and_parts (not (has_ended s before) && ltb h s.limits.harts) (is_on_credit (sight_with s h before (luck s seed h before))) may in
    let open_there = and_parts (not (has_ended s before)) (ltb h s.limits.harts) credited.0 in
    record {
      goes = not-true (has_ended s before) open_there.0;
      lt = ltb-true h s.limits.harts open_there.1;
      on_credit = credited.1;
      thread = t;
      runs = at;
      is = cc;
    }
lent_by s seed h before l None true may at is = absurd cc
lent_by s seed h before l o false may at is = absurd cc

pub is_lent : (s : Setting) (seed h : ℕ) (before : History) (l : Stretch) → lent s seed h before ≡ Some l → IsLent s seed h before l
unfolding lent
is_lent s seed h before l is = lent_by s seed h before l (running s h before) (may_lend s seed h before) refl refl is

-- the instructions by which a stretch becomes another, with their addresses in order
abbrev pub Steps : List ImagePage → Stretch → List ℕ → Stretch → Type 0
Steps pages a [] l = a ≡ l
Steps pages a (pc ∷ pcs) l = (goes_on pages a ≡ true) × (pc ≡ a.file.pc) × Steps pages (stepped pages a) pcs l

pub record HasSteps (pages : List ImagePage) (a l : Stretch) : Type 0 where
  pub pcs : List ℕ
  pub added : l.pcs ≡ a.pcs ++ pcs
  pub steps : Steps pages a pcs l

steps_by : (pages : List ImagePage) (n : ℕ) (a l : Stretch) (b : Bool) → goes_on pages a ≡ b
    → ((next : Stretch) → worked n pages next ≡ l → HasSteps pages next l)
    → worked n pages (cond b (stepped pages a) a) ≡ l → HasSteps pages a l
steps_by pages n a l false stops go is = go a is
steps_by pages n a l true goes go is =
    let rest = go (stepped pages a) is in
    record {
      pcs = a.file.pc ∷ rest.pcs;
      added = rest.added ∙ append_assoc a.pcs (a.file.pc ∷ []) rest.pcs;
      steps = (goes, refl, rest.steps);
    }

pub steps_of : (pages : List ImagePage) (n : ℕ) (a l : Stretch) → worked n pages a ≡ l → HasSteps pages a l
steps_of pages zero a l is = record { pcs = []; added = ap (λ (x : Stretch). x.pcs) (sym is) ∙ nothing_added a.pcs; steps = is }
  where
    nothing_added : (xs : List ℕ) → xs ≡ xs ++ []
    nothing_added [] = refl
    nothing_added (x ∷ xs) = ap (λ ys. x ∷ ys) (nothing_added xs)
steps_of pages (suc n) a l is = steps_by pages n a l (goes_on pages a) refl (λ next. steps_of pages n next l) is

-- what stays of a stretch whatever is worked
pub worked_keeps : (pages : List ImagePage) (pcs : List ℕ) (a l : Stretch) → Steps pages a pcs l → (l.hart ≡ a.hart) × (l.events ≡ a.events)
worked_keeps pages [] a l is = (ap (λ (x : Stretch). x.hart) (sym is), ap (λ (x : Stretch). x.events) (sym is))
worked_keeps pages (pc ∷ pcs) a l is = worked_keeps pages pcs (stepped pages a) l is.2
