-- What the words of a block keep of a thread's registers, its retries keep.
use Rattle.std.proofs.Common.{◌≡◌, ◌≢◌, ℕ, List, [], ◌∷◌, ◌++◌, refl, sym, ap, ◌∙◌, subst, Bool}
use Rattle.std.proofs.Common.{true, false, cond, eqb, ◌⊎◌, inl, inr, Option, Some, None, append_assoc, append-nil}
use Rattle.std.proofs.lemmas.Bool.{eqb-true}
use Rattle.mach_types.proofs.Laws.{eqb_same}
use Rattle.mach_types.specs.Events.{choice_of}
use Rattle.mach_types.specs.Kernel.Areas.{is_inside}
use Rattle.mach_types.specs.Kernel.Threads.{running_on}
use Rattle.mach_types.specs.declared.events.Entry.{Entry}
use Rattle.mach_types.specs.declared.registers.Regs.{Regs}
use Rattle.mach_types.specs.declared.threads.Saved.{Saved}
use Rattle.rv_inst.specs.Class.{is_call}
use Rattle.rv_inst.specs.Execution.{outcome}
use Rattle.rv_inst.specs.declared.effects.Effect.{Effect}
use Rattle.alone.specs.Alone.{effect_at}
use Rattle.block_model.specs.Deciding.{event, history}
use Rattle.block_model.specs.Events.{done_of}
use Rattle.block_model.specs.Events.Exec.{by_call, by_effect, by_outcome, called_here, done_exec_by}
use Rattle.block_model.specs.Events.Exec.{next_effect, outcome_of}
use Rattle.block_model.specs.Here.{Done, Here, runs, view, waiting_here}
use Rattle.block_model.specs.History.{Event, History, file, file_among, here_in_history, running}
use Rattle.block_model.specs.Record.{Kernel}
use Rattle.block_model.specs.Run.{IsBlockRun, IsRunHistory}
use Rattle.block_model.specs.Setting.{Setting}
use Rattle.block_model.specs.Walks.{AreOfWalk, IsOfWalk}
use Rattle.block_model.proofs.Laws.{HasRegisters, IsStep, file_apart, has_registers, history-append, run_before}
use Rattle.block_model.proofs.Laws.{runs_apart, step_of}
use Rattle.alone_laws.specs.Retries.{IsAtWork, IsBetween, IsWalkAtWork, Retries, begins, goes_on, post_commit}
use Rattle.alone_laws.specs.Retries.{walks}
use Rattle.alone_laws.specs.Spans.{code_of}
use Rattle.alone_laws.specs.Uses.{Placed, in_block}
use Rattle.alone_laws.proofs.Arrivals.{KnowsAt}
use Rattle.alone_laws.proofs.Steps.{IsIdle, drain_idle, take_idle}

-- what is known at the words of a block stays known, where the thread is as is asked at each place from which a log
-- goes on: behind a word that is no call and doesn't commit, and at the abort handler after an interruption. Nothing
-- is asked at the retry label and at the abort handler
pub record IsKept (s : Setting) (b : Placed) (Asked : Saved → Type 0) (Know : ℕ → Regs → Type 0) : Type 0 where
  pub plain : (f : Saved) (e : Effect) → KnowsAt b Know f → effect_at (code_of s.program.pages) f ≡ Some e
      → is_call e ≡ false
  pub goes : (f : Saved) (e : Effect) (seen : ℕ → Option ℕ) (r : Option ℕ) → HasRegisters f → Asked f
      → KnowsAt b Know f → effect_at (code_of s.program.pages) f ≡ Some e
      → in_block b (outcome seen f.file f.pc r e).pc ≡ true
      → (outcome seen f.file f.pc r e).pc ≢ post_commit b
      → KnowsAt b Know (record
      { file = (outcome seen f.file f.pc r e).regs; pc = (outcome seen f.file f.pc r e).pc })
  pub cut : (f : Saved) → Asked f → KnowsAt b Know f → is_inside b.range f.pc ≡ true
      → KnowsAt b Know (record f { pc = b.range.abort })
  pub retry : (f : Saved) → f.pc ≡ b.at → Asked f
  pub handler : (f : Saved) → f.pc ≡ b.range.abort → Asked f

-- a block run in which thread t is as is asked at each place from which the log goes on and at which it runs
pub record IsAskedRun (s : Setting) (t : ℕ) (Asked : Saved → Type 0) (log : List Entry) : Type 0 where
  pub run : IsBlockRun s log
  pub asked : (h : ℕ) (earlier : List Entry) (x : Entry) (rest : List Entry) → log ≡ earlier ++ x ∷ rest
      → running s h (history s earlier) ≡ Some t → Asked (file s t (history s earlier))

-- where nothing is asked, every block run is one
abbrev pub AsksNothing : Saved → Type 0
AsksNothing f = Unit {0}

pub asks_nothing : (s : Setting) (t : ℕ) (log : List Entry) → IsBlockRun s log → IsAskedRun s t AsksNothing log
asks_nothing s t log run = record { run = run; asked = λ h earlier x rest same runs. tt }

-- where retries begin the thread is at the retry label
pub first_place : (s : Setting) (b : Placed) (t : ℕ) (first log : List Entry) → Retries s b t first log
    → (file s t (history s first)).pc ≡ b.at
first_place s b t first log (begins at) = at
first_place s b t first now (walks h log stretch earlier walk) = first_place s b t first log earlier
first_place s b t first now (goes_on log gap earlier between) = first_place s b t first log earlier

module _ (s : Setting) (b : Placed) (t : ℕ) (Asked : Saved → Type 0) (Know : ℕ → Regs → Type 0)
    (kept : IsKept s b Asked Know) where
  abbrev Runs : List Entry → Type 0
  Runs log = IsAskedRun s t Asked log

  abbrev Knows : Saved → Type 0
  Knows f = KnowsAt b Know f

  -- a thread runs on a hart, and knows
  record Stands (h : ℕ) (before : History) : Type 0 where
    runs_there : running s h before ≡ Some t
    knows : Knows (file s t before)

  module _ (h : ℕ) (e : Event) (before : History) (run : IsRunHistory s (e ∷ before)) (was : Stands h before)
      (asked : Asked (file s t before)) (works : IsAtWork s b t (e ∷ before)) where
    step : IsStep s e before
    step = step_of s e before run

    -- of another hart
    apart_step : eqb e.entry.hart.0 h ≡ false → Stands h (e ∷ before)
    apart_step apart = record {
      runs_there = runs_apart s h e before step apart ∙ was.runs_there;
      knows = subst Knows (sym (file_apart s h t e before step apart was.runs_there)) was.knows;
    }

    module _ (own : e.entry.hart.0 ≡ h) where
      abbrev here : Here
      here = here_in_history s before h

      did : e.done ≡ done_of (choice_of e.entry) here
      did = step.did ∙ ap (λ k. done_of (choice_of e.entry) (here_in_history s before k)) own

      -- one that makes no instruction
      idle_step : IsIdle here e.done → Stands h (e ∷ before)
      idle_step idle = record {
        runs_there = ap (λ (k : Kernel). running_on h k.threads) idle.kernel ∙ was.runs_there;
        knows = subst Knows (sym (ap (λ (fs : List (ℕ × Saved)). file_among fs t (file s t before)) idle.files))
            was.knows;
      }

      -- an instruction that makes neither a fault nor a call
      exec_step : e.done ≡ by_effect here t None (next_effect here t) → Stands h (e ∷ before)
      exec_step is = by_next (next_effect here t) refl is
        where
          by_next : (o : Option Effect) → next_effect here t ≡ o → e.done ≡ by_effect here t None o
              → Stands h (e ∷ before)
          by_next None next does = record {
            runs_there = ap (λ (d : Done). running_on h d.kernel.threads) does ∙ was.runs_there;
            knows = subst Knows (sym (ap (λ (d : Done). file_among d.files t (file s t before)) does)) was.knows;
          }
          by_next (Some x) next does =
              let f = file s t before in
              let o = outcome_of here t x in
              let after : Saved = record { file = o.regs; pc = o.pc } in
              let plain = does ∙ ap (λ c. cond c (by_call here (called_here here t)) (by_outcome here t o))
              (kept.plain f x was.knows next) in
              let now : file s t (e ∷ before) ≡ after =
              ap (λ (d : Done). file_among d.files t f) plain ∙ ap (λ c. cond c after f) (eqb_same t) in
              record {
                runs_there = ap (λ (d : Done). running_on h d.kernel.threads) plain ∙ was.runs_there;
                knows = subst Knows (sym now)
                    (kept.goes f x (view here) here.reserved (has_registers s before run.0 t) asked was.knows
                    next
                    (sym (ap (λ (g : Saved). in_block b g.pc) now) ∙ works.in_it)
                    (λ at. works.uncommitted (ap (λ (g : Saved). g.pc) now ∙ at)));
              }

      own_step : IsOfWalk here t e.entry → Stands h (e ∷ before)
      own_step (inl drains) =
          idle_step (subst (IsIdle here) (sym (did ∙ ap (λ c. done_of c here) drains))
          (drain_idle here (waiting_here here) refl))
      own_step (inr (inl takes)) =
          idle_step (subst (IsIdle here) (sym (did ∙ ap (λ c. done_of c here) takes.takes))
          (take_idle here here.restart (runs here) takes.quiet))
      own_step (inr (inr plain)) =
          exec_step (did ∙ ap (λ c. done_of c here) plain.executes ∙ ap (λ r. done_exec_by here r) was.runs_there
          ∙ ap (λ f. by_effect here t f (next_effect here t)) plain.no_fault)

    one_step : (e.entry.hart.0 ≡ h → IsOfWalk (here_in_history s before h) t e.entry) → Stands h (e ∷ before)
    one_step of_walk = by_hart (eqb e.entry.hart.0 h) refl
      where
        by_hart : (c : Bool) → eqb e.entry.hart.0 h ≡ c → Stands h (e ∷ before)
        by_hart true is = let own = eqb-true e.entry.hart.0 h is in own_step own (of_walk own)
        by_hart false apart = apart_step apart

  -- a walk, entry by entry
  walked : (h : ℕ) (rest log later : List Entry) → Runs (log ++ (rest ++ later))
      → AreOfWalk s h t (history s log) rest
      → ((first more : List Entry) → rest ≡ first ++ more → IsAtWork s b t (history s (log ++ first)))
      → Stands h (history s log) → Stands h (history s (log ++ rest))
  walked h [] log later run each works was =
      subst (λ (l : List Entry). Stands h (history s l)) (sym (append-nil log)) was
  walked h (x ∷ rest) log later run each works was =
      let one = log ++ x ∷ [] in
      let next : history s one ≡ event s (history s log) x ∷ history s log = history-append s log x in
      let run_on = subst Runs (sym (append_assoc log (x ∷ []) (rest ++ later))) run in
      let here = subst (IsRunHistory s) next (run_before s one (rest ++ later) run_on.run).allowed in
      let now = one_step h (event s (history s log) x) (history s log) here was
      (run.asked h log x (rest ++ later) refl was.runs_there)
      (subst (IsAtWork s b t) next (works (x ∷ []) rest refl)) each.0 in
      subst (λ (l : List Entry). Stands h (history s l)) (append_assoc log (x ∷ []) rest)
      (walked h rest one later run_on
      (subst (λ (past : History). AreOfWalk s h t past rest) (sym next) each.1)
      (λ first more same. subst (λ (l : List Entry). IsAtWork s b t (history s l))
      (sym (append_assoc log (x ∷ []) first)) (works (x ∷ first) more (ap (λ (l : List Entry). x ∷ l) same)))
      (subst (Stands h) (sym next) now))

  -- what is known of a place of the retries, and what is asked where the log goes on from it
  record Comes (log later : List Entry) : Type 0 where
    knows : Knows (file s t (history s log))
    asked : (x : Entry) (more : List Entry) → later ≡ x ∷ more → Asked (file s t (history s log))

  -- behind a walk
  behind : (h : ℕ) (stretch log later : List Entry) → Runs (log ++ (stretch ++ later)) → IsWalkAtWork s b h t log stretch
      → Comes log (stretch ++ later) → Comes (log ++ stretch) later
  behind h [] log later run walk was =
      subst (λ (l : List Entry). Comes l later) (sym (append-nil log)) was
  behind h (x ∷ rest) log later run walk was =
      let stretch = x ∷ rest in
      let now = walked h stretch log later run walk.walk.each walk.works
      (record { runs_there = walk.walk.starts; knows = was.knows }) in
      record {
        knows = now.knows;
        asked = λ y more same.
            run.asked h (log ++ stretch) y more
            (sym (append_assoc log stretch later) ∙ ap (λ (l : List Entry). (log ++ stretch) ++ l) same)
            now.runs_there;
      }

  same_file : (f g : Saved) → g.file ≡ f.file → g.pc ≡ f.pc → f ≡ g
  same_file f g one two = sym (ap (λ (r : Regs). record g { file = r }) one ∙ ap (λ n. record f { pc = n }) two)

  -- behind a gap between two walks
  past : (gap log later : List Entry) → IsBetween s b t (history s log) (history s (log ++ gap))
      → Comes log (gap ++ later) → Comes (log ++ gap) later
  past [] log later between was = subst (λ (l : List Entry). Comes l later) (sym (append-nil log)) was
  past (x ∷ rest) log later between was = by_pc between.pc
    where
      f : Saved
      f = file s t (history s log)

      g : Saved
      g = file s t (history s (log ++ x ∷ rest))

      asked : Asked f
      asked = was.asked x (rest ++ later) refl

      by_pc : (g.pc ≡ f.pc) ⊎ ((is_inside b.range f.pc ≡ true) × (g.pc ≡ b.range.abort)) → Comes (log ++ x ∷ rest) later
      by_pc (inl stays) =
          let same = same_file f g between.registers stays in
          record { knows = subst Knows same was.knows; asked = λ y more is. subst Asked same asked }
      by_pc (inr cut) =
          let same = same_file (record f { pc = b.range.abort }) g between.registers cut.1 in
          record {
            knows = subst Knows same (kept.cut f asked was.knows cut.0);
            asked = λ y more is. kept.handler g cut.1;
          }

  -- and the retries
  comes_throughout : (first log : List Entry) → Retries s b t first log → (later : List Entry) → Runs (log ++ later)
      → Knows (file s t (history s first)) → Comes log later
  comes_throughout first log (begins at) later run knows =
      record { knows = knows; asked = λ x more is. kept.retry (file s t (history s log)) at }
  comes_throughout first now (walks h log stretch earlier walk) later run knows =
      let run_here = subst Runs (append_assoc log stretch later) run in
      behind h stretch log later run_here walk (comes_throughout first log earlier (stretch ++ later) run_here knows)
  comes_throughout first now (goes_on log gap earlier between) later run knows =
      let run_here = subst Runs (append_assoc log gap later) run in
      past gap log later between (comes_throughout first log earlier (gap ++ later) run_here knows)

  pub known_throughout : (first log : List Entry) → Retries s b t first log → (later : List Entry)
      → Runs (log ++ later) → Knows (file s t (history s first)) → Knows (file s t (history s log))
  known_throughout first log retries later run knows = (comes_throughout first log retries later run knows).knows
