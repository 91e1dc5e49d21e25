-- A machine on which thread t is one local step ahead of where it is on another one goes on as that one does.
use Rattle.local_steps.proofs.Common.{◌≡◌, ◌≢◌, ◌⊎◌, inl, inr, ℕ, List, [], ◌∷◌, drop, append-nil, refl, sym, ap, ◌∙◌, Bool, true, false, cond, eqb, eqb-true, eqb_same, ne_eqb, Option, Some, None, Choice, Done, Here, IsGoodHere, Kind, Plain, Saved, Setting, apply, awaits_after, awaits_of_own, by_effect, done_of, file_among, here_in_plain, is_ready, option_map, plain_over, refusal_of, running_on, runs, thread_in, with_state, on, false≢true, is_preempt, ◌++◌, ◌&&◌, ◌||◌, Effect, Hart, done_exec_by, fault_by, fetched, is_storable, reached, Barrier, option_or, without_hart, one_instruction, Store, is_call, next_fault}
use Rattle.mach_types.specs.Events.{kind_of}
use Rattle.mach_types.specs.declared.events.Choice.TheVariants as asked
use Rattle.mach_types.specs.declared.events.Kind.TheVariants as kind
use Rattle.rv_inst.specs.declared.effects.Effect.TheVariants as effect
use Rattle.mach_types.specs.Bytes.{joined, overlay}
use Rattle.mach_types.specs.declared.signals.TheConstants.{SIGSEGV}
use Rattle.mach_types.specs.declared.events.Why.{Why}
use Rattle.mach_types.specs.declared.events.Why.TheVariants.{FullBuffer, Waiting}
use Rattle.mach_types.specs.declared.user_memory.TheConstants.{STORE_BUFFER_CAPACITY}
use Rattle.rv_inst.specs.Class.{wants_empty}
use Rattle.rv_inst.specs.Execution.{instruction_gate, is_readable, seen_byte, word_seen}
use Rattle.rv_inst.specs.Memory.{loaded}
use Rattle.rv_inst.specs.Words.{sum_64}
use Rattle.std.proofs.Common.{◌<◌, ◌+◌, arith, is_some, leb, length, ltb, zero, suc}
use Rattle.std.proofs.lemmas.Bool.{lt-ltb}
use Rattle.std.specs.Option.{option_map_or}
use Rattle.mach_types.specs.Registers.{with_register}
use Rattle.block_model.specs.Events.Exec.{is_held, others_gate, refusal_exec_by}
use Rattle.block_model.specs.Events.Preempt.{unless_in_barrier}
use Rattle.block_model.specs.Here.{view_of_all}
use Rattle.block_model.specs.Instruction.{next_effect}
use Rattle.local_steps.specs.LocalSteps.{IsLoadStep, IsStepAt, local_after, seen_by, seen_in}
use Rattle.local_steps.proofs.Notions.{IsAhead, IsCalm, moved, with_file}
use Rattle.local_steps.specs.Runs.{AreAlike, MayCome, next_of, uncounted}
use Rattle.block_model.proofs.Laws.{waits_in_none, ready_apart, run_ready, its_ready, ran_runs, running_is, state_now, waits_elsewhere, ready_not_waiting, IsFit, IsGood, good_here, good_next, IsReadyKept, ready_deed, good_of}
use Rattle.block_model.proofs.EventEffects.{CallKills, Calls, EventDeed, Executes, FaultKills, Faults, Nothing, Preempts, RunKills, Runs, Skips, begun_by, deed_chosen}
use Rattle.mach_types.specs.declared.threads.ThreadState.TheVariants.{Ready}
use Rattle.local_steps.proofs.Congruence.{IsAlikeFor, of_other, of_own}
use Rattle.local_steps.proofs.ReadsOne.{AgreeBut, IsAwake}

-- MACHINES THAT ARE ALIKE

pub may_alike : (s : Setting) (m n : Plain) (a : ℕ × Choice) → AreAlike m n → MayCome s m a → MayCome s n a
may_alike s m n a alike may = record {
  goes = sym (ap plain_over alike) ∙ may.goes;
  lt = may.lt;
  free = sym (ap (λ (x : Plain). refusal_of a.1 (here_in_plain s x a.0)) alike) ∙ may.free;
}

pub next_alike : (s : Setting) (m n : Plain) (a : ℕ × Choice) → AreAlike m n → AreAlike (next_of s m a) (next_of s n a)
next_alike s m n a alike = ap (λ (x : Plain). uncounted (next_of s x a)) alike

either_same : {A : Type 0} (b : Bool) (x : A) → cond b x x ≡ x
either_same true x = refl
either_same false x = refl

pub some_same : (u v : ℕ) → Some u ≡ Some v → u ≡ v
some_same u v is = cc

-- a word can be read where the hart sees it if it can be in memory
joined_some : (o p : Option ℕ) (w v : Option ℕ) → is_some o ≡ is_some p → is_some w ≡ is_some v → is_some (joined o w) ≡ is_some (joined p v)
joined_some None None w v p q = refl
joined_some (Some x) (Some y) None None p q = refl
joined_some (Some x) (Some y) (Some w) (Some v) p q = refl
joined_some None (Some y) w v p q = absurd cc
joined_some (Some x) None w v p q = absurd cc
joined_some (Some x) (Some y) None (Some v) p q = absurd cc
joined_some (Some x) (Some y) (Some w) None p q = absurd cc

seen_some : (ws : List Store) (a : ℕ) (o : Option ℕ) → is_some (option_map (overlay ws a) o) ≡ is_some o
seen_some ws a None = refl
seen_some ws a (Some x) = refl

word_readable : (ws : List Store) (byte : ℕ → Option ℕ) (at n : ℕ) → is_readable (seen_byte ws byte) at n ≡ is_readable byte at n
word_readable ws byte at zero = refl
word_readable ws byte at (suc n) = joined_some _ _ _ _ (seen_some ws at (byte at)) (word_readable ws byte (at + 1) n)

-- a thread runs on one hart
one_place : (s : Setting) (m : Plain) (t k h : ℕ) → IsGood s m → running_on k m.kernel.threads ≡ Some t → running_on h m.kernel.threads ≡ Some t → k ≡ h
one_place s m t k h good there at =
    let ts = m.kernel.threads in
    let tables = good.kernel.tables in
    let states : Some (on k) ≡ Some (on h) =
    sym (running_is s.limits.harts k t ts m.kernel.scheduling tables there) ∙ running_is s.limits.harts h t ts m.kernel.scheduling tables at in
    let same : on k ≡ on h = cc in
    let harts : let x : Hart = record { 0 = k } in x ≡ record { 0 = h } = cc in
    ap (λ (x : Hart). x.0) harts

-- WHAT A LOCAL STEP WAITS FOR

-- where it was allowed that wants none to wait, no store waits
shut : (some faults wants : Bool) (rest : Option Why) → some ≡ true → wants ≡ true → cond (some && (faults || wants)) (Some Waiting) rest ≡ None → ⊥
shut true true wants rest waits is free = absurd cc
shut true false true rest waits is free = absurd cc
shut true false false rest waits is free = absurd cc
shut false faults wants rest waits is free = absurd cc

none_waiting : (ws : List Store) (faults : Bool) (e : Effect) → wants_empty e ≡ true → instruction_gate (length ws) (Some e) faults ≡ None → ws ≡ []
none_waiting [] faults e is free = refl
none_waiting (w ∷ ws) faults e is free = absurd (shut (ltb 0 (length (w ∷ ws))) faults (wants_empty e) _ (lt-ltb 0 (length (w ∷ ws)) (omega arith)) is free)

gate_passed : (awaits : Option ℕ) (gate others : Option Why) → unless_in_barrier awaits (option_or gate others) ≡ None → gate ≡ None
gate_passed None None others free = refl
gate_passed None (Some why) others free = absurd cc
gate_passed (Some left) gate others free = absurd cc

-- and where none waits that has to, it is allowed
opened : (some full wants : Bool) → (wants ≡ true → some ≡ false) → cond (some && wants) (Some Waiting) (cond (full && false) (Some FullBuffer) None) ≡ None
opened true true false clear = refl
opened true false false clear = refl
opened false true wants clear = refl
opened false false wants clear = refl
opened true full true clear = let bad : true ≡ false = clear refl in absurd cc

drop_none : {A : Type 0} (n : ℕ) → drop n (let xs : List A = [] in xs) ≡ []
drop_none zero = refl
drop_none (suc n) = refl

-- an event that is no instruction executes no store
executes_none : (here : Here) (tid : ℕ) {k : Kind} {x : Done} → EventDeed here tid k x → k ≢ kind.Exec → x.executed ≡ []
executes_none here tid Skips other = absurd (other refl)
executes_none here tid (Faults u signal its handler) other = absurd (other refl)
executes_none here tid (FaultKills u signal its) other = absurd (other refl)
executes_none here tid (CallKills u e next calls) other = absurd (other refl)
executes_none here tid (Calls u e next calls outside) other = absurd (other refl)
executes_none here tid (Executes u e next) other = absurd (other refl)
executes_none here tid deed other = refl

-- THREAD t

module _ (s : Setting) (private : ℕ → ℕ → Bool) (t : ℕ) (g : Saved) where
  -- no store waits on hart k that its next instruction has to wait for
  abbrev pub IsClear : Plain → ℕ → Type 0
  IsClear m k = (e : Effect) → next_effect s.program.pages (m.file t) ≡ Some e → wants_empty e ≡ true → m.waiting k ≡ []

  -- it is ready, or runs on a hart, waits in no barrier, and its next instruction for no store
  abbrev pub IsFree : Plain → Type 0
  IsFree m = (is_ready t m.kernel.threads ≡ true) ⊎ ((k : ℕ) × (running_on k m.kernel.threads ≡ Some t) × (m.awaits k ≡ None) × IsClear m k)

  -- the machine is good, thread t is free there, and its next instruction is a local step
  pub record IsBehind (m : Plain) : Type 0 where
    pub good : IsGood s m
    pub free : IsFree m
    pub local : IsStepAt s private t g m

  -- an event comes on the machine that is ahead too, and leaves it ahead
  pub record IsPassedTo (m : Plain) (a : ℕ × Choice) : Type 0 where
    pub may : MayCome s (moved t g m) a
    pub alike : IsAlikeFor (here_in_plain s m a.0) m.file (with_file t g m.file) a.1
    pub next : IsAhead t g (next_of s m a) (next_of s (moved t g m) a)
    pub good : IsGood s (next_of s m a)
    pub free : IsFree (next_of s m a)
    pub file : (next_of s m a).file t ≡ m.file t

  -- and where its next instruction is still such a step, t is behind
  pub behind_next : (m : Plain) (a : ℕ × Choice) → IsPassedTo m a → IsStepAt s private t g (next_of s m a) → IsBehind (next_of s m a)
  behind_next m a x local = record { good = x.good; free = x.free; local = local }

  module _ (m : Plain) (behind : IsBehind m) where
    awake : IsAwake t m.kernel
    awake waiting = elim behind.free [
      | inl ready ↦ ready_not_waiting t t m.kernel.threads ready waiting refl
      | inr on ↦ waits_elsewhere s.limits.harts on.0 t t m.kernel.threads m.kernel.scheduling behind.good.kernel.tables on.1 waiting refl
    ]

    agree : AgreeBut t m.file (with_file t g m.file)
    agree u ne = ap (λ b. cond b g (m.file u)) (sym (ne_eqb t u (λ e. ne (sym e))))

    -- an event of another thread is refused alike where t is ahead
    pub other_refused : (h : ℕ) (c : Choice) → ((u : ℕ) → thread_in c (here_in_plain s m h) ≡ Some u → u ≢ t)
        → refusal_of c (here_in_plain s m h) ≡ refusal_of c (here_in_plain s (moved t g m) h)
    other_refused h c apart = (of_other (here_in_plain s m h) t m.file (with_file t g m.file) agree c apart awake).refusal

  module _ (m : Plain) (a : ℕ × Choice) (behind : IsBehind m) (may : MayCome s m a) where
    abbrev here : Here
    here = here_in_plain s m a.0

    abbrev d : Done
    d = done_of a.1 here

    good : IsGoodHere here
    good = good_here s m a.0 may.lt behind.good

    fit : IsFit here d
    fit = good_of a.1 here good may.free

    file_passes : (none : (x : Saved) → file_among d.files t x ≡ x) (u : ℕ) (b : Bool) → eqb t u ≡ b
        → file_among d.files u (cond b g (m.file u)) ≡ cond b g (file_among d.files u (m.file u))
    file_passes none u true is = ap (λ n. file_among d.files n g) (sym (eqb-true t u is)) ∙ none g
    file_passes none u false is = refl

    passes : IsAlikeFor here m.file (with_file t g m.file) a.1 → ((x : Saved) → file_among d.files t x ≡ x) → IsFree (next_of s m a) → IsPassedTo m a
    passes alike none free = record {
      may = record { goes = may.goes; lt = may.lt; free = sym alike.refusal ∙ may.free };
      alike = alike;
      next = ap (λ (x : Done). uncounted (apply a.0 x (moved t g m))) (sym alike.done) ∙ (λ i. record (uncounted (next_of s m a)) { file = λ u. file_passes none u (eqb t u) refl i });
      good = good_next s m a.0 d behind.good fit;
      free = free;
      file = none (m.file t);
    }

    -- AN EVENT OF ANOTHER THREAD

    module _ (apart : (u : ℕ) → thread_in a.1 here ≡ Some u → u ≢ t) where
      -- where t runs, that is on another hart
      elsewhere_by : (c : Choice) → refusal_of c here ≡ None → ((u : ℕ) → thread_in c here ≡ Some u → u ≢ t) → (k : ℕ) → running_on k m.kernel.threads ≡ Some t → k ≢ a.0
      elsewhere_by (asked.Run u) free apart k on same =
          let idle = (run_ready here u.0 free).0 in
          let both : None ≡ Some t = sym idle ∙ ap (λ n. running_on n m.kernel.threads) (sym same) ∙ on in
          absurd cc
      elsewhere_by c free apart k on same = apart t (ap (λ n. running_on n m.kernel.threads) (sym same) ∙ on) refl

      not_begun : (c : Choice) → ((u : ℕ) → thread_in c here ≡ Some u → u ≢ t) → kind_of c ≡ kind.Run → begun_by c ≢ t
      not_begun (asked.Run u) apart is = apart u.0 refl
      not_begun c apart is = absurd cc

      kept_ready : is_ready t m.kernel.threads ≡ true → IsReadyKept here t d
      kept_ready ready = ready_deed here good t (begun_by a.1) (deed_chosen here a.1) (not_begun a.1 apart) ready

      -- whether it waits in a barrier is another hart's matter
      none_awaits : (k : ℕ) → k ≢ a.0 → m.awaits k ≡ None → awaits_after k a.0 d (m.awaits k) ≡ None
      none_awaits k ne none = rw (ne_eqb a.0 k (λ e. ne (sym e)), none) (either_same d.took None)

      -- and so is what waits there
      clear_elsewhere : (k : ℕ) → k ≢ a.0 → ((x : Saved) → file_among d.files t x ≡ x) → IsClear m k → IsClear (next_of s m a) k
      clear_elsewhere k ne none clear e is wants =
          ap (λ b. cond b (drop d.drained (m.waiting k ++ d.executed)) (m.waiting k)) (ne_eqb a.0 k (λ e. ne (sym e)))
          ∙ clear e (ap (λ (f : Saved). next_effect s.program.pages f) (sym (none (m.file t))) ∙ is) wants

      pub other_passes : IsPassedTo m a
      other_passes =
          let alike = of_other here t m.file (with_file t g m.file) (agree m behind) a.1 apart (awake m behind) in
          elim behind.free [
            | inl ready ↦ passes alike (kept_ready ready).file (inl (kept_ready ready).ready)
            | inr on ↦
                let ne = elsewhere_by a.1 may.free apart on.0 on.1 in
                let none = λ (x : Saved). fit.apart on.0 t x ne on.1 in
                passes alike none (inr (on.0, fit.others on.0 ne ∙ on.1, none_awaits on.0 ne on.2, clear_elsewhere on.0 ne none on.3))
          ]

    -- AN EVENT OF THREAD t THAT IS NO INSTRUCTION

    -- where it then is: ready, or on the hart
    abbrev IsThere : Done → Type 0
    IsThere x = ((is_ready t x.kernel.threads ≡ true) ⊎ (running_on a.0 x.kernel.threads ≡ Some t)) × (x.barrier ≡ None)

    own_deed : {tid : ℕ} {k : Kind} {x : Done} → EventDeed here tid k x → k ≢ kind.Exec → (k ≡ kind.Run → (tid ≡ t) × (is_ready t m.kernel.threads ≡ true) × (runs here ≡ None))
        → (k ≢ kind.Run → runs here ≡ Some t) → IsThere x
    own_deed (Nothing kind.Exec) no_exec begins at = absurd (no_exec refl)
    own_deed (Nothing kind.Run) no_exec begins at = (inl (begins refl).1, refl)
    own_deed Skips no_exec begins at = absurd (no_exec refl)
    own_deed (Faults u signal its handler) no_exec begins at = absurd (no_exec refl)
    own_deed (FaultKills u signal its) no_exec begins at = absurd (no_exec refl)
    own_deed (CallKills u e next calls) no_exec begins at = absurd (no_exec refl)
    own_deed (Calls u e next calls outside) no_exec begins at = absurd (no_exec refl)
    own_deed (Executes u e next) no_exec begins at = absurd (no_exec refl)
    own_deed (Preempts k u leaves on_hart) no_exec begins at =
        let ts = m.kernel.threads in
        let runs_t = at (λ is. false≢true (sym (ap is_preempt is) ∙ leaves)) in
        let same = some_same u t (sym on_hart ∙ runs_t) in
        let now = ap its_ready (state_now t Ready (on a.0) ts (running_is s.limits.harts a.0 t ts m.kernel.scheduling good.kernel.tables runs_t)) in
        (inl (ap (λ n. is_ready t (with_state n Ready ts)) same ∙ now), refl)
    own_deed Runs no_exec begins at =
        let it = begins refl in
        let begun = ran_runs s.limits.harts a.0 t m.kernel.threads m.kernel.scheduling good.kernel.tables it.1 it.2 may.lt in
        (inr (ap (λ n. running_on a.0 (with_state n (on a.0) m.kernel.threads)) it.0 ∙ begun), refl)
    own_deed RunKills no_exec begins at = (inl (begins refl).1, refl)
    own_deed deed no_exec begins at = (inr (at (λ is. absurd cc)), refl)

    module _ (its : thread_in a.1 here ≡ Some t) (no_exec : a.1 ≢ asked.Exec) (calm : IsCalm a.1 here t g) where
      kind_apart : (c : Choice) → c ≢ asked.Exec → kind_of c ≢ kind.Exec
      kind_apart asked.Exec never is = never refl
      kind_apart c never is = absurd cc

      begins_by : (c : Choice) → refusal_of c here ≡ None → thread_in c here ≡ Some t → kind_of c ≡ kind.Run
          → (begun_by c ≡ t) × (is_ready t m.kernel.threads ≡ true) × (runs here ≡ None)
      begins_by (asked.Run u) free its is =
          let may_run = run_ready here u.0 free in
          let same = some_same u.0 t its in
          (same, ap (λ n. is_ready n m.kernel.threads) (sym same) ∙ may_run.1, may_run.0)
      begins_by c free its is = absurd cc

      runs_by : (c : Choice) → thread_in c here ≡ Some t → kind_of c ≢ kind.Run → runs here ≡ Some t
      runs_by (asked.Run u) its never = absurd (never refl)
      runs_by c its never = its

      there : IsThere d
      there = own_deed (deed_chosen here a.1) (kind_apart a.1 no_exec) (begins_by a.1 may.free its) (runs_by a.1 its)

      -- it waits in no barrier
      same_hart : (k : ℕ) → running_on k m.kernel.threads ≡ Some t → runs here ≡ Some t → k ≡ a.0
      same_hart k there at = one_place s m t k a.0 behind.good there at

      idle_awaits : (o : Option ℕ) → m.awaits a.0 ≡ o → runs here ≡ None → o ≡ None
      idle_awaits None is idle = refl
      idle_awaits (Some left) is idle = absurd (behind.good.busy a.0 left is idle)

      running_awaits : runs here ≡ Some t → m.awaits a.0 ≡ None
      running_awaits at = elim behind.free [
        | inl ready ↦ absurd (ready_apart s.limits.harts t a.0 t m.kernel.threads m.kernel.scheduling good.kernel.tables ready at refl)
        | inr on ↦ ap m.awaits (sym (same_hart on.0 on.1 at)) ∙ on.2
      ]

      none_awaited : m.awaits a.0 ≡ None
      none_awaited = by_choice a.1 may.free its
        where
          by_choice : (c : Choice) → refusal_of c here ≡ None → thread_in c here ≡ Some t → m.awaits a.0 ≡ None
          by_choice (asked.Run u) free its = idle_awaits (m.awaits a.0) refl (run_ready here u.0 free).0
          by_choice c free its = running_awaits its

      awaits_still : awaits_after a.0 a.0 d (m.awaits a.0) ≡ None
      awaits_still =
          ap (λ (w : Option ℕ). awaits_after a.0 a.0 d w) none_awaited
          ∙ ap (λ b. cond b (awaits_of_own d None) (cond d.took (option_map (without_hart a.0) None) None)) (eqb_same a.0)
          ∙ ap (λ (x : Option Barrier). cond d.returned None (option_or (option_map (λ (b : Barrier). b.targets) x) None)) there.1
          ∙ either_same d.returned None

      -- and no store waits there that its next instruction has to wait for
      running_clear : runs here ≡ Some t → IsClear m a.0
      running_clear at = elim behind.free [
        | inl ready ↦ absurd (ready_apart s.limits.harts t a.0 t m.kernel.threads m.kernel.scheduling good.kernel.tables ready at refl)
        | inr on ↦ λ e is wants. ap m.waiting (sym (same_hart on.0 on.1 at)) ∙ on.3 e is wants
      ]

      none_waits : IsClear m a.0
      none_waits = by_choice a.1 may.free its
        where
          by_choice : (c : Choice) → refusal_of c here ≡ None → thread_in c here ≡ Some t → IsClear m a.0
          by_choice (asked.Run u) free its = λ e is wants. behind.good.idle a.0 (run_ready here u.0 free).0
          by_choice c free its = running_clear its

      clear_still : d.files ≡ [] → IsClear (next_of s m a) a.0
      clear_still files e is wants =
          let waits = none_waits e (ap (λ (fs : List (ℕ × Saved)). next_effect s.program.pages (file_among fs t (m.file t))) (sym files) ∙ is) wants in
          ap (λ b. cond b (drop d.drained (m.waiting a.0 ++ d.executed)) (m.waiting a.0)) (eqb_same a.0)
          ∙ ap (λ (ws : List Store). drop d.drained (ws ++ d.executed)) waits
          ∙ ap (λ (ws : List Store). drop d.drained ws) (executes_none here (begun_by a.1) (deed_chosen here a.1) (kind_apart a.1 no_exec))
          ∙ drop_none d.drained

      pub own_passes : IsPassedTo m a
      own_passes =
          let x = of_own here t m.file g a.1 its no_exec none_awaited may.free calm in
          passes x.alike (λ f. ap (λ (fs : List (ℕ × Saved)). file_among fs t f) x.files)
          (elim there.0 [
            | inl ready ↦ inl ready
            | inr on ↦ inr (a.0, on, awaits_still, clear_still x.files)
          ])

  -- THE LOCAL STEP

  -- what a thread that runs sees and can read
  module _ (m : Plain) (h : ℕ) (at : running_on h m.kernel.threads ≡ Some t) (good : IsGood s m) where
    seen_here : seen_by t m ≡ view_of_all (here_in_plain s m h)
    seen_here = ap (λ o. seen_in m o) (running_is s.limits.harts h t m.kernel.threads m.kernel.scheduling good.kernel.tables at)

    load_readable : (x : IsLoadStep s private t g m) → is_readable (reached (here_in_plain s m h)) x.at x.size ≡ true
    load_readable x =
        sym (word_readable (m.waiting h) (reached (here_in_plain s m h)) x.at x.size) ∙ ap (λ (byte : ℕ → Option ℕ). is_readable byte x.at x.size) (sym seen_here) ∙ x.can_read

  module _ (m : Plain) (h : ℕ) (at : running_on h m.kernel.threads ≡ Some t) (good : IsGood s m) (step_at : IsStepAt s private t g m) where
    abbrev there_here : Here
    there_here = here_in_plain s m h

    abbrev step : Done
    step = record (one_instruction there_here) { files = (t, g) ∷ [] }

    does_so : {x : Saved} → Some x ≡ Some g → (let d : Done = record (one_instruction there_here) { files = (t, x) ∷ [] } in d) ≡ step
    does_so is = ap (λ (x : Saved). let d : Done = record (one_instruction there_here) { files = (t, x) ∷ [] } in d) (let same = is in cc)

    does : (e : Effect) → local_after e (m.file t) ≡ Some g
        → by_effect there_here t (fault_by (reached there_here) (is_storable there_here) (m.file t).pc (fetched s.program.pages (m.file t).pc) (Some e)) (Some e) ≡ step
    does (effect.Next rd value to) is = does_so is
    does (effect.Fence full) is = does_so is
    does effect.FenceI is = does_so is
    does e is = absurd cc

    abbrev f : Saved
    f = m.file t

    loads : (x : IsLoadStep s private t g m) → by_effect there_here t (fault_by (reached there_here) (is_storable there_here) f.pc (fetched s.program.pages f.pc) (Some (effect.Load x.at x.size x.is_signed x.rd))) (Some (effect.Load x.at x.size x.is_signed x.rd)) ≡ step
    loads x =
        ap (λ b. by_effect there_here t (cond b None (Some SIGSEGV)) (Some (effect.Load x.at x.size x.is_signed x.rd))) (load_readable m h at good x)
        ∙ ap (λ (byte : ℕ → Option ℕ). let d : Done = record (one_instruction there_here) {
          files = (t, record { file = with_register f.file x.rd (loaded (word_seen byte x.at x.size) x.size x.is_signed); pc = sum_64 f.pc 4 }) ∷ [];
        } in d) (sym (seen_here m h at good))
        ∙ ap (λ (y : Saved). let d : Done = record (one_instruction there_here) { files = (t, y) ∷ [] } in d) (sym x.leaves)

    step_is : done_of asked.Exec there_here ≡ step
    step_is = ap (done_exec_by there_here) at ∙ elim step_at [
      | inl local ↦
          ap (λ (o : Option Effect). by_effect there_here t (fault_by (reached there_here) (is_storable there_here) f.pc (fetched s.program.pages f.pc) o) o) local.is
          ∙ does local.effect local.leaves
      | inr x ↦
          ap (λ (o : Option Effect). by_effect there_here t (fault_by (reached there_here) (is_storable there_here) f.pc (fetched s.program.pages f.pc) o) o) x.is ∙ loads x
    ]

    -- it makes no fault, and is no call
    abbrev traps_with : Option Effect → Bool
    traps_with o = is_some (fault_by (reached there_here) (is_storable there_here) f.pc (fetched s.program.pages f.pc) o) || option_map_or is_call o false

    local_no_trap : (e : Effect) → local_after e f ≡ Some g → traps_with (Some e) ≡ false
    local_no_trap (effect.Next rd value to) is = refl
    local_no_trap (effect.Fence full) is = refl
    local_no_trap effect.FenceI is = refl
    local_no_trap e is = absurd cc

    pub never_traps : (is_some (next_fault there_here t) || option_map_or is_call (next_effect s.program.pages f) false) ≡ false
    never_traps = elim step_at [
      | inl local ↦ ap traps_with local.is ∙ local_no_trap local.effect local.leaves
      | inr x ↦ ap traps_with x.is ∙ ap (λ b. is_some (cond b None (Some SIGSEGV)) || false) (load_readable m h at good x)
    ]

    waiting_same : (k : ℕ) (b : Bool) → cond b (drop 0 (m.waiting k ++ [])) (m.waiting k) ≡ m.waiting k
    waiting_same k true = append-nil (m.waiting k)
    waiting_same k false = refl

    reserved_same : (k : ℕ) (b : Bool) → eqb h k ≡ b → cond b (m.reserved h) (m.reserved k) ≡ m.reserved k
    reserved_same k true is = ap m.reserved (eqb-true h k is)
    reserved_same k false is = refl

    requests_same : (b : Bool) (set : ℕ) → cond (b && false) 0 (cond false set set) ≡ set
    requests_same true set = refl
    requests_same false set = refl

    restart_same : (b : Bool) (r : Bool) → cond (b && false) false (false || r) ≡ r
    restart_same true r = refl
    restart_same false r = refl

    -- after it thread t is ahead
    pub steps_ahead : AreAlike (next_of s m (h, asked.Exec)) (moved t g m)
    steps_ahead = ap (λ (x : Done). uncounted (apply h x m)) step_is ∙ (λ i. record (uncounted m) {
      waiting = λ k. waiting_same k (eqb h k) i;
      reserved = λ k. reserved_same k (eqb h k) refl i;
      requests = λ k. requests_same (eqb h k) (m.requests k) i;
      restart = λ k. restart_same (eqb h k) (m.restart k) i;
      awaits = λ k. either_same (eqb h k) (m.awaits k) i;
      file = with_file t g m.file;
    })

  -- WHERE THE STEP MAY COME

  module _ (m : Plain) (h : ℕ) (at : running_on h m.kernel.threads ≡ Some t) where
    abbrev place : Here
    place = here_in_plain s m h

    abbrev fault_of : Option Effect → Option ℕ
    fault_of o = fault_by (reached place) (is_storable place) (m.file t).pc (fetched s.program.pages (m.file t).pc) o

    abbrev step_refused : Option Effect → Option Why
    step_refused o = option_or (instruction_gate (length (m.waiting h)) o (is_some (fault_of o))) (others_gate (is_held place t) o)

    clear_at : MayCome s m (h, asked.Exec) → IsClear m h
    clear_at may e is wants =
        let own : Option Effect = next_effect s.program.pages (m.file t) in
        let faults = is_some (fault_of own) in
        let gate =
        gate_passed place.awaits (instruction_gate (length (m.waiting h)) own faults) (others_gate (is_held place t) own) (ap (refusal_exec_by place) (sym at) ∙ may.free) in
        none_waiting (m.waiting h) faults e wants (sym (ap (λ (o : Option Effect). instruction_gate (length (m.waiting h)) o faults) is) ∙ gate)

    -- its next instruction may be executed there
    pub behind_at : IsGood s m → MayCome s m (h, asked.Exec) → IsStepAt s private t g m → IsBehind m
    behind_at good may local = record { good = good; free = inr (h, at, waits_in_none asked.Exec place may.free refl, clear_at may); local = local }

    module _ (behind : IsBehind m) where
      can_go : (m.awaits h ≡ None) × IsClear m h
      can_go = elim behind.free [
        | inl ready ↦ absurd (ready_apart s.limits.harts t h t m.kernel.threads m.kernel.scheduling behind.good.kernel.tables ready at refl)
        | inr there ↦
            let same = one_place s m t there.0 h behind.good there.1 at in
            (ap m.awaits (sym same) ∙ there.2, λ e is wants. ap m.waiting (sym same) ∙ there.3 e is wants)
      ]

      some_waits : (e : Effect) → next_effect s.program.pages (m.file t) ≡ Some e → wants_empty e ≡ true → ltb 0 (length (m.waiting h)) ≡ false
      some_waits e is wants = ap (λ (ws : List Store). ltb 0 (length ws)) (can_go.1 e is wants)

      gate_none : (wants : Bool) → (wants ≡ true → ltb 0 (length (m.waiting h)) ≡ false)
          → option_or (cond (ltb 0 (length (m.waiting h)) && wants) (Some Waiting) (cond (leb STORE_BUFFER_CAPACITY (length (m.waiting h)) && false) (Some FullBuffer) None)) None ≡ None
      gate_none wants clear = ap (λ (o : Option Why). option_or o None) (opened (ltb 0 (length (m.waiting h))) (leb STORE_BUFFER_CAPACITY (length (m.waiting h))) wants clear)

      local_free : (e : Effect) → next_effect s.program.pages (m.file t) ≡ Some e → local_after e (m.file t) ≡ Some g → step_refused (Some e) ≡ None
      local_free (effect.Next rd value to) is leaves = gate_none false (λ bad. absurd (false≢true bad))
      local_free (effect.Fence full) is leaves = gate_none full (some_waits (effect.Fence full) is)
      local_free effect.FenceI is leaves = gate_none true (some_waits effect.FenceI is)
      local_free e is leaves = absurd cc

      load_free : (x : IsLoadStep s private t g m) → step_refused (Some (effect.Load x.at x.size x.is_signed x.rd)) ≡ None
      load_free x =
          ap (λ b. option_or (instruction_gate (length (m.waiting h)) (Some (effect.Load x.at x.size x.is_signed x.rd)) (is_some (cond b None (Some SIGSEGV)))) None) (load_readable m h at behind.good x)
          ∙ gate_none false (λ bad. absurd (false≢true bad))

      step_free : refusal_exec_by place (Some t) ≡ None
      step_free = ap (λ (w : Option ℕ). unless_in_barrier w (step_refused (next_effect s.program.pages (m.file t)))) can_go.0 ∙ elim behind.local [
        | inl local ↦ ap step_refused local.is ∙ local_free local.effect local.is local.leaves
        | inr x ↦ ap step_refused x.is ∙ load_free x
      ]

      -- where it runs its step may come
      pub may_step : plain_over m ≡ None → h < s.limits.harts → MayCome s m (h, asked.Exec)
      may_step goes lt = record { goes = goes; lt = lt; free = ap (refusal_exec_by place) at ∙ step_free }
