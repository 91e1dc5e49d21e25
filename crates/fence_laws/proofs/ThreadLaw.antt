-- What an event does to the threads of a process. Who is gone stays so, and numbers aren't given twice; who waits
-- waited, or made the call for it; and a thread that neither runs on the hart nor begins to run keeps its pc, but
-- one that is born goes on behind the call of its parent.
use Rattle.std.proofs.Common.{◌≡◌, ◌≢◌, ℕ, ◌+◌, ◌<◌, ◌≤◌, List, [], ◌∷◌, ◌++◌, ◌⊎◌, All, arith, refl}
use Rattle.std.proofs.Common.{sym, ap, ◌∙◌, subst, Bool, true, false, not, ◌||◌, cond, eqb, find, map, inl, inr}
use Rattle.std.proofs.Common.{Option, Some, None, is_some}
use Rattle.std.specs.Option.{option_map, option_map_or}
use Rattle.std.proofs.lemmas.Bool.{cases_eq, cases_lt, eq-eqb, eqb-true, false≢true, ne_eqb}
use Rattle.std.proofs.lemmas.List.Elements.{All-head, All-tail}
use Rattle.mach_types.proofs.Laws.{KeepsRows, keeps_clear, state_of-with_child_other, state_of-with_rows}
use Rattle.mach_types.proofs.Laws.{state_of-with_state_other, state_of-with_state_same, state_of-without_other}
use Rattle.mach_types.proofs.Laws.{state_of-without_same}
use Rattle.mach_types.specs.Events.{begun_by as named_by, choice_of, kind_of}
use Rattle.mach_types.specs.Kernel.Threads.{Thread, Threads, clear_of, is_live, is_ready, is_thread, numbers}
use Rattle.mach_types.specs.Kernel.Threads.{is_ready_state, is_waiting_state, state_of, thread_of, with_child}
use Rattle.mach_types.specs.Kernel.Threads.{clear_if, with_rows}
use Rattle.mach_types.specs.Kernel.Threads.{waits, with_state, with_waiter, with_woken, without}
use Rattle.mach_types.specs.Registers.{register}
use Rattle.mach_types.specs.declared.events.Choice.{Choice}
use Rattle.mach_types.specs.declared.events.Choice.TheVariants as asked
use Rattle.mach_types.specs.declared.events.Kind.{Kind}
use Rattle.mach_types.specs.declared.events.Kind.TheVariants as kind
use Rattle.mach_types.specs.declared.events.Tid.{Tid}
use Rattle.mach_types.specs.declared.sequences.Outcome.{Outcome}
use Rattle.mach_types.specs.declared.sequences.Outcome.TheVariants as comes_to
use Rattle.mach_types.specs.declared.threads.Saved.{Saved}
use Rattle.mach_types.specs.declared.threads.ThreadState.{ThreadState}
use Rattle.mach_types.specs.declared.threads.ThreadState.TheVariants.{Ready, Running, Waiting}
use Rattle.mach_types.specs.declared.user_memory.Write.{Write}
use Rattle.rv_inst.specs.Class.{is_call}
use Rattle.rv_inst.specs.Words.{sum_64}
use Rattle.rv_inst.specs.declared.effects.Effect.{Effect}
use Rattle.block_model.specs.Calls.Answers.{CallDone, argument, call_number}
use Rattle.block_model.specs.Calls.Answers.{returned, said}
use Rattle.block_model.specs.Calls.Cloning.{child_file, clone_child_cleartid}
use Rattle.block_model.specs.Calls.Cloning.{has_flag, with_new_child}
use Rattle.block_model.specs.Calls.Ending.{clears}
use Rattle.block_model.specs.Calls.Futexes.{answered_wait}
use Rattle.block_model.specs.Calls.Futexes.{anyone, requeue, wake}
use Rattle.block_model.specs.Calls.Signals.{broken_wait}
use Rattle.block_model.specs.Events.{done_of, refusal_of}
use Rattle.block_model.specs.Events.Exec.{by_call}
use Rattle.block_model.specs.Events.Exec.{next_effect}
use Rattle.block_model.specs.Here.{Done, Here, runs}
use Rattle.block_model.specs.History.{Event, History, file, file_among, here_in_history, kernel, running}
use Rattle.block_model.specs.Kernel.{cleared, gone, had_child, left, next_number, requeued, waited, woken}
use Rattle.block_model.specs.Record.{Kernel}
use Rattle.block_model.specs.Run.{IsRunHistory}
use Rattle.block_model.specs.Sequences.{files_interrupted, interruption_here}
use Rattle.block_model.specs.Setting.{Setting}
use Rattle.block_model.specs.Tables.{on}
use Rattle.block_model.proofs.CallEffects.{Answers, Bears, Begins, Breaks, CallDeed, ChangesRows, Ends, Exits}
use Rattle.block_model.proofs.CallEffects.{Leaves, MovesOff, Resumes, Says, TableStep, Waits, Wakes}
use Rattle.block_model.proofs.CallEffects.EachCall.{deed_called}
use Rattle.block_model.proofs.EventEffects.{Calls, EventDeed, Executes, Handles, IsNext, Preempts, Restarts}
use Rattle.block_model.proofs.EventEffects.{Returns, RunKills, Runs, SignalKills, begun_by, deed_chosen}
use Rattle.block_model.proofs.Laws.{IsStep, run_ready, running_is, requeue_keeps, step_of}

-- STATES

-- a state after another one: no thread comes that wasn't there, and none begins to wait
abbrev pub is_calm : Option ThreadState → Option ThreadState → Bool
is_calm None old = true
is_calm (Some x) None = false
is_calm (Some x) (Some a) = not (is_waiting_state x) || is_waiting_state a

calm_same : (o : Option ThreadState) → is_calm o o ≡ true
calm_same None = refl
calm_same (Some Ready) = refl
calm_same (Some (Running h)) = refl
calm_same (Some (Waiting at)) = refl

calm_after : (a b c : Option ThreadState) → is_calm b a ≡ true → is_calm c b ≡ true → is_calm c a ≡ true
calm_after a b None p q = refl
calm_after a None (Some x) p q = absurd (false≢true q)
calm_after None (Some y) (Some x) p q = absurd (false≢true p)
calm_after (Some z) (Some y) (Some x) p q = by_waits (is_waiting_state x) (is_waiting_state y)
    (is_waiting_state z) p q
  where
    by_waits : (x y z : Bool) → (not y || z) ≡ true → (not x || y) ≡ true → (not x || z) ≡ true
    by_waits false y z p q = refl
    by_waits true true z p q = p
    by_waits true false z p q = absurd (false≢true q)

same_le : (n : ℕ) → n ≤ n
same_le n = omega arith

module _ (u : ℕ) where
  -- numbers are given in order, and the state of thread u is a calm one after the old
  pub record IsCalm (ts us : Threads) : Type 0 where
    pub given : ts.given ≤ us.given
    pub state : is_calm (state_of u us) (state_of u ts) ≡ true

  calm_alike : (ts us : Threads) → us ≡ ts → IsCalm ts us
  calm_alike ts us same = record {
    given = subst (λ n. ts.given ≤ n) (sym (ap (λ (x : Threads). x.given) same)) (same_le ts.given);
    state = ap (λ (x : Threads). is_calm (state_of u x) (state_of u ts)) same ∙ calm_same (state_of u ts);
  }

  calm_then : (a b c : Threads) → IsCalm a b → IsCalm b c → IsCalm a c
  calm_then a b c p q = record {
    given = let one = p.given in let two = q.given in omega arith;
    state = calm_after (state_of u a) (state_of u b) (state_of u c) p.state q.state;
  }

  -- one thread's state is another, or it is gone; the others' are as they were
  as_was : (ts us : Threads) → state_of u us ≡ state_of u ts → is_calm (state_of u us) (state_of u ts) ≡ true
  as_was ts us same = ap (λ (o : Option ThreadState). is_calm o (state_of u ts)) same
      ∙ calm_same (state_of u ts)

  changed : (st : ThreadState) → is_waiting_state st ≡ false → (o : Option ThreadState)
      → is_calm (option_map (λ old. st) o) o ≡ true
  changed st calm None = refl
  changed st calm (Some a) = ap (λ b. not b || is_waiting_state a) calm

  calm_state : (t : ℕ) (st : ThreadState) (ts : Threads) → is_waiting_state st ≡ false
      → IsCalm ts (with_state t st ts)
  calm_state t st ts calm = record { given = same_le ts.given; state = by_same (cases_eq u t) }
    where
      by_same : (u ≡ t) ⊎ (u ≢ t) → is_calm (state_of u (with_state t st ts)) (state_of u ts) ≡ true
      by_same (inl same) =
          ap (λ n. is_calm (state_of n (with_state t st ts)) (state_of n ts)) same
          ∙ ap (λ (o : Option ThreadState). is_calm o (state_of t ts)) (state_of-with_state_same t st ts)
          ∙ changed st calm (state_of t ts)
      by_same (inr other) = as_was ts (with_state t st ts) (state_of-with_state_other t u other st ts)

  calm_rows : (f : Thread → Thread) → KeepsRows f → (ts : Threads) → IsCalm ts (with_rows f ts)
  calm_rows f keeps ts = record {
    given = same_le ts.given;
    state = as_was ts (with_rows f ts) (state_of-with_rows f keeps u ts);
  }

  calm_gone : (t : ℕ) (ts : Threads) → IsCalm ts (without t ts)
  calm_gone t ts = record { given = same_le ts.given; state = by_same (cases_eq u t) }
    where
      by_same : (u ≡ t) ⊎ (u ≢ t) → is_calm (state_of u (without t ts)) (state_of u ts) ≡ true
      by_same (inl same) =
          ap (λ n. is_calm (state_of n (without t ts)) (state_of n ts)) same
          ∙ ap (λ (o : Option ThreadState). is_calm o (state_of t ts)) (state_of-without_same t ts)
      by_same (inr other) = as_was ts (without t ts) (state_of-without_other t u other ts)

  calm_woken : (t : ℕ) (ts : Threads) → IsCalm ts (with_woken t ts)
  calm_woken t ts = record { given = same_le ts.given; state = (calm_state t Ready ts refl).state }

  -- one that waits does so at another address
  abbrev moved : ℕ → ℕ → Threads → Threads
  moved v to ts = with_waiter v to (with_woken v ts)

  calm_requeued : (v to : ℕ) (ts : Threads) → waits ts v → IsCalm ts (moved v to ts)
  calm_requeued v to ts waiting = record { given = same_le ts.given; state = by_same (cases_eq u v) }
    where
      now : state_of v (moved v to ts) ≡ Some (Waiting to)
      now =
          state_of-with_state_same v (Waiting to) (with_woken v ts)
          ∙ ap (λ (o : Option ThreadState). option_map (λ old. Waiting to) o)
          (state_of-with_state_same v Ready ts ∙ ap (λ (o : Option ThreadState). option_map (λ old. Ready) o) waiting.1)

      by_same : (u ≡ v) ⊎ (u ≢ v) → is_calm (state_of u (moved v to ts)) (state_of u ts) ≡ true
      by_same (inl same) =
          ap (λ n. is_calm (state_of n (moved v to ts)) (state_of n ts)) same
          ∙ ap (λ (o : Option ThreadState). is_calm o (state_of v ts)) now
          ∙ ap (λ (o : Option ThreadState). is_calm (Some (Waiting to)) o) waiting.1
      by_same (inr other) = as_was ts (moved v to ts)
          (state_of-with_state_other v u other (Waiting to) (with_woken v ts) ∙ state_of-with_state_other v u other Ready ts)

  calm_requeue : (n more at to : ℕ) (listens : ℕ → Bool) (k : Kernel) → IsCalm k.threads (requeue n more at to listens k).kernel.threads
  calm_requeue = requeue_keeps (λ a b. IsCalm a.threads b.threads) (λ k. calm_alike k.threads k.threads refl)
      (λ v k after waiting rest. calm_then k.threads (woken v k).threads after.threads
      (calm_woken v k.threads) rest)
      (λ v to k after waiting rest. calm_then k.threads (requeued v to k).threads after.threads
      (calm_requeued v to k.threads waiting) rest)

-- CALLS

-- the pc of thread u where these files are set
abbrev pub pc_of : Here → ℕ → List (ℕ × Saved) → ℕ
pc_of here u files = (file_among files u (here.file u)).pc

-- the address behind the instruction of a thread
abbrev pub behind : Here → ℕ → ℕ
behind here t = sum_64 (here.file t).pc 4

module _ (here : Here) (t u number : ℕ) where
  -- a call of thread t leaves thread u calm, and its pc as it was, where it isn't its own; or thread u makes it
  -- and may wait by it, or is born by it, and then stands behind it
  pub data CallStep (c : CallDone) : Type 0 where
    StaysCalm : IsCalm u here.kernel.threads c.kernel.threads → (t ≢ u → pc_of here u c.files ≡ (here.file u).pc)
        → CallStep c
    BeginsWait : number ≡ 98 → u ≡ t → here.kernel.threads.given ≤ c.kernel.threads.given
        → pc_of here u c.files ≡ behind here t → CallStep c
    BearsThread : number ≡ 220 → u ≡ next_number here.kernel → c.kernel.threads.given ≡ u
        → pc_of here u c.files ≡ behind here t → CallStep c

  past_own : (x : Saved) (rest : List (ℕ × Saved)) → t ≢ u → pc_of here u ((t, x) ∷ rest) ≡ pc_of here u rest
  past_own x rest other = ap (λ b. (cond b x (file_among rest u (here.file u))).pc) (ne_eqb t u other)

  -- an answer to who waits leaves the pc
  answered_pc : (vs : List ℕ) → pc_of here u (map (answered_wait here) vs) ≡ (here.file u).pc
  answered_pc [] = refl
  answered_pc (v ∷ vs) = by_same (answered_pc vs) (eqb v u) refl
    where
      by_same : pc_of here u (map (answered_wait here) vs) ≡ (here.file u).pc → (b : Bool) → eqb v u ≡ b
          → (cond b (answered_wait here v).1 (file_among (map (answered_wait here) vs) u (here.file u))).pc
          ≡ (here.file u).pc
      by_same rest true is = ap (λ n. (here.file n).pc) (eqb-true v u is)
      by_same rest false is = rest

  -- it sets the file of its thread alone
  stepped : {c : CallDone} (x : Saved) → c.files ≡ (t, x) ∷ [] → IsCalm u here.kernel.threads c.kernel.threads
      → CallStep c
  stepped x set calm = StaysCalm calm (λ other. ap (pc_of here u) set ∙ past_own x [] other)

  plain : {c : CallDone} (x : Saved) → c.files ≡ (t, x) ∷ [] → c.kernel.threads ≡ here.kernel.threads
      → CallStep c
  plain x set same = stepped x set (calm_alike u here.kernel.threads _ same)

  -- waiting
  step_wait : (n : ℕ) (entered : List Write) (at : ℕ) → number ≡ 98
      → CallStep (record (said here t n) { entered = entered; kernel = waited t at here.kernel })
  step_wait n entered at is = by_same (cases_eq u t)
    where
      by_same : (u ≡ t) ⊎ (u ≢ t)
          → CallStep (record (said here t n) { entered = entered; kernel = waited t at here.kernel })
      by_same (inl same) = BeginsWait is same (same_le here.kernel.threads.given)
          (ap (λ b. (cond b (returned n (here.file t)) (here.file u)).pc) (eq-eqb t u (sym same)))
      by_same (inr other) = StaysCalm
          (record {
            given = same_le here.kernel.threads.given;
            state = as_was u here.kernel.threads (with_waiter t at here.kernel.threads)
                (state_of-with_state_other t u other (Waiting at) here.kernel.threads);
          })
          (λ apart. past_own _ [] apart)

  -- a step of the record
  step_said : (n : ℕ) (entered : List Write) {k : Kernel} → TableStep here t number entered k
      → CallStep (record (said here t n) { entered = entered; kernel = k })
  step_said n entered (ChangesRows f keeps) = stepped _ refl (calm_rows u f keeps here.kernel.threads)
  step_said n entered Leaves = stepped _ refl (calm_state u t Ready here.kernel.threads refl)
  step_said n entered (Waits at none is) = step_wait n entered at is
  step_said n entered (MovesOff set below some) = stepped _ refl (calm_state u t Ready here.kernel.threads refl)
  step_said n entered step = plain _ refl refl

  -- a child
  module _ (is : number ≡ 220) (entered : List Write) where
    abbrev child : ℕ
    child = next_number here.kernel

    abbrev bearing : CallDone
    bearing = record {
      files = (t, returned child (here.file t)) ∷ (child, child_file here t) ∷ [];
      entered = entered;
      kernel = with_new_child here t;
      barrier = None;
      ended = None;
    }

    born_given : (b : Bool) (at : ℕ)
        → (cond b (cleared child at (had_child t here.kernel)) (had_child t here.kernel)).threads.given
        ≡ here.kernel.threads.given + 1
    born_given true at = refl
    born_given false at = refl

    other_state : u ≢ next_number here.kernel → (b : Bool) (at : ℕ)
        → state_of u (cond b (cleared child at (had_child t here.kernel)) (had_child t here.kernel)).threads
        ≡ state_of u here.kernel.threads
    other_state other true at =
        state_of-with_rows (clear_if child at) (keeps_clear child at) u (with_child here.kernel.threads)
        ∙ state_of-with_child_other u here.kernel.threads other
    other_state other false at = state_of-with_child_other u here.kernel.threads other

    child_pc : (a b : Bool) → b ≡ true
        → (cond a (returned child (here.file t)) (cond b (child_file here t) (here.file u))).pc
        ≡ behind here t
    child_pc true b its = refl
    child_pc false true its = refl
    child_pc false false its = absurd (false≢true its)

    step_born : CallStep bearing
    step_born = by_same (cases_eq u (next_number here.kernel))
      where
        one_le : (n : ℕ) → n ≤ n + 1
        one_le n = omega arith

        by_same : (u ≡ next_number here.kernel) ⊎ (u ≢ next_number here.kernel) → CallStep bearing
        by_same (inl same) = BearsThread is same
            (born_given (has_flag (argument here t 0) clone_child_cleartid) (argument here t 4) ∙ sym same)
            (child_pc (eqb t u) (eqb child u) (eq-eqb child u (sym same)))
        by_same (inr other) = StaysCalm
            (record {
              given = subst (λ n. here.kernel.threads.given ≤ n)
                  (sym (born_given (has_flag (argument here t 0) clone_child_cleartid) (argument here t 4)))
                  (one_le here.kernel.threads.given);
              state = as_was u here.kernel.threads (with_new_child here t).threads
                  (other_state other (has_flag (argument here t 0) clone_child_cleartid) (argument here t 4));
            })
            (λ apart. past_own _ ((child, child_file here t) ∷ []) apart
            ∙ ap (λ b. (cond b (child_file here t) (here.file u)).pc)
            (ne_eqb child u (λ its. other (sym its))))

  -- the wait of a thread that a signal breaks leaves its pc
  broken_pc : (v : ℕ) (b : Bool) → eqb v u ≡ b
      → (cond b (broken_wait here v).1 (here.file u)).pc ≡ (here.file u).pc
  broken_pc v true is = ap (λ n. (here.file n).pc) (eqb-true v u is)
  broken_pc v false is = refl

  -- each call, by its deed
  step_call : {c : CallDone} → CallDeed here t number c → CallStep c
  step_call (Says n) = plain _ refl refl
  step_call (Answers n entered k answer writes step) = step_said n entered step
  step_call (Wakes n more at to listens small) = StaysCalm (calm_requeue u n more at to listens here.kernel)
      (λ other. past_own _ (map (answered_wait here) (requeue n more at to listens here.kernel).threads) other
      ∙ answered_pc (requeue n more at to listens here.kernel).threads)
  step_call (Breaks v g waiting keeps stand heeded others) = StaysCalm (calm_woken u v here.kernel.threads)
      (λ other. past_own _ (broken_wait here v ∷ []) other ∙ broken_pc v (eqb v u) refl)
  step_call (Exits more) =
      let n : ℕ = cond (clears here t) 1 0 in
      let at = clear_of t here.kernel.threads in
      let then = (wake n at anyone here.kernel).kernel in
      StaysCalm (calm_then u here.kernel.threads then.threads (without t then.threads)
      (calm_requeue u n 0 at 0 anyone here.kernel) (calm_gone u t then.threads))
      (λ other. answered_pc (wake n at anyone here.kernel).threads)
  step_call (Bears entered writes free is) = step_born is entered
  step_call (Begins targets restart others no_error is) = plain _ refl refl
  step_call (Resumes words frame is) = plain _ refl refl
  step_call (Ends entered e writes over) = StaysCalm (calm_alike u here.kernel.threads _ refl) (λ other. refl)

-- EVENTS

-- thread t makes the call of this number by an event of its hart
pub record IsCaller (here : Here) (t n : ℕ) (c : Choice) : Type 0 where
  pub executes : c ≡ asked.Exec
  pub at : runs here ≡ Some t
  pub effect : Effect
  pub is : next_effect here t ≡ Some effect
  pub calls : is_call effect ≡ true
  pub number : register (here.file t).file 17 ≡ n

-- the thread that a choice lets run
abbrev pub begins : Choice → Option ℕ
begins c = option_map (λ (t : Tid). t.0) (named_by c)

module _ (here : Here) (u : ℕ) where
  -- the same of an event
  pub data ThreadStep (c : Choice) (d : Done) : Type 0 where
    IsLeft : IsCalm u here.kernel.threads d.kernel.threads
        → (runs here ≢ Some u → begins c ≢ Some u → pc_of here u d.files ≡ (here.file u).pc) → ThreadStep c d
    BeginsToWait : (t : ℕ) → IsCaller here t 98 c → u ≡ t
        → here.kernel.threads.given ≤ d.kernel.threads.given → pc_of here u d.files ≡ behind here t
        → ThreadStep c d
    IsBorn : (t : ℕ) → IsCaller here t 220 c → u ≡ next_number here.kernel → d.kernel.threads.given ≡ u
        → pc_of here u d.files ≡ behind here t → ThreadStep c d

  calm : IsCalm u here.kernel.threads here.kernel.threads
  calm = calm_alike u here.kernel.threads here.kernel.threads refl

  rests : {c : Choice} {d : Done} → d.files ≡ [] → d.kernel.threads ≡ here.kernel.threads → ThreadStep c d
  rests none same = IsLeft (calm_alike u here.kernel.threads _ same)
      (λ apart other. ap (pc_of here u) none)

  -- one that sets the file of the thread on the hart
  sets : {c : Choice} {d : Done} (t : ℕ) (x : Saved) → runs here ≡ Some t → d.files ≡ (t, x) ∷ []
      → IsCalm u here.kernel.threads d.kernel.threads → ThreadStep c d
  sets t x at set is = IsLeft is (λ apart other. ap (pc_of here u) set
      ∙ ap (λ b. (cond b x (here.file u)).pc) (ne_eqb t u (λ same. apart (at ∙ ap Some same))))

  interrupted_pc : (t : ℕ) (o : Outcome) → t ≢ u
      → pc_of here u (files_interrupted here t o) ≡ (here.file u).pc
  interrupted_pc t comes_to.Nothing other = refl
  interrupted_pc t comes_to.Cleared other = refl
  interrupted_pc t (comes_to.Aborted at) other = ap
      (λ b. (cond b (record (here.file t) { pc = at }) (here.file u)).pc) (ne_eqb t u other)
  interrupted_pc t (comes_to.Killed why) other = refl

  -- one that interrupts the thread on the hart
  interrupts : {c : Choice} {d : Done} (t : ℕ) (o : Outcome) → runs here ≡ Some t
      → d.files ≡ files_interrupted here t o → d.kernel.threads ≡ here.kernel.threads → ThreadStep c d
  interrupts t o at set same = IsLeft (calm_alike u here.kernel.threads _ same)
      (λ apart other. ap (pc_of here u) set ∙ interrupted_pc t o (λ its. apart (at ∙ ap Some its)))

  -- the choice of an instruction, and of a thread that begins to run
  executes_is : (c : Choice) → kind.Exec ≡ kind_of c → c ≡ asked.Exec
  executes_is asked.Exec is = refl
  executes_is c is = absurd cc

  begins_is : (c : Choice) → kind.Run ≡ kind_of c → begins c ≡ Some (begun_by c)
  begins_is (asked.Run t) is = refl
  begins_is c is = absurd cc

  -- a call
  by_call_step : {d : CallDone} (c : Choice) (t : ℕ) (e : Effect) → kind.Exec ≡ kind_of c → IsNext here t e
      → is_call e ≡ true → CallStep here t u (call_number here t) d → ThreadStep c (by_call here d)
  by_call_step c t e is next calls (StaysCalm left pc) =
      IsLeft left (λ apart other. pc (λ same. apart (next.at ∙ ap Some same)))
  by_call_step c t e is next calls (BeginsWait number same given pc) = BeginsToWait t
      (record { executes = executes_is c is; at = next.at; effect = e; is = next.is; calls = calls; number = number })
      same given pc
  by_call_step c t e is next calls (BearsThread number same given pc) = IsBorn t
      (record { executes = executes_is c is; at = next.at; effect = e; is = next.is; calls = calls; number = number })
      same given pc

  -- each event, by its deed
  step_deed : (c : Choice) {k : Kind} {d : Done} → EventDeed here (begun_by c) k d → k ≡ kind_of c → ThreadStep c d
  step_deed c (Calls t e next calls outside) is =
      by_call_step c t e is next calls (step_call here t u (call_number here t) (deed_called here t))
  step_deed c (Executes t e next) is = sets t _ next.at refl calm
  step_deed c (Restarts t at) is = interrupts t (interruption_here here t) at refl refl
  step_deed c (Returns t at) is = sets t _ at refl calm
  step_deed c (Preempts k t leaves at) is =
      IsLeft (calm_state u t Ready here.kernel.threads refl) (λ apart other. refl)
  step_deed c Runs is = IsLeft (calm_state u (begun_by c) (on here.hart) here.kernel.threads refl)
      (λ apart other. interrupted_pc (begun_by c) (interruption_here here (begun_by c))
      (λ same. other (begins_is c is ∙ ap Some same)))
  step_deed c RunKills is = IsLeft calm
      (λ apart other. interrupted_pc (begun_by c) (interruption_here here (begun_by c))
      (λ same. other (begins_is c is ∙ ap Some same)))
  step_deed c (Handles t signal at) is = sets t _ at refl calm
  step_deed c (SignalKills t signal killer at) is = interrupts t (interruption_here here t) at refl refl
  step_deed c deed is = rests refl refl

  step_choice : (c : Choice) → ThreadStep c (done_of c here)
  step_choice c = step_deed c (deed_chosen here c) refl

-- WHO LIVES

its_state : (o : Option Thread) → is_some (option_map (λ th. th.state) o) ≡ is_some o
its_state None = refl
its_state (Some th) = refl

has_state : (t : ℕ) (ts : Threads) → is_some (state_of t ts) ≡ is_live t ts
has_state t ts = its_state (thread_of t ts)

-- one without a state doesn't live
pub gone_is : (t : ℕ) (ts : Threads) → state_of t ts ≡ None → is_live t ts ≡ false
gone_is t ts none = sym (has_state t ts) ∙ ap (λ (o : Option ThreadState). is_some o) none

ready_lives : (u : ℕ) (ts : Threads) → is_ready u ts ≡ true → is_live u ts ≡ true
ready_lives u ts ready = sym (has_state u ts) ∙ by_state (state_of u ts) ready
  where
    by_state : (o : Option ThreadState) → option_map_or is_ready_state o false ≡ true → is_some o ≡ true
    by_state None is = absurd (false≢true is)
    by_state (Some x) is = refl

same_thread : {a b : ℕ} → Some a ≡ Some b → a ≡ b
same_thread is = cc

-- whether a thread waits; one that does isn't ready
abbrev pub is_kept_waiting : ℕ → Threads → Bool
is_kept_waiting t ts = option_map_or is_waiting_state (state_of t ts) false

ready_rests : (u : ℕ) (ts : Threads) → is_ready u ts ≡ true → is_kept_waiting u ts ≡ true → ⊥
ready_rests u ts ready waits = by_state (state_of u ts) ready waits
  where
    by_state : (o : Option ThreadState) → option_map_or is_ready_state o false ≡ true
        → option_map_or is_waiting_state o false ≡ true → ⊥
    by_state None one two = false≢true one
    by_state (Some Ready) one two = false≢true two
    by_state (Some (Running h)) one two = false≢true one
    by_state (Some (Waiting at)) one two = false≢true one

waited_on : (new old : Option ThreadState) → is_calm new old ≡ true
    → option_map_or is_waiting_state new false ≡ true → option_map_or is_waiting_state old false ≡ true
waited_on None old calm_it waits = absurd (false≢true waits)
waited_on (Some x) None calm_it waits = absurd (false≢true calm_it)
waited_on (Some x) (Some a) calm_it waits = sym (ap (λ b. not b || is_waiting_state a) waits) ∙ calm_it

came : (new old : Option ThreadState) → is_calm new old ≡ true → is_some new ≡ true → is_some old ≡ true
came None old calm_it live = absurd (false≢true live)
came (Some x) None calm_it live = absurd (false≢true calm_it)
came (Some x) (Some a) calm_it live = refl

-- the number of a live thread was given
found_in : (P : ℕ → Type 0) (t : ℕ) (live : List Thread) → All P (numbers live)
    → is_some (find (is_thread t) live) ≡ true → P t
found_in P t [] all is = absurd (false≢true is)
found_in P t (th ∷ live) all is =
    by_same (found_in P t live (All-tail P th.tid (numbers live) all)) (eqb th.tid t) refl is
  where
    by_same : (is_some (find (is_thread t) live) ≡ true → P t) → (b : Bool) → eqb th.tid t ≡ b
        → is_some (cond b (Some th) (find (is_thread t) live)) ≡ true → P t
    by_same rest true same found = subst P (eqb-true th.tid t same) (All-head P th.tid (numbers live) all)
    by_same rest false other found = rest found

module _ (s : Setting) (e : Event) (before : History) (step : IsStep s e before) where
  abbrev place : Here
  place = here_in_history s before e.entry.hart.0

  pub thread_step : (u : ℕ) → ThreadStep place u (choice_of e.entry) e.done
  thread_step u = subst (ThreadStep place u (choice_of e.entry)) (sym step.did)
      (step_choice place u (choice_of e.entry))

  pub was_given : (t : ℕ) → is_live t (kernel s before).threads ≡ true → t ≤ (kernel s before).threads.given
  was_given t live = (found_in (λ n. (0 < n) × (n ≤ (kernel s before).threads.given)) t
      (kernel s before).threads.live step.good.kernel.tables.threads.given live).1

  -- a thread that runs lives
  pub runner_lives : (h t : ℕ) → running s h before ≡ Some t → is_live t (kernel s before).threads ≡ true
  runner_lives h t at = sym (has_state t (kernel s before).threads)
      ∙ ap (λ (o : Option ThreadState). is_some o)
      (running_is s.limits.harts h t (kernel s before).threads (kernel s before).scheduling
      step.good.kernel.tables at)

  pub given_grows : (kernel s before).threads.given ≤ (kernel s (e ∷ before)).threads.given
  given_grows = by_step_of (thread_step 0)
    where
      by_step_of : ThreadStep place 0 (choice_of e.entry) e.done
          → (kernel s before).threads.given ≤ (kernel s (e ∷ before)).threads.given
      by_step_of (IsLeft left pc) = left.given
      by_step_of (BeginsToWait t calls same given pc) = given
      by_step_of (IsBorn t calls same given pc) = let now = given in let next = same in absurd (omega arith)

  -- a thread that lives and whose number was given before lived before
  pub lived_before : (t : ℕ) → t ≤ (kernel s before).threads.given
      → is_live t (kernel s (e ∷ before)).threads ≡ true → is_live t (kernel s before).threads ≡ true
  lived_before u low live = by_step_of (thread_step u)
    where
      by_step_of : ThreadStep place u (choice_of e.entry) e.done → is_live u (kernel s before).threads ≡ true
      by_step_of (IsLeft left pc) = sym (has_state u (kernel s before).threads)
          ∙ came (state_of u e.done.kernel.threads) (state_of u (kernel s before).threads) left.state
          (has_state u e.done.kernel.threads ∙ live)
      by_step_of (BeginsToWait t calls same given pc) = runner_lives e.entry.hart.0 u
          (calls.at ∙ ap Some (sym same))
      by_step_of (IsBorn t calls same given pc) = absurd (omega arith)

  -- one whose number isn't given yet keeps its pc
  pub unborn_keeps : (t : ℕ) → (kernel s (e ∷ before)).threads.given < t
      → (file s t (e ∷ before)).pc ≡ (file s t before).pc
  unborn_keeps u high = by_step_of (thread_step u)
    where
      grown : (kernel s before).threads.given ≤ (kernel s (e ∷ before)).threads.given
      grown = given_grows

      not_live : is_live u (kernel s before).threads ≢ true
      not_live live = let low = was_given u live in let more = grown in omega arith

      not_begun : (c : Choice) → choice_of e.entry ≡ c → begins c ≢ Some u
      not_begun (asked.Run t) is same =
          let free = sym (ap (λ c. refusal_of c place) is) ∙ step.free in
          not_live (ready_lives u (kernel s before).threads
          (ap (λ n. is_ready n (kernel s before).threads) (sym (same_thread same))
          ∙ (run_ready place t.0 free).1))
      not_begun other is same = cc

      by_step_of : ThreadStep place u (choice_of e.entry) e.done
          → (file s u (e ∷ before)).pc ≡ (file s u before).pc
      by_step_of (IsLeft left pc) = pc (λ at. not_live (runner_lives e.entry.hart.0 u at))
          (not_begun (choice_of e.entry) refl)
      by_step_of (BeginsToWait t calls same given pc) = absurd
          (not_live (runner_lives e.entry.hart.0 u (calls.at ∙ ap Some (sym same))))
      by_step_of (IsBorn t calls same given pc) = absurd (omega arith)

  -- WHO WAITS

  waiter_lives : (t : ℕ) → is_kept_waiting t (kernel s before).threads ≡ true
      → is_live t (kernel s before).threads ≡ true
  waiter_lives t waits = sym (has_state t (kernel s before).threads)
      ∙ by_state (state_of t (kernel s before).threads) waits
    where
      by_state : (o : Option ThreadState) → option_map_or is_waiting_state o false ≡ true → is_some o ≡ true
      by_state None is = absurd (false≢true is)
      by_state (Some x) is = refl

  waiter_rests : (h t : ℕ) → is_kept_waiting t (kernel s before).threads ≡ true → running s h before ≢ Some t
  waiter_rests h t waits at =
      false≢true
      (sym (ap (λ (o : Option ThreadState). option_map_or is_waiting_state o false)
      (running_is s.limits.harts h t (kernel s before).threads (kernel s before).scheduling
      step.good.kernel.tables at))
      ∙ waits)

  waiter_not_begun : (t : ℕ) → is_kept_waiting t (kernel s before).threads ≡ true
      → (c : Choice) → choice_of e.entry ≡ c → begins c ≢ Some t
  waiter_not_begun t waits (asked.Run v) is same =
      let free = sym (ap (λ c. refusal_of c place) is) ∙ step.free in
      ready_rests t (kernel s before).threads
      (ap (λ n. is_ready n (kernel s before).threads) (sym (same_thread same)) ∙ (run_ready place v.0 free).1)
      waits
  waiter_not_begun t waits other is same = cc

  -- a thread that waits keeps its pc, also where it is woken
  pub waiter_keeps : (t : ℕ) → is_kept_waiting t (kernel s before).threads ≡ true
      → (file s t (e ∷ before)).pc ≡ (file s t before).pc
  waiter_keeps u waits = by_step_of (thread_step u)
    where
      by_step_of : ThreadStep place u (choice_of e.entry) e.done
          → (file s u (e ∷ before)).pc ≡ (file s u before).pc
      by_step_of (IsLeft left pc) = pc (waiter_rests e.entry.hart.0 u waits)
          (waiter_not_begun u waits (choice_of e.entry) refl)
      by_step_of (BeginsToWait t calls same given pc) = absurd
          (waiter_rests e.entry.hart.0 u waits (calls.at ∙ ap Some (sym same)))
      by_step_of (IsBorn t calls same given pc) =
          let low = was_given u (waiter_lives u waits) in let next = same in absurd (omega arith)

  -- a thread comes to stand behind a call of some thread that isn't membarrier's
  pub record ComesByCall (u : ℕ) : Type 0 where
    pub thread : ℕ
    pub number : ℕ
    pub caller : IsCaller place thread number (choice_of e.entry)
    pub other : number ≢ 283
    pub pc : (file s u (e ∷ before)).pc ≡ behind place thread

  -- one that waits waited, or made the call for it
  pub waiter_came : (t : ℕ) → is_kept_waiting t (kernel s (e ∷ before)).threads ≡ true
      → (is_kept_waiting t (kernel s before).threads ≡ true) ⊎ ComesByCall t
  waiter_came u waits = by_step_of (thread_step u)
    where
      by_step_of : ThreadStep place u (choice_of e.entry) e.done
          → (is_kept_waiting u (kernel s before).threads ≡ true) ⊎ ComesByCall u
      by_step_of (IsLeft left pc) = inl
          (waited_on (state_of u e.done.kernel.threads) (state_of u (kernel s before).threads) left.state
          waits)
      by_step_of (BeginsToWait t calls same given pc) = inr
          (record { thread = t; number = 98; caller = calls; other = omega arith; pc = pc })
      by_step_of (IsBorn t calls same given pc) = inr
          (record { thread = t; number = 220; caller = calls; other = omega arith; pc = pc })

  -- and one that lives and didn't is a child
  pub child_came : (t : ℕ) → is_live t (kernel s before).threads ≡ false
      → is_live t (kernel s (e ∷ before)).threads ≡ true → ComesByCall t
  child_came u gone live = by_step_of (thread_step u)
    where
      by_step_of : ThreadStep place u (choice_of e.entry) e.done → ComesByCall u
      by_step_of (IsLeft left pc) = absurd
          (false≢true
          (sym gone ∙ sym (has_state u (kernel s before).threads)
          ∙ came (state_of u e.done.kernel.threads) (state_of u (kernel s before).threads) left.state
          (has_state u e.done.kernel.threads ∙ live)))
      by_step_of (BeginsToWait t calls same given pc) = record
          { thread = t; number = 98; caller = calls; other = omega arith; pc = pc }
      by_step_of (IsBorn t calls same given pc) = record
          { thread = t; number = 220; caller = calls; other = omega arith; pc = pc }

-- RUNS

pub given_since : (s : Setting) (since : List Event) (old : History) → IsRunHistory s (since ++ old)
    → (kernel s old).threads.given ≤ (kernel s (since ++ old)).threads.given
given_since s [] old run = same_le (kernel s old).threads.given
given_since s (e ∷ since) old run =
    let was = given_since s since old run.0 in
    let more = given_grows s e (since ++ old) (step_of s e (since ++ old) run) in
    omega arith

pub given_at : (s : Setting) (t : ℕ) (e : Event) (since : List Event) (old : History)
    → IsRunHistory s (e ∷ since ++ old) → is_live t (kernel s old).threads ≡ true
    → t ≤ (kernel s old).threads.given
given_at s t e [] old run live = was_given s e old (step_of s e old run) t live
given_at s t e (x ∷ since) old run live = given_at s t x since old run.0 live

-- a thread that lives lived at each place where its number was given
pub lived_since : (s : Setting) (t : ℕ) (since : List Event) (old : History) → IsRunHistory s (since ++ old)
    → t ≤ (kernel s old).threads.given → is_live t (kernel s (since ++ old)).threads ≡ true
    → is_live t (kernel s old).threads ≡ true
lived_since s t [] old run low live = live
lived_since s t (e ∷ since) old run low live =
    let more = given_since s since old run.0 in
    lived_since s t since old run.0 low
    (lived_before s e (since ++ old) (step_of s e (since ++ old) run) t (omega arith) live)

-- before that its pc is the program's entry
pub unborn_pc : (s : Setting) (t : ℕ) (now : History) → IsRunHistory s now → (kernel s now).threads.given < t
    → (file s t now).pc ≡ s.program.entry
unborn_pc s t [] run high = refl
unborn_pc s t (e ∷ before) run high =
    let step = step_of s e before run in
    let more = given_grows s e before step in
    unborn_keeps s e before step t high ∙ unborn_pc s t before run.0 (omega arith)

-- so a thread that lives lived at an earlier place where its pc was another
pub lived_at : (s : Setting) (t : ℕ) (since : List Event) (old : History) → IsRunHistory s (since ++ old)
    → is_live t (kernel s (since ++ old)).threads ≡ true → s.program.entry ≢ (file s t old).pc
    → is_live t (kernel s old).threads ≡ true
lived_at s t since old run live other = by_given (cases_lt (kernel s old).threads.given t)
  where
    run_of : (more : List Event) → IsRunHistory s (more ++ old) → IsRunHistory s old
    run_of [] its = its
    run_of (e ∷ more) its = run_of more its.0

    by_given : ((kernel s old).threads.given < t) ⊎ (t ≤ (kernel s old).threads.given)
        → is_live t (kernel s old).threads ≡ true
    by_given (inl high) = absurd (other (sym (unborn_pc s t old (run_of since run) high)))
    by_given (inr low) = lived_since s t since old run low live
