-- What a call leaves as it is of other threads: who is ready stays so with its file, and each other thread keeps its area. Each call of
-- the table does.
use Rattle.block_model.proofs.Common.{◌≡◌, ◌≢◌, ℕ, ◌+◌, List, [], refl, sym, ap, ◌∙◌, inl, inr, Bool, true, false, cond, Option, Some, None, ◌∷◌, length, map, Area, CallDone, Here, IsGoodHere, IsThreads, KeepsRows, Kernel, Ready, Saved, Thread, ThreadState, Threads, Waiting, Write, answered_wait, area_of, argument, broken_wait, called, child_file, clear_if, clear_of, cleared, clears, clone_child_cleartid, eqb_tells, false≢true, file_among, gone, had_child, has_flag, is_ready, keeps_clear, left, ne_eqb, next_is_new, next_number, option_map, registered, requeue, requeued, restricted, returned, rows_changed, runs, said, signalled, state_of, state_of-with_child_other, state_of-with_child_same, state_of-with_rows, state_of-with_state_other, state_of-with_state_same, state_of-without_other, sum_64, unregistered, waited, waits, wake, with_child, with_new_child, with_state, woken, anyone}
use Rattle.mach_types.proofs.Laws.{area_of-with_area_other, area_of-without_area_other}
use Rattle.block_model.proofs.Invariants.Calls.Futexes.{answered, requeue_by, requeue_keeps}
use Rattle.block_model.proofs.Invariants.Events.{ready_apart}
use Rattle.block_model.proofs.KernelTables.{its_ready}
use Rattle.mach_types.specs.Kernel.SignalFrames as frame
use Rattle.mach_types.specs.Kernel.Threads.{with_waiter, with_woken}
use Rattle.block_model.proofs.CallEffects.{Answers, Bears, Begins, Breaks, CallDeed, ChangesRows, Ends, Exits, Leaves, MovesOff, Registers, Resumes, Says, TableStep, Unregisters, Waits, Wakes}
use Rattle.block_model.proofs.CallEffects.EachCall.{deed_called}

-- WHO IS READY

changed_ready : (o : Option ThreadState) → its_ready o ≡ true → its_ready (option_map (λ old. Ready) o) ≡ true
changed_ready None is = absurd (false≢true is)
changed_ready (Some old) is = refl

-- while a thread becomes ready
ready_beside : (t u : ℕ) (ts : Threads) → is_ready u ts ≡ true → is_ready u (with_state t Ready ts) ≡ true
ready_beside t u ts is = elim (eqb_tells u t) [
  | inl p ↦
      ap (λ n. is_ready n (with_state t Ready ts)) p.1 ∙ ap its_ready (state_of-with_state_same t Ready ts)
      ∙ changed_ready (state_of t ts) (sym (ap (λ n. is_ready n ts) p.1) ∙ is)
  | inr q ↦ ap its_ready (state_of-with_state_other t u q.1 Ready ts) ∙ is
]

-- beside a child, which is ready too
ready_beside_child : (u : ℕ) (ts : Threads) → IsThreads ts → is_ready u ts ≡ true → is_ready u (with_child ts) ≡ true
ready_beside_child u ts threads is = elim (eqb_tells u (ts.given + 1)) [
  | inl p ↦ ap (λ n. is_ready n (with_child ts)) p.1 ∙ ap its_ready (state_of-with_child_same ts threads)
  | inr q ↦ ap its_ready (state_of-with_child_other u ts q.1) ∙ is
]

-- a ready thread isn't the next, nor one that waits
pub ready_not_next : (u : ℕ) (ts : Threads) → IsThreads ts → is_ready u ts ≡ true → ts.given + 1 ≢ u
ready_not_next u ts threads is same =
    let none = ap (λ (o : Option Thread). option_map (λ (th : Thread). th.state) o) (next_is_new ts threads) in
    false≢true (sym (ap its_ready none) ∙ ap (λ n. is_ready n ts) same ∙ is)

pub ready_not_waiting : (u v : ℕ) (ts : Threads) → is_ready u ts ≡ true → waits ts v → v ≢ u
ready_not_waiting u v ts is waiting same =
    false≢true (sym (ap its_ready waiting.1) ∙ ap (λ n. is_ready n ts) same ∙ is)

-- STEPS OF THE RECORD

-- what a step leaves as it is of threads beside t
pub record IsBeside (t : ℕ) (before after : Kernel) : Type 0 where
  pub ready : (u : ℕ) → t ≢ u → is_ready u before.threads ≡ true → is_ready u after.threads ≡ true
  pub areas : (u : ℕ) → t ≢ u → area_of u after.areas ≡ area_of u before.areas

-- as where neither threads nor areas change
alike : (t : ℕ) (before after : Kernel) → after.threads ≡ before.threads → after.areas ≡ before.areas → IsBeside t before after
alike t before after threads areas = record { ready = λ u ne is. rw threads is; areas = λ u ne. rw areas refl }

beside_same : (t : ℕ) (k : Kernel) → IsBeside t k k
beside_same t k = alike t k k refl refl

pub beside_after : (t : ℕ) (a b c : Kernel) → IsBeside t a b → IsBeside t b c → IsBeside t a c
beside_after t a b c p q = record {
  ready = λ u ne is. q.ready u ne (p.ready u ne is);
  areas = λ u ne. q.areas u ne ∙ p.areas u ne;
}

pub beside_left : (t v : ℕ) (k : Kernel) → IsBeside t k (left v k)
beside_left t v k = record { ready = λ u ne is. ready_beside v u k.threads is; areas = λ u ne. refl }

pub beside_woken : (t v : ℕ) (k : Kernel) → IsBeside t k (woken v k)
beside_woken t v k = record { ready = λ u ne is. ready_beside v u k.threads is; areas = λ u ne. refl }

pub beside_waited : (t p : ℕ) (k : Kernel) → IsBeside t k (waited t p k)
beside_waited t p k = record {
  ready = λ u ne is. ap its_ready (state_of-with_state_other t u (λ e. ne (sym e)) (Waiting p) k.threads) ∙ is;
  areas = λ u ne. refl;
}

pub beside_gone : (t : ℕ) (k : Kernel) → IsBeside t k (gone t k)
beside_gone t k = record {
  ready = λ u ne is. ap its_ready (state_of-without_other t u (λ e. ne (sym e)) k.threads) ∙ is;
  areas = λ u ne. area_of-without_area_other t u k.areas (λ e. ne (sym e));
}

pub beside_rows : (t : ℕ) (f : Thread → Thread) → KeepsRows f → (k : Kernel) → IsBeside t k (rows_changed f k)
beside_rows t f keeps k = record { ready = λ u ne is. ap its_ready (state_of-with_rows f keeps u k.threads) ∙ is; areas = λ u ne. refl }

pub beside_child : (t : ℕ) (k : Kernel) → IsThreads k.threads → IsBeside t k (had_child t k)
beside_child t k threads = record { ready = λ u ne is. ready_beside_child u k.threads threads is; areas = λ u ne. refl }

pub beside_registered : (t : ℕ) (area : Area) (k : Kernel) → IsBeside t k (registered t area k)
beside_registered t area k = record { ready = λ u ne is. is; areas = λ u ne. area_of-with_area_other t u area k.areas (λ e. ne (sym e)) }

pub beside_unregistered : (t : ℕ) (k : Kernel) → IsBeside t k (unregistered t k)
beside_unregistered t k = record { ready = λ u ne is. is; areas = λ u ne. area_of-without_area_other t u k.areas (λ e. ne (sym e)) }

pub beside_if : (t : ℕ) (k x y : Kernel) (b : Bool) → IsBeside t k x → IsBeside t k y → IsBeside t k (cond b x y)
beside_if t k x y true p q = p
beside_if t k x y false p q = q

-- who is ready isn't one that waits, so a thread that waits at another address from now on isn't it
ready_beside_requeued : (v u to : ℕ) (ts : Threads) → is_ready u ts ≡ true → waits ts v → is_ready u (with_waiter v to (with_woken v ts)) ≡ true
ready_beside_requeued v u to ts is waiting =
    let other : u ≢ v = λ same. ready_not_waiting u v ts is waiting (sym same) in
    ap its_ready (state_of-with_state_other v u other (Waiting to) (with_woken v ts) ∙ state_of-with_state_other v u other Ready ts) ∙ is

beside_requeued : (t v to : ℕ) (k : Kernel) → waits k.threads v → IsBeside t k (requeued v to k)
beside_requeued t v to k waiting =
    record { ready = λ u ne is. ready_beside_requeued v u to k.threads is waiting; areas = λ u ne. refl }

pub beside_requeue : (t n more at to : ℕ) (listens : ℕ → Bool) (k : Kernel) → IsBeside t k (requeue n more at to listens k).kernel
beside_requeue t =
    requeue_keeps (IsBeside t) (beside_same t) (λ u k after waiting rest. beside_after t k (woken u k) after (beside_woken t u k) rest)
    (λ u to k after waiting rest. beside_after t k (requeued u to k) after (beside_requeued t u to k waiting) rest)

-- the files that it sets aren't those of ready threads
pub answered_beside : (here : Here) (n more at to : ℕ) (listens : ℕ → Bool) (u : ℕ) (f : Saved) (k : Kernel) → is_ready u k.threads ≡ true
    → answered here (requeue n more at to listens k) u f ≡ f
answered_beside here n more at to listens u f k =
    requeue_by (λ k done. is_ready u k.threads ≡ true → answered here done u f ≡ f) (λ k ready. refl)
    (λ v k rest waiting is ready.
    rw (ne_eqb v u (ready_not_waiting u v k.threads ready waiting)) (is (ready_beside v u k.threads ready)))
    (λ v to k rest waiting is ready.
    rw (ne_eqb v u (ready_not_waiting u v k.threads ready waiting)) (is (ready_beside_requeued v u to k.threads ready waiting)))
    n more at to listens k

-- CALLS

-- a call of thread t sets no file of a ready thread, and leaves who is ready and the areas of others as they are
pub record IsAside (here : Here) (t : ℕ) (c : CallDone) : Type 0 where
  pub files : (u : ℕ) (f : Saved) → is_ready u here.kernel.threads ≡ true → file_among c.files u f ≡ f
  pub beside : IsBeside t here.kernel c.kernel

module _ (here : Here) (t : ℕ) (good : IsGoodHere here) (at : runs here ≡ Some t) where
  pub caller_apart : (u : ℕ) → is_ready u here.kernel.threads ≡ true → t ≢ u
  caller_apart u ready same =
      ready_apart here.setting.limits.harts u here.hart t here.kernel.threads here.kernel.scheduling good.kernel.tables ready at (sym same)

  -- a call that answers, perhaps writes, and leaves this record
  pub aside_own : (n : ℕ) (entered : List Write) (k : Kernel) → IsBeside t here.kernel k
      → IsAside here t (record (said here t n) { entered = entered; kernel = k })
  aside_own n entered k beside = record {
    files = λ u f ready. ap (λ b. cond b (returned n (here.file t)) f) (ne_eqb t u (caller_apart u ready));
    beside = beside;
  }

  pub aside_wrote : (n : ℕ) (entered : List Write) → IsAside here t (record (said here t n) { entered = entered })
  aside_wrote n entered = aside_own n entered here.kernel (beside_same t here.kernel)

  -- one that sets no file and leaves the record
  pub aside_none : (c : CallDone) → c.files ≡ [] → c.kernel ≡ here.kernel → IsAside here t c
  aside_none c none same = record {
    files = λ u f ready. ap (λ (ps : List (ℕ × Saved)). file_among ps u f) none;
    beside = rw same (beside_same t here.kernel);
  }

module _ (here : Here) (t number : ℕ) where
  beside_step : {entered : List Write} {k : Kernel} → TableStep here t number entered k → IsBeside t here.kernel k
  beside_step (ChangesRows f keeps) = beside_rows t f keeps here.kernel
  beside_step Leaves = beside_left t t here.kernel
  beside_step (Waits at none its_number) = beside_waited t at here.kernel
  beside_step (MovesOff set below some) =
      let k = restricted t set here.kernel in
      beside_after t here.kernel k (left t k) (alike t here.kernel k refl refl) (beside_left t t k)
  beside_step (Registers area alone none writes) = beside_registered t area here.kernel
  beside_step Unregisters = beside_unregistered t here.kernel
  beside_step step = alike t here.kernel _ refl refl

module _ (here : Here) (t : ℕ) (good : IsGoodHere here) (at : runs here ≡ Some t) where
  -- the caller's file first
  past_own : (x : Saved) (rest : List (ℕ × Saved)) (u : ℕ) (f : Saved) → is_ready u here.kernel.threads ≡ true
      → file_among ((t, x) ∷ rest) u f ≡ file_among rest u f
  past_own x rest u f ready = ap (λ b. cond b x (file_among rest u f)) (ne_eqb t u (caller_apart here t good at u ready))

  aside_child : IsBeside t here.kernel (with_new_child here t)
  aside_child =
      let k = had_child t here.kernel in
      let ctid = argument here t 4 in
      let child = next_number here.kernel in
      let born = beside_child t here.kernel good.kernel.tables.threads in
      beside_if t here.kernel (cleared child ctid k) k (has_flag (argument here t 0) clone_child_cleartid)
      (beside_after t here.kernel k (cleared child ctid k) born (beside_rows t (clear_if child ctid) (keeps_clear child ctid) k)) born

  aside_deed : (number : ℕ) {c : CallDone} → CallDeed here t number c → IsAside here t c
  aside_deed number (Says n) = aside_wrote here t good at n []
  aside_deed number (Answers n entered k no_error writes step) = aside_own here t good at n entered k (beside_step here t number step)
  aside_deed number (Wakes n more p to listens small) =
      let done = requeue n more p to listens here.kernel in
      record {
        files = λ u f ready.
            past_own (returned (length done.threads) (here.file t)) (map (answered_wait here) done.threads) u f ready ∙ answered_beside here n more p to listens u f here.kernel ready;
        beside = beside_requeue t n more p to listens here.kernel;
      }
  aside_deed number (Breaks u g waiting keeps stand heeds calm) =
      let broken = broken_wait here u in
      let k = signalled g here.kernel in
      record {
        files = λ v f ready.
            past_own (returned 0 (here.file t)) (broken ∷ []) v f ready
            ∙ ap (λ b. cond b broken.1 f) (ne_eqb u v (ready_not_waiting v u here.kernel.threads ready waiting));
        beside = beside_after t here.kernel k (woken u k) (alike t here.kernel k refl refl) (beside_woken t u k);
      }
  aside_deed number (Exits more) =
      let n : ℕ = cond (clears here t) 1 0 in
      let address = clear_of t here.kernel.threads in
      let then = (wake n address anyone here.kernel).kernel in
      record {
        files = λ u f ready. answered_beside here n 0 address 0 anyone u f here.kernel ready;
        beside = beside_after t here.kernel then (gone t then) (beside_requeue t n 0 address 0 anyone here.kernel) (beside_gone t then);
      }
  aside_deed number (Bears entered writes free its_number) =
      let child = next_number here.kernel in
      record {
        files = λ u f ready.
            past_own (returned child (here.file t)) ((child, child_file here t) ∷ []) u f ready
            ∙ ap (λ b. cond b (child_file here t) f) (ne_eqb child u (ready_not_next u here.kernel.threads good.kernel.tables.threads ready));
        beside = aside_child;
      }
  aside_deed number (Begins targets restart others no_error its_number) =
      record { files = λ u f ready. past_own (record (here.file t) { pc = sum_64 (here.file t).pc 4 }) [] u f ready; beside = beside_same t here.kernel }
  aside_deed number (Resumes words is its) =
      record { files = λ u f ready. past_own (frame.restored words) [] u f ready; beside = alike t here.kernel _ refl refl }
  aside_deed number (Ends entered e writes over) = aside_none here t good at _ refl refl

  pub aside_called : IsAside here t (called here t)
  aside_called = aside_deed _ (deed_called here t)
