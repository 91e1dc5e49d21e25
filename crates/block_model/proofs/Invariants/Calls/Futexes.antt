-- futex(2).
use Rattle.block_model.proofs.Common.{◌≡◌, ◌≤◌, ℕ, ◌+◌, arith, eqb, length, map, refl, ◌∙◌, false, true, Option, Some, None, zero, suc, Here, IsGoodHere, IsSound, Kernel, Saved, Setting, ThreadState, Threads, Waiting, answered_wait, false≢true, file_among, ne_eqb, option_map_or, running_on, state_of, waits, woken, Bool, and_parts, ◌&&◌}
use Rattle.mach_types.specs.Kernel.Threads.{is_waiting_at, longest_waiter}
use Rattle.block_model.specs.Calls.Futexes.{Woken, move, nobody, requeue, woken_first}
use Rattle.block_model.specs.Kernel.{requeued}
use Rattle.block_model.proofs.KernelTables.{found_passes, waits_elsewhere}
use Rattle.block_model.proofs.Invariants.Calls.Conditions.{IsApart}
use Rattle.block_model.proofs.Invariants.Calls.RecordSteps.{IsKept, kept_requeued, kept_still, kept_twice, kept_woken}

-- the longest waiter at an address waits
waits_there : (at : ℕ) (ts : Threads) (t : ℕ) (o : Option ThreadState) → state_of t ts ≡ o
    → is_waiting_at at o ≡ true → waits ts t
waits_there at ts t (Some (Waiting b)) was e = (b, was)
waits_there at ts t o was e = absurd (false≢true e)

pub longest_waits : (at : ℕ) (listens : ℕ → Bool) (ts : Threads) (t : ℕ) → longest_waiter at listens ts ≡ Some t → waits ts t
longest_waits at listens ts t e =
    let there = found_passes (λ u. is_waiting_at at (state_of u ts) && listens u) ts.waiters t e in
    waits_there at ts t (state_of t ts) refl (and_parts (is_waiting_at at (state_of t ts)) (listens t) there).0

-- one thread after another: what holds where nobody goes holds of all, where each that is woken, or waits at another address, keeps it
module _ (P : Kernel → Woken → Type 0) (none : (k : Kernel) → P k (nobody k))
    (wakes : (u : ℕ) (k : Kernel) (rest : Woken) → waits k.threads u → P (woken u k) rest → P k (woken_first u rest))
    (moves : (u to : ℕ) (k : Kernel) (rest : Woken) → waits k.threads u → P (requeued u to k) rest → P k (woken_first u rest)) where
  next_by : (at : ℕ) (listens : ℕ → Bool) (k : Kernel) (after : ℕ → Kernel) (by : Kernel → Woken)
      → ((u : ℕ) → waits k.threads u → P (after u) (by (after u)) → P k (woken_first u (by (after u))))
      → ((u : ℕ) → P (after u) (by (after u)))
      → (o : Option ℕ) → longest_waiter at listens k.threads ≡ o → P k (option_map_or (λ u. woken_first u (by (after u))) o (nobody k))
  next_by at listens k after by step rest None is = none k
  next_by at listens k after by step rest (Some u) is = step u (longest_waits at listens k.threads u is) (rest u)

  move_by : (n at to : ℕ) (listens : ℕ → Bool) (k : Kernel) → P k (move n at to listens k)
  move_by zero at to listens k = none k
  move_by (suc n) at to listens k =
      next_by at listens k (λ u. requeued u to k) (move n at to listens) (λ u. moves u to k (move n at to listens (requeued u to k)))
      (λ u. move_by n at to listens (requeued u to k)) (longest_waiter at listens k.threads) refl

  pub requeue_by : (n more at to : ℕ) (listens : ℕ → Bool) (k : Kernel) → P k (requeue n more at to listens k)
  requeue_by zero more at to listens k = move_by more at to listens k
  requeue_by (suc n) more at to listens k =
      next_by at listens k (λ u. woken u k) (requeue n more at to listens) (λ u. wakes u k (requeue n more at to listens (woken u k)))
      (λ u. requeue_by n more at to listens (woken u k)) (longest_waiter at listens k.threads) refl

pub requeue_keeps : (P : Kernel → Kernel → Type 0) → ((k : Kernel) → P k k)
    → ((u : ℕ) (k after : Kernel) → waits k.threads u → P (woken u k) after → P k after)
    → ((u to : ℕ) (k after : Kernel) → waits k.threads u → P (requeued u to k) after → P k after)
    → (n more at to : ℕ) (listens : ℕ → Bool) (k : Kernel) → P k (requeue n more at to listens k).kernel
requeue_keeps P still wakes moves =
    requeue_by (λ k done. P k done.kernel) still (λ u k rest waiting is. wakes u k rest.kernel waiting is)
    (λ u to k rest waiting is. moves u to k rest.kernel waiting is)

-- no more go than asked
few_next : (most : ℕ) (k : Kernel) (rest : ℕ → Woken) → ((u : ℕ) → length (rest u).threads ≤ most) → (o : Option ℕ)
    → length (option_map_or (λ u. woken_first u (rest u)) o (nobody k)).threads ≤ most + 1
few_next most k rest few None = omega arith
few_next most k rest few (Some u) = let all = few u in omega arith

move_few : (n at to : ℕ) (listens : ℕ → Bool) (k : Kernel) → length (move n at to listens k).threads ≤ n
move_few zero at to listens k = omega arith
move_few (suc n) at to listens k =
    let few = few_next n k (λ u. move n at to listens (requeued u to k)) (λ u. move_few n at to listens (requeued u to k)) (longest_waiter at listens k.threads) in
    omega arith

pub requeue_few : (n more at to : ℕ) (listens : ℕ → Bool) (k : Kernel) → length (requeue n more at to listens k).threads ≤ n + more
requeue_few zero more at to listens k = let few = move_few more at to listens k in omega arith
requeue_few (suc n) more at to listens k =
    let few = few_next (n + more) k (λ u. requeue n more at to listens (woken u k)) (λ u. requeue_few n more at to listens (woken u k)) (longest_waiter at listens k.threads) in
    omega arith

-- so the record stays sound
pub kept_requeue : (s : Setting) (n more at to : ℕ) (listens : ℕ → Bool) (k : Kernel) → IsSound s k → IsKept s k (requeue n more at to listens k).kernel
kept_requeue s n more at to listens k sound =
    requeue_keeps (λ a b. IsSound s a → IsKept s a b) (kept_still s) (λ u k after waiting rest sound.
    let first = kept_woken s u k sound waiting in
    kept_twice s k (woken u k) after first (rest first.sound)) (λ u to k after waiting rest sound.
    let first = kept_requeued s u to k sound waiting in
    kept_twice s k (requeued u to k) after first (rest first.sound)) n more at to listens k sound

-- and sets no file of a thread that runs
abbrev pub answered : Here → Woken → ℕ → Saved → Saved
answered here done u f = file_among (map (answered_wait here) done.threads) u f

answered_apart : (s : Setting) (here : Here) (h u : ℕ) (f : Saved) (n more at to : ℕ) (listens : ℕ → Bool) (k : Kernel) → IsSound s k
    → running_on h k.threads ≡ Some u → answered here (requeue n more at to listens k) u f ≡ f
answered_apart s here h u f =
    requeue_by (λ k done. IsSound s k → running_on h k.threads ≡ Some u → answered here done u f ≡ f) (λ k sound runs. refl)
    (λ v k rest waiting is sound runs.
    let kept = kept_woken s v k sound waiting in
    rw (elsewhere v k waiting sound runs) (is kept.sound (kept.running h ∙ runs)))
    (λ v to k rest waiting is sound runs.
    let kept = kept_requeued s v to k sound waiting in
    rw (elsewhere v k waiting sound runs) (is kept.sound (kept.running h ∙ runs)))
  where
    elsewhere : (v : ℕ) (k : Kernel) → waits k.threads v → IsSound s k → running_on h k.threads ≡ Some u → eqb v u ≡ false
    elsewhere v k waiting sound runs = ne_eqb v u (waits_elsewhere s.limits.harts h u v k.threads k.scheduling sound.tables runs waiting)

pub apart_woken : (here : Here) (n more at to : ℕ) (listens : ℕ → Bool) → IsGoodHere here
    → IsApart here (map (answered_wait here) (requeue n more at to listens here.kernel).threads)
apart_woken here n more at to listens good k u f ne run =
    answered_apart here.setting here k u f n more at to listens here.kernel good.kernel run
