-- A process with a thread that is ready or runs isn't stuck.
use Rattle.process.proofs.Common.{◌≡◌, ℕ, List, [], ◌∷◌, map, find, refl, Bool, true, false, not, Option, Some, None, is_some, nat_le, length, option_map, option_map_or, list_any, ThreadState, Thread, Threads, is_live, is_ready, is_ready_state, is_stuck, is_thread, state_if, with_state, or_right, goes_on, is_waiting_state, and_right, ap}

-- a live thread that comes into a state in which it goes on
any_goes_on : (t : ℕ) (st : ThreadState) (xs : List Thread) → not (is_waiting_state st) ≡ true → is_some (find (is_thread t) xs) ≡ true → list_any goes_on (map (state_if t st) xs) ≡ true
any_goes_on t st [] goes live = cc
any_goes_on t st (x ∷ xs) goes live = go (is_thread t x) refl (any_goes_on t st xs goes)
  where
    go : (b : Bool) → is_thread t x ≡ b → (is_some (find (is_thread t) xs) ≡ true → list_any goes_on (map (state_if t st) xs) ≡ true) → list_any goes_on (map (state_if t st) (x ∷ xs)) ≡ true
    go true is rest = rw (is, goes) refl
    go false is rest = rw is (or_right (goes_on x) (list_any goes_on (map (state_if t st) xs)) (rest (rw is at live)))

pub not_stuck : (t : ℕ) (st : ThreadState) (ts : Threads) → not (is_waiting_state st) ≡ true → is_live t ts ≡ true → is_stuck (with_state t st ts) ≡ false
not_stuck t st ts goes live = and_right (nat_le 1 (length (map (state_if t st) ts.live))) (not (list_any goes_on (map (state_if t st) ts.live))) (ap not (any_goes_on t st ts.live goes live))

-- a ready thread is live
pub ready_live : (t : ℕ) (ts : Threads) → is_ready t ts ≡ true → is_live t ts ≡ true
ready_live t ts is = go (find (is_thread t) ts.live) is
  where
    go : (o : Option Thread) → option_map_or is_ready_state (option_map (λ th. th.state) o) false ≡ true → is_some o ≡ true
    go None e = cc
    go (Some th) e = refl
