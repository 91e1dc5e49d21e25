-- The harts that a barrier of a pair is about are others than its own, and a thread of either process ran on each of them where it was
-- called.
use Rattle.mach_types.proofs.Laws.{has_hart-harts_that}
use Rattle.shared_procs.proofs.Common.{◌≡◌, ◌≢◌, ◌⊎◌, inl, inr, ℕ, ◌++◌, [], ◌∷◌, List, Bool, true, false, not, cond, ltb, Option, Some, None, is_some, sym, ap, ◌∙◌, subst, Barrier, begun_by, false≢true, Entry, goes_on, half, has_hart, IsPairRun, IsPairRunHistory, neighbour, Pair, pair_after, pair_history, PairBegun, PairEvent, PairHistory, PairSetting, running_harts, running_on, runs_in, Threads, IsBusy, and_parts}
use Rattle.shared_procs.proofs.BarrierReturns.{is_called, none_left}
use Rattle.shared_procs.proofs.HartsApart.{event_of, was_idle}

-- a thread of a process that goes on runs on each hart that its record says
own_runs : (m : Pair) (p : Bool) (k : ℕ) → goes_on m p ≡ true → running_on k (half p m).kernel.threads ≢ None → runs_in m p k ≢ None
own_runs m p k goes busy none = busy (was_idle (goes_on m p) (running_on k (half p m).kernel.threads) goes none)

-- and on each hart that is in the set of those
runs_there : (ts : Threads) (harts k : ℕ) → has_hart (running_harts ts harts) k ≡ true → running_on k ts ≢ None
runs_there ts harts k is none =
    let all = sym (has_hart-harts_that (λ h. is_some (running_on h ts)) harts k) ∙ is in
    let some = (and_parts (is_some (running_on k ts)) (ltb k harts) all).0 in
    false≢true (sym (ap (λ (o : Option ℕ). is_some o) none) ∙ some)

other_runs : (s : PairSetting) (m : Pair) (p : Bool) (k : ℕ) → has_hart (neighbour s m p).running k ≡ true → runs_in m (not p) k ≢ None
other_runs s m p k has none = by (goes_on m (not p)) has none
  where
    by : (goes : Bool) → has_hart (cond goes (running_harts (half (not p) m).kernel.threads s.limits.harts) 0) k ≡ true
        → cond goes (running_on k (half (not p) m).kernel.threads) None ≡ None → ⊥
    by true there idle = runs_there (half (not p) m).kernel.threads s.limits.harts k there idle
    by false there idle = false≢true (sym (none_left k) ∙ there)

either_runs : (m : Pair) (p : Bool) (k : ℕ) → (runs_in m p k ≢ None) ⊎ (runs_in m (not p) k ≢ None) → IsBusy m k
either_runs m true k (inl own) = inr own
either_runs m true k (inr other) = inl other
either_runs m false k (inl own) = inl own
either_runs m false k (inr other) = inr other

-- where a barrier begins
about_now : (s : PairSetting) (e : PairEvent) (before : PairHistory) (b : Barrier) (k : ℕ) → IsPairRunHistory s (e ∷ before) → e.done.barrier ≡ Some b
    → has_hart b.targets k ≡ true → (k ≢ e.entry.hart.0) × IsBusy (pair_after s before) k
about_now s e before b k run is has =
    let m = pair_after s before in
    let p = e.process in
    let its = event_of s e before run in
    let others = (its.fit.barriers.begun b is).others in
    let runs : (runs_in m p k ≢ None) ⊎ (runs_in m (not p) k ≢ None) =
    elim (others.ran k has) [ inl busy ↦ inl (own_runs m p k its.goes busy) | inr there ↦ inr (other_runs s m p k there) ] in
    (others.apart k has, either_runs m p k runs)

-- so it was at its call
run_at : (s : PairSetting) (since : PairHistory) (e : PairEvent) (before : PairHistory) → IsPairRunHistory s (since ++ e ∷ before) → IsPairRunHistory s (e ∷ before)
run_at s [] e before run = run
run_at s (x ∷ since) e before run = run_at s since e before run.0

pub about_others : (s : PairSetting) (log : List Entry) (p : Bool) (h k : ℕ) (b : PairBegun) → IsPairRun s log
    → begun_by p h (pair_history s log) ≡ Some b → has_hart b.barrier.targets k ≡ true → (k ≢ h) × IsBusy (pair_after s b.call) k
about_others s log p h k b run is has =
    let at = is_called p h (pair_history s log) b is in
    let to = run_at s at.0 at.1 b.call (subst (IsPairRunHistory s) at.2 run) in
    let both = about_now s at.1 b.call b.barrier k to at.5 has in
    (λ same. both.0 (same ∙ sym at.4), both.1)
