-- No thread goes on exactly where as many wait as live.
use Rattle.std.proofs.Common.{ℕ, ◌<◌, ◌≤◌, ◌≡◌, Bool, true, false, not, cond, leb, ◌||◌, ◌&&◌, eqb, List, [], ◌∷◌, length, find, Option, Some, None, is_some, refl, sym, ap, ◌∙◌, subst, arith}
use Rattle.std.specs.Cmp.{nat_eq_equiv}
use Rattle.std.specs.List.{AllByRecursion, IsDistinct, list_any}
use Rattle.std.specs.Option.{option_map, option_map_or}
use Rattle.std.proofs.lemmas.Bool.{false≢true}
use Rattle.std.proofs.lemmas.Bool.Decides.{Decides-eqb, nat_tests}
use Rattle.std.proofs.lemmas.List.{length-map}
use Rattle.std.proofs.lemmas.Map.Keys.{IsDistinct-cons, IsDistinct-head, IsDistinct-tail}
use Rattle.std.proofs.lemmas.Map.Made.{length-le_from_is_member}
use Rattle.mach_types.proofs.Laws.{times_cons, eqb_same}
use Rattle.mach_types.specs.Kernel.Threads.{Thread, Threads, IsThreads, is_thread, numbers, times, goes_on, is_waiting_state, is_stuck}
use Rattle.mach_types.proofs.Places.{distinct_if_rising}

abbrev once : Bool → ℕ
once b = cond b 1 0

-- whether the thread with a number waits
abbrev waits_among : ℕ → List Thread → Bool
waits_among t live = option_map_or is_waiting_state (option_map (λ th. th.state) (find (is_thread t) live)) false

-- what a list has counts in it
has_some : (u : ℕ) (xs : List ℕ) → list_any (eqb u) xs ≡ true → 0 < times u xs
has_some u [] e = absurd (false≢true e)
has_some u (x ∷ xs) e = go (eqb u x) refl e (has_some u xs)
  where
    go : (b : Bool) → eqb u x ≡ b → (b || list_any (eqb u) xs) ≡ true → (list_any (eqb u) xs ≡ true → 0 < times u xs) → 0 < times u (x ∷ xs)
    go true same found rest = omega (arith, times_cons u x xs, ap once (sym (nat_eq_equiv.symm u x) ∙ same))
    go false apart found rest = omega (arith, times_cons u x xs, rest found)

counts_as : (u : ℕ) (xs : List ℕ) → 0 < times u xs → list_any (eqb u) xs ≡ true
counts_as u [] lt = absurd (omega arith)
counts_as u (x ∷ xs) lt = go (eqb u x) refl (counts_as u xs)
  where
    go : (b : Bool) → eqb u x ≡ b → (0 < times u xs → list_any (eqb u) xs ≡ true) → (b || list_any (eqb u) xs) ≡ true
    go true same rest = refl
    go false apart rest = rest (omega (arith, lt, times_cons u x xs, ap once (sym (nat_eq_equiv.symm u x) ∙ apart)))

-- numbers that are there once at most are distinct
none_same : (x : ℕ) (xs : List ℕ) → times x xs ≡ 0 → AllByRecursion (λ y. eqb x y ≡ false) xs
none_same x [] none = tt
none_same x (y ∷ ys) none = (go (eqb x y) refl, none_same x ys (omega (arith, none, times_cons x y ys)))
  where
    go : (b : Bool) → eqb x y ≡ b → b ≡ false
    go true same = absurd (omega (arith, none, times_cons x y ys, ap once (sym (nat_eq_equiv.symm x y) ∙ same)))
    go false apart = refl

distinct : (xs : List ℕ) → ((u : ℕ) → times u xs ≤ 1) → IsDistinct eqb xs
unfolding IsDistinct
distinct [] few = tt
distinct (x ∷ xs) few =
    let none : times x xs ≡ 0 = omega (arith, few x, times_cons x x xs, ap once (eqb_same x)) in
    (none_same x xs none, distinct xs (λ u. omega (arith, few u, times_cons u x xs)))

-- a thread that is found is among the numbers
found_is_live : (u : ℕ) (live : List Thread) → is_some (find (is_thread u) live) ≡ list_any (eqb u) (numbers live)
found_is_live u [] = refl
found_is_live u (th ∷ live) =
    elim (is_thread u th) as (λ b. is_some (cond b (Some th) (find (is_thread u) live)) ≡ (b || list_any (eqb u) (numbers live))) [ true ↦ refl | false ↦ found_is_live u live ]
    ∙ ap (λ b. b || list_any (eqb u) (numbers live)) (nat_eq_equiv.symm th.tid u)

waiter_is_found : (u : ℕ) (live : List Thread) → waits_among u live ≡ true → is_some (find (is_thread u) live) ≡ true
waiter_is_found u live = go (find (is_thread u) live)
  where
    go : (o : Option Thread) → option_map_or is_waiting_state (option_map (λ th. th.state) o) false ≡ true → is_some o ≡ true
    go None e = absurd (false≢true e)
    go (Some th) e = refl

-- where none goes on, each waits
negated : (b : Bool) → not b ≡ false → b ≡ true
negated true e = refl
negated false e = absurd (false≢true (sym e))

each_waits : (u : ℕ) (live : List Thread) → list_any goes_on live ≡ false → is_some (find (is_thread u) live) ≡ true → waits_among u live ≡ true
each_waits u [] none found = absurd (false≢true found)
each_waits u (th ∷ live) none found = go (goes_on th) refl none (is_thread u th) found (each_waits u live)
  where
    go : (b : Bool) → goes_on th ≡ b → (b || list_any goes_on live) ≡ false → (c : Bool) → is_some (cond c (Some th) (find (is_thread u) live)) ≡ true
        → (list_any goes_on live ≡ false → is_some (find (is_thread u) live) ≡ true → waits_among u live ≡ true)
        → option_map_or is_waiting_state (option_map (λ t. t.state) (cond c (Some th) (find (is_thread u) live))) false ≡ true
    go true e none c found rest = absurd (false≢true (sym none))
    go false e none true found rest = negated (is_waiting_state th.state) e
    go false e none false found rest = rest none found

-- where one goes on, it is live and doesn't wait
record GoesOn (live : List Thread) : Type 0 where
  t : ℕ
  lives : list_any (eqb t) (numbers live) ≡ true
  waits_not : waits_among t live ≡ false

one_goes_on : (live : List Thread) → IsDistinct eqb (numbers live) → list_any goes_on live ≡ true → GoesOn live
one_goes_on [] apart some = absurd (false≢true some)
one_goes_on (th ∷ live) apart some =
    go (goes_on th) refl some (IsDistinct-head eqb th.tid (numbers live) apart) (one_goes_on live (IsDistinct-tail eqb th.tid (numbers live) apart))
  where
    other : (n u : ℕ) (us : List ℕ) → AllByRecursion (λ y. eqb n y ≡ false) us → list_any (eqb u) us ≡ true → eqb n u ≡ false
    other n u [] others found = absurd (false≢true found)
    other n u (x ∷ us) others found = step (eqb u x) refl found (other n u us others.1)
      where
        step : (b : Bool) → eqb u x ≡ b → (b || list_any (eqb u) us) ≡ true → (list_any (eqb u) us ≡ true → eqb n u ≡ false) → eqb n u ≡ false
        step true same found rest = ap (eqb n) ((Decides-eqb u x).0 same) ∙ others.0
        step false apart found rest = rest found

    go : (b : Bool) → goes_on th ≡ b → (b || list_any goes_on live) ≡ true → AllByRecursion (λ y. eqb th.tid y ≡ false) (numbers live)
        → (list_any goes_on live ≡ true → GoesOn live) → GoesOn (th ∷ live)
    go true e some others rest = record {
      t = th.tid;
      lives = ap (λ b. b || list_any (eqb th.tid) (numbers live)) (eqb_same th.tid);
      waits_not = ap (λ b. option_map_or is_waiting_state (option_map (λ t. t.state) (cond b (Some th) (find (is_thread th.tid) live))) false) (eqb_same th.tid)
          ∙ grind (arith, e);
    }
    go false e some others rest =
        let later = rest some in
        record {
          t = later.t;
          lives = grind (arith, later.lives);
          waits_not = ap (λ b. option_map_or is_waiting_state (option_map (λ t. t.state) (cond b (Some th) (find (is_thread later.t) live))) false)
              (other th.tid later.t (numbers live) others later.lives) ∙ later.waits_not;
        }

-- as many wait as live exactly where none goes on
module _ (ts : Threads) (h : IsThreads ts) where
  waiter_counts : (u : ℕ) → times u ts.waiters ≡ once (waits_among u ts.live)
  waiter_counts u = h.waiting u

  pub waiters_distinct : IsDistinct eqb ts.waiters
  waiters_distinct = distinct ts.waiters (λ u.
      let count = waiter_counts u in
      elim (waits_among u ts.live) as (λ b. times u ts.waiters ≡ once b → times u ts.waiters ≤ 1) [ true ↦ λ e. omega arith | false ↦ λ e. omega arith ] count)

  live_distinct : IsDistinct eqb (numbers ts.live)
  live_distinct = distinct_if_rising (λ (n : ℕ). n) (numbers ts.live) h.rising

  waiter_waits : (u : ℕ) → list_any (eqb u) ts.waiters ≡ true → waits_among u ts.live ≡ true
  waiter_waits u e = go (waits_among u ts.live) refl
    where
      go : (b : Bool) → waits_among u ts.live ≡ b → b ≡ true
      go true is = refl
      go false isnt = absurd (omega (arith, has_some u ts.waiters e, waiter_counts u, ap once isnt))

  waiter_lives : (u : ℕ) → list_any (eqb u) ts.waiters ≡ true → list_any (eqb u) (numbers ts.live) ≡ true
  waiter_lives u e = sym (found_is_live u ts.live) ∙ waiter_is_found u ts.live (waiter_waits u e)

  as_many : list_any goes_on ts.live ≡ false → length ts.waiters ≡ length ts.live
  as_many none =
      let fewer = length-le_from_is_member nat_eq_equiv ts.waiters (numbers ts.live) waiters_distinct waiter_lives in
      let more = length-le_from_is_member nat_eq_equiv (numbers ts.live) ts.waiters live_distinct (λ u lives.
      counts_as u ts.waiters (omega (arith, waiter_counts u, ap once (each_waits u ts.live none (found_is_live u ts.live ∙ lives))))) in
      omega (arith, fewer, more, length-map ts.live (λ (th : Thread). th.tid))

  fewer_wait : list_any goes_on ts.live ≡ true → length ts.waiters < length ts.live
  fewer_wait some =
      let one = one_goes_on ts.live live_distinct some in
      let absent : times one.t ts.waiters ≡ 0 = waiter_counts one.t ∙ ap once one.waits_not in
      let with_it = length-le_from_is_member nat_eq_equiv (one.t ∷ ts.waiters) (numbers ts.live)
      (IsDistinct-cons eqb one.t ts.waiters (none_same one.t ts.waiters absent) waiters_distinct)
      (λ u e. either u one.t (eqb u one.t) refl e one.lives) in
      omega (arith, with_it, length-map ts.live (λ (th : Thread). th.tid))
    where
      either : (u t : ℕ) (b : Bool) → eqb u t ≡ b → (b || list_any (eqb u) ts.waiters) ≡ true → list_any (eqb t) (numbers ts.live) ≡ true → list_any (eqb u) (numbers ts.live) ≡ true
      either u t true same e lives = subst (λ (n : ℕ). list_any (eqb n) (numbers ts.live) ≡ true) (sym ((Decides-eqb u t).0 same)) lives
      either u t false apart e lives = waiter_lives u e

  pub stuck_by_count : (1 ≤ length ts.live) → eqb (length ts.waiters) (length ts.live) ≡ is_stuck ts
  stuck_by_count some = go (list_any goes_on ts.live) refl
    where
      go : (b : Bool) → list_any goes_on ts.live ≡ b → eqb (length ts.waiters) (length ts.live) ≡ (leb 1 (length ts.live) && not b)
      go true e = let lt = fewer_wait e in grind (arith, nat_tests)
      go false e = let same = as_many e in grind (arith, nat_tests)
