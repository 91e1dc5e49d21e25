-- Each live thread may run on some hart of the machine, at the start and after a step that keeps who is live and the affinities.
use Rattle.block_model.proofs.Common.{◌≡◌, ◌≢◌, ℕ, ◌+◌, ◌-◌, ◌*◌, ◌/◌, ◌%◌, ◌^◌, ◌<◌, ◌≤◌, Bool, true, false, cond, ◌||◌, eqb, refl, sym, ap, ◌∙◌, arith, zero, suc, eq-eqb, List, [], ◌∷◌, ◌++◌, map, find, is_some, Option, None, Some, inl, inr, IsTables, Scheduling, Thread, ThreadState, Threads, affinity_of, cases_lt, eqb-true, eqb_same, eqb_tells, false≢true, filtered_same, forget, has_hart, is_live, is_of, is_thread, list_any, new_thread, on, option_map, option_map_or, running_on, set_if, start_scheduling, start_threads, thread_of, with_affinity, with_child, with_ready, without}
use Rattle.std.proofs.lemmas.Nat.{pow_pos, and_mask}
use Rattle.std.proofs.Math.Nat.{pow-suc}
use Rattle.mach_types.specs.Kernel.Scheduling.{harts_in, all_harts, with_thread}
use Rattle.mach_types.proofs.Laws.{differs, filtered_other, found_at_end, not_at_end, eqb_other}
use Rattle.block_model.specs.Tables.{AllAllowed}
use Rattle.block_model.proofs.KernelTables.{running_is}

-- the affinities tell who is live
pub same_live : (harts t : ℕ) (ts us : Threads) (sc sd : Scheduling) → IsTables harts ts sc → IsTables harts us sd → sd.affinities ≡ sc.affinities → is_live t us ≡ is_live t ts
same_live harts t ts us sc sd before after same = sym (after.held t) ∙ rw same (before.held t)

first_hart : (n : ℕ) → has_hart (all_harts (suc n)) 0 ≡ true
first_hart n =
    let two : 2 ^ suc n ≡ 2 ^ n * 2 = pow-suc 2 n in
    let some : 0 < 2 ^ n = pow_pos n in
    eq-eqb ((2 ^ suc n - 1) / 1 % 2) 1 (rw two (odd (2 ^ n) some))
  where
    odd : (k : ℕ) → 0 < k → (k * 2 - 1) / 1 % 2 ≡ 1
    odd k some = omega arith

only_first : (t : ℕ) (b : Bool) → is_some (cond b (Some (new_thread 1)) None) ≡ true → b ≡ true
only_first t true e = refl
only_first t false e = cc

pub start_allowed : (harts : ℕ) → AllAllowed harts start_threads (start_scheduling harts)
start_allowed zero some t live = absurd (omega arith)
start_allowed (suc n) some t live =
    let first : 1 ≡ t = eqb-true 1 t (only_first t (eqb 1 t) live) in
    (0, omega arith, rw (← first) (first_hart n))

-- the set that a pair holds, and that of a thread among pairs
abbrev set_in : Option (ℕ × ℕ) → ℕ
set_in o = option_map_or (λ pair. pair.1) o 0

abbrev set_among : ℕ → List (ℕ × ℕ) → ℕ
set_among t pairs = set_in (find (is_of t) pairs)

-- a set that has some hart of the machine
abbrev HasHart : ℕ → ℕ → Type 0
HasHart harts set = (h : ℕ) × (h < harts) × (has_hart set h ≡ true)

has_alike : (harts a b : ℕ) → a ≡ b → HasHart harts b → HasHart harts a
has_alike harts a b same found = (found.0, found.1, ap (λ set. has_hart set found.0) same ∙ found.2)

-- the same where who is live and the affinities are as they were
pub kept_allowed : (harts : ℕ) (ts us : Threads) (sc sd : Scheduling) → IsTables harts ts sc
    → IsTables harts us sd
    → sd.affinities ≡ sc.affinities → AllAllowed harts ts sc → AllAllowed harts us sd
kept_allowed harts ts us sc sd before after same was some t live =
    let lives : is_live t ts ≡ true = sym (same_live harts t ts us sc sd before after same) ∙ live in
    has_alike harts (affinity_of t sd) (affinity_of t sc) (ap (set_among t) same) (was some t lives)

-- a set of the machine's harts that isn't empty has one of them
top_hart : (set n : ℕ) → n ≤ set → set < n * 2 → 0 < n → set / n ≡ 1
top_hart set n low high some = grind arith

some_hart : (harts set : ℕ) → set < 2 ^ harts → set ≢ 0 → HasHart harts set
some_hart zero set low some = absurd (some (omega arith))
some_hart (suc n) set low some =
    elim (cases_lt set (2 ^ n)) [
      | inl lt ↦ let found = some_hart n set lt some in (found.0, omega (arith, found.1), found.2)
      | inr ge ↦
          let high : set < 2 ^ n * 2 = rw (← pow-suc 2 n) low in
          let one : set / 2 ^ n ≡ 1 = top_hart set (2 ^ n) ge high (pow_pos n) in
          (n, omega arith, ap (λ k. eqb (k % 2) 1) one)
    ]

pub harts_in_below : (set harts : ℕ) → harts_in set harts < 2 ^ harts
harts_in_below set harts =
    let masked = and_mask set harts in
    let some = pow_pos harts in
    rw masked (grind arith)

-- a thread that no pair is of isn't found
none_has : (t : ℕ) (pairs : List (ℕ × ℕ)) → list_any (is_of t) pairs ≡ false → find (is_of t) pairs ≡ None
none_has t [] e = refl
none_has t (p ∷ ps) e = step (eqb p.0 t) (none_has t ps) e
  where
    step : (b : Bool) → (list_any (is_of t) ps ≡ false → find (is_of t) ps ≡ None)
        → (b || list_any (is_of t) ps) ≡ false
        → cond b (Some p) (find (is_of t) ps) ≡ None
    step true rest e = absurd (false≢true (sym e))
    step false rest e = rest e

-- a thread that gets a set has it, and other threads keep theirs
own_step : (t set : ℕ) (p : ℕ × ℕ) (any : Bool) (found : Option (ℕ × ℕ)) (b : Bool) → eqb p.0 t ≡ b
    → (any ≡ true → set_in found ≡ set)
    → (b || any) ≡ true → set_in (cond (eqb (cond b (t, set) p).0 t) (Some (cond b (t, set) p)) found) ≡ set
own_step t set p any found true is rest e = ap (λ c. set_in (cond c (Some (t, set)) found)) (eqb_same t)
own_step t set p any found false is rest e = ap (λ c. set_in (cond c (Some p) found)) is ∙ rest e

own_set : (t set : ℕ) (pairs : List (ℕ × ℕ)) → list_any (is_of t) pairs ≡ true
    → set_among t (map (set_if t set) pairs) ≡ set
own_set t set [] e = absurd (false≢true e)
own_set t set (p ∷ ps) e =
    let found = find (is_of t) (map (set_if t set) ps) in
    own_step t set p (list_any (is_of t) ps) found (eqb p.0 t) refl (own_set t set ps) e

other_step : (t u set : ℕ) → u ≢ t → (p : ℕ × ℕ) (found was : Option (ℕ × ℕ)) (b : Bool) → eqb p.0 t ≡ b
    → found ≡ was
    → cond (eqb (cond b (t, set) p).0 u) (Some (cond b (t, set) p)) found ≡ cond (eqb p.0 u) (Some p) was
other_step t u set other p found was true is same =
    let isnt = differs p.0 t u other is in
    let moved = ap (λ c. cond c (Some (t, set)) found) (eqb_other t u other) in
    moved ∙ same ∙ sym (ap (λ c. cond c (Some p) was) isnt)
other_step t u set other p found was false is same = ap (λ o. cond (eqb p.0 u) (Some p) o) same

other_pair : (t u set : ℕ) → u ≢ t → (pairs : List (ℕ × ℕ))
    → find (is_of u) (map (set_if t set) pairs) ≡ find (is_of u) pairs
other_pair t u set other [] = refl
other_pair t u set other (p ∷ ps) =
    let found = find (is_of u) (map (set_if t set) ps) in
    other_step t u set other p found (find (is_of u) ps) (eqb p.0 t) refl (other_pair t u set other ps)

-- sched_setaffinity(2): a thread has another set of the machine's harts, which isn't empty
pub restricted_allowed : (harts t set : ℕ) (ts : Threads) (sc : Scheduling) → IsTables harts ts sc
    → set < 2 ^ harts → set ≢ 0
    → AllAllowed harts ts sc → AllAllowed harts ts (with_affinity t set sc)
restricted_allowed harts t set ts sc tables low some was any u live =
    elim (eqb_tells u t) [
      | inl p ↦
          let lives : is_live t ts ≡ true = sym (ap (λ n. is_live n ts) p.1) ∙ live in
          let its = own_set t set sc.affinities (tables.held t ∙ lives) in
          let own = ap (λ n. affinity_of n (with_affinity t set sc)) p.1 ∙ its in
          has_alike harts (affinity_of u (with_affinity t set sc)) set own (some_hart harts set low some)
      | inr q ↦
          let its = ap set_in (other_pair t u set q.1 sc.affinities) in
          has_alike harts (affinity_of u (with_affinity t set sc)) (affinity_of u sc) its (was any u live)
    ]

-- exit(2): a thread is gone
pub ended_allowed : (harts t : ℕ) (ts : Threads) (sc : Scheduling) → AllAllowed harts ts sc
    → AllAllowed harts (without t ts) (forget t sc)
ended_allowed harts t ts sc was any u live =
    elim (eqb_tells u t) [
      | inl p ↦
          let none = ap is_some (filtered_same (λ (th : Thread). th.tid) t ts.live) in
          let lives : is_live t (without t ts) ≡ true = sym (ap (λ n. is_live n (without t ts)) p.1) ∙ live in
          absurd (false≢true (sym none ∙ lives))
      | inr q ↦
          let same = ap is_some (filtered_other (λ (th : Thread). th.tid) t u q.1 ts.live) in
          let its = ap set_in (filtered_other (λ (pair : ℕ × ℕ). pair.0) t u q.1 sc.affinities) in
          has_alike harts (affinity_of u (forget t sc)) (affinity_of u sc) its (was any u (sym same ∙ live))
    ]

-- a thread that runs is live
runs_live : (o : Option Thread) (s : ThreadState) → option_map (λ th. th.state) o ≡ Some s → is_some o ≡ true
runs_live None s e = cc
runs_live (Some th) s e = refl

pub running_live : (harts h t : ℕ) (ts : Threads) (sc : Scheduling) → IsTables harts ts sc
    → running_on h ts ≡ Some t → is_live t ts ≡ true
running_live harts h t ts sc tables at =
    runs_live (thread_of t ts) (on h) (running_is harts h t ts sc tables at)

-- clone(2): a child has the harts of its parent
child_set : (n set : ℕ) (pairs : List (ℕ × ℕ)) → list_any (is_of n) pairs ≡ false
    → set_among n (pairs ++ (n, set) ∷ []) ≡ set
child_set n set pairs new =
    ap set_in (found_at_end (is_of n) pairs (n, set) (none_has n pairs new) (eqb_same n))

other_set : (n u set : ℕ) (pairs : List (ℕ × ℕ)) → u ≢ n
    → set_among u (pairs ++ (n, set) ∷ []) ≡ set_among u pairs
other_set n u set pairs other = ap set_in (not_at_end (is_of u) pairs (n, set) (eqb_other n u other))

other_lives : (u : ℕ) (ts : Threads) → u ≢ ts.given + 1 → is_live u (with_child ts) ≡ is_live u ts
other_lives u ts other =
    let isnt = eqb_other (ts.given + 1) u other in
    ap is_some (not_at_end (is_thread u) ts.live (new_thread (ts.given + 1)) isnt)

pub child_allowed : (harts parent : ℕ) (ts : Threads) (sc : Scheduling)
    → list_any (is_of (ts.given + 1)) sc.affinities ≡ false
    → is_live parent ts ≡ true → AllAllowed harts ts sc
    → AllAllowed harts (with_child ts) (with_ready (ts.given + 1) (with_thread parent (ts.given + 1) sc))
child_allowed harts parent ts sc new lives was any u live =
    let set = affinity_of parent sc in
    let after = with_thread parent (ts.given + 1) sc in
    elim (eqb_tells u (ts.given + 1)) [
      | inl p ↦
          let its = ap (λ n. affinity_of n after) p.1 ∙ child_set (ts.given + 1) set sc.affinities new in
          has_alike harts (affinity_of u after) set its (was any parent lives)
      | inr q ↦
          let its = other_set (ts.given + 1) u set sc.affinities q.1 in
          let lived = sym (other_lives u ts q.1) ∙ live in
          has_alike harts (affinity_of u after) (affinity_of u sc) its (was any u lived)
    ]
