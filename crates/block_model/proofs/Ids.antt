-- The concurrency ids of the threads that run: each holds one, no two hold the same, and the next is below the number of harts and
-- of live threads, where the machine has at most 8 harts.
use Rattle.block_model.proofs.Common.{ℕ, zero, suc, ◌+◌, ◌<◌, ◌≤◌, ◌≡◌, ◌≢◌, ◌&&◌, ◌||◌, Bool, true, false, not, cond, eqb, ltb, List, [], ◌∷◌, ◌++◌, length, map, filter, find, Option, Some, None, is_some, refl, sym, ap, ◌∙◌, subst, inl, inr, arith, All-from_recursion, AreIdsApart, IsLeastFree, IsTables, Running, Scheduling, Thread, ThreadState, Threads, cases_lt, eqb_same, eqb_tells, false≢true, has_hart, has_hart-harts_that, held_ids, id_of, is_id_of, is_running_state, is_taken, is_thread, length-map, list_any, lt-ltb, map_filters, map_push, next_id, not-false, not-true, numbers, option_map, option_map_or, or_parts, running_on, start_threads, state_of, thread_of, times, times_cons, times_filtered_other, times_push, without_id, Hart, new_thread}
use Rattle.std.proofs.lemmas.List.Elements.{All-append, All-filter}
use Rattle.std.specs.Prelude.{unwrap_or}
use Rattle.block_model.specs.Ids.{with_id}
use Rattle.mach_types.specs.Kernel.Areas.{concurrency_ids}
use Rattle.block_model.proofs.KernelTables.{any_of, its_ready, its_state, joined, once, ready_state, running_there, taken}
use Rattle.block_model.proofs.KernelCalls.{any_from_times}

-- whether a thread runs
abbrev pub its_run : Option ThreadState → Bool
its_run o = option_map_or is_running_state o false

abbrev pub is_run : ℕ → Threads → Bool
is_run t ts = its_run (state_of t ts)

-- who holds an id, and the ids that are held
abbrev pub holders : List (ℕ × ℕ) → List ℕ
holders ids = map (λ pair. pair.0) ids

abbrev pub held : List (ℕ × ℕ) → List ℕ
held ids = map (λ pair. pair.1) ids

-- an id is one of those that threads can hold
abbrev IsSmall : ℕ × ℕ → Type 0
IsSmall pair = pair.1 < length concurrency_ids

pub ids_start : AreIdsApart start_threads []
ids_start = record {
  held = λ t. elim (eqb 1 t) as (λ b. 0 ≡ once (its_run (its_state (cond b (Some (new_thread 1)) None))))
      [ true ↦ refl | false ↦ refl ];
  apart = λ n. omega arith;
  small = All-from_recursion IsSmall [] tt;
}

-- NUMBERS IN LISTS

length_split : (n : ℕ) (xs : List ℕ) → length (filter (λ x. not (eqb x n)) xs) + times n xs ≡ length xs
length_split n [] = refl
length_split n (x ∷ xs) =
    let rest = length_split n xs in
    elim (eqb x n) as (λ b. length (cond (not b) (x ∷ filter (λ y. not (eqb y n)) xs) (filter (λ y. not (eqb y n)) xs))
    + length (cond b (x ∷ filter (λ y. eqb y n) xs) (filter (λ y. eqb y n) xs)) ≡ suc (length xs))
    [ true ↦ omega (arith, rest) | false ↦ omega (arith, rest) ]

-- different numbers that are all in a list aren't more than it has
pub fits : (xs ys : List ℕ) → ((n : ℕ) → times n xs ≤ 1) → ((n : ℕ) → times n xs ≤ times n ys) → length xs ≤ length ys
fits [] ys once_each within = omega arith
fits (x ∷ xs) ys once_each within =
    let rest = fits xs (filter (λ y. not (eqb y x)) ys) fewer inside in
    let there = within x in
    let here = times_cons x x xs in
    let same = ap once (eqb_same x) in
    omega (arith, length_split x ys, rest, there, here, same)
  where
    fewer : (n : ℕ) → times n xs ≤ 1
    fewer n = let all = once_each n in let split = times_cons n x xs in omega (arith, all, split)

    inside : (n : ℕ) → times n xs ≤ times n (filter (λ y. not (eqb y x)) ys)
    inside n =
        let split = times_cons n x xs in
        let most = once_each n in
        let all = within n in
        elim (eqb_tells x n) [
          | inl p ↦ let one = ap once p.0 in omega (arith, split, most, one)
          | inr q ↦
              let none = ap once q.0 in
              let other = times_filtered_other x n (λ e. q.1 (sym e)) ys in
              omega (arith, split, all, none, other)
        ]

-- so many numbers from one on
abbrev span : ℕ → ℕ → List ℕ
span first zero = []
span first (suc n) = first ∷ span (first + 1) n

-- a list that has each number below one has as many
pub has_all : (n : ℕ) (xs : List ℕ) → ((k : ℕ) → k < n → 1 ≤ times k xs) → n ≤ length xs
has_all zero xs all = omega arith
has_all (suc n) xs all =
    let rest = has_all n (filter (λ x. not (eqb x n)) xs) others in
    let there = all n (omega arith) in
    omega (arith, rest, there, length_split n xs)
  where
    others : (k : ℕ) → k < n → 1 ≤ times k (filter (λ x. not (eqb x n)) xs)
    others k lt =
        let there = all k (omega arith) in
        let same = times_filtered_other n k (λ e. absurd (omega arith)) xs in
        omega (arith, there, same)

-- WHICH IDS ARE HELD

not_taken : (n : ℕ) (ids : List (ℕ × ℕ)) → is_taken ids n ≡ false → times n (held ids) ≡ 0
not_taken n [] is = refl
not_taken n (x ∷ ids) is =
    let both = or_parts (eqb x.1 n) (is_taken ids n) is in
    let none = ap once both.0 in
    let rest = not_taken n ids both.1 in
    let split = times_cons n x.1 (held ids) in
    omega (arith, none, rest, split)

is_there : (n : ℕ) (ids : List (ℕ × ℕ)) → is_taken ids n ≡ true → 1 ≤ times n (held ids)
is_there n [] is = absurd (false≢true is)
is_there n (x ∷ ids) is = go (eqb x.1 n) refl (is_there n ids) is
  where
    split : times n (held (x ∷ ids)) ≡ once (eqb x.1 n) + times n (held ids)
    split = times_cons n x.1 (held ids)

    go : (b : Bool) → eqb x.1 n ≡ b → (is_taken ids n ≡ true → 1 ≤ times n (held ids)) → (b || is_taken ids n) ≡ true → 1 ≤ times n (held (x ∷ ids))
    go true same rest is = let one = ap once same in omega (arith, one, split)
    go false other rest is = let there = rest is in omega (arith, there, split)

-- THE NEXT ID

-- what is found among so many numbers from one on is the first that passes
abbrev Scanned : (ℕ → Bool) → ℕ → ℕ → Option ℕ → Type 0
Scanned f first n None = (k : ℕ) → first ≤ k → k < first + n → f k ≡ false
Scanned f first n (Some m) = (f m ≡ true) × (m < first + n) × ((k : ℕ) → first ≤ k → k < m → f k ≡ false)

first_too : (f : ℕ → Bool) (first k : ℕ) → f first ≡ false → first ≤ k → (first + 1 ≤ k → f k ≡ false) → f k ≡ false
first_too f first k is low rest = elim (cases_lt first k) [
  | inl lt ↦ rest (omega arith)
  | inr ge ↦ let same : k ≡ first = omega arith in ap f same ∙ is
]

scan_step : (f : ℕ → Bool) (first n : ℕ) (o : Option ℕ) → Scanned f (first + 1) n o → (b : Bool) → f first ≡ b → Scanned f first (suc n) (cond b (Some first) o)
scan_step f first n o rest true is = (is, omega arith, λ k low high. absurd (omega arith))
scan_step f first n None rest false is = λ k low high. first_too f first k is low (λ past. rest k past (omega arith))
scan_step f first n (Some m) rest false is =
    let high = rest.1 in
    (rest.0, omega arith, λ k low lt. first_too f first k is low (λ past. rest.2 k past lt))

scan : (f : ℕ → Bool) (first n : ℕ) → Scanned f first n (find f (span first n))
scan f first zero = λ k low high. absurd (omega arith)
scan f first (suc n) = scan_step f first n (find f (span (first + 1) n)) (scan f (first + 1) n) (f first) refl

and_left : (a b : Bool) → b ≡ true → a && b ≡ a
and_left true b is = is
and_left false b is = refl

module _ (ids : List (ℕ × ℕ)) where
  abbrev is_free : ℕ → Bool
  is_free id = not (has_hart (held_ids ids) id)

  pub in_set : (id : ℕ) → id < 8 → has_hart (held_ids ids) id ≡ is_taken ids id
  in_set id low = has_hart-harts_that (is_taken ids) 8 id ∙ and_left (is_taken ids id) (ltb id 8) (lt-ltb id 8 low)

  all_taken : (n : ℕ) → ((m : ℕ) → m < n → is_taken ids m ≡ true) → n ≤ length ids
  all_taken n all =
      let many = has_all n (held ids) (λ k lt. is_there k ids (all k lt)) in
      omega (arith, many, length-map ids (λ pair. pair.1))

  next_of : (o : Option ℕ) → Scanned is_free 0 8 o → length ids < 8 → IsLeastFree ids (unwrap_or o 0)
  next_of None none few =
      let many = all_taken 8 (λ m lt. sym (in_set m lt) ∙ not-false (has_hart (held_ids ids) m) (none m (omega arith) lt)) in
      absurd (omega arith)
  next_of (Some n) found few =
      let low = found.1 in
      record {
        free = sym (in_set n low) ∙ not-true (has_hart (held_ids ids) n) found.0;
        least = λ m lt. sym (in_set m (omega arith)) ∙ not-false (has_hart (held_ids ids) m) (found.2 m (omega arith) lt);
      }

  pub next_is : length ids < 8 → IsLeastFree ids (next_id ids)
  next_is few = next_of (find is_free (span 0 8)) (scan is_free 0 8) few

  pub next_low : length ids < 8 → next_id ids ≤ length ids
  next_low few = all_taken (next_id ids) (next_is few).least

-- HOW MANY HOLD ONE

abbrev joining : Option ℕ → List ℕ → List ℕ
joining None ts = ts
joining (Some t) ts = t ∷ ts

-- the threads that run on the first so many harts
abbrev crew : ℕ → Threads → List ℕ
crew zero ts = []
crew (suc n) ts = joining (running_on n ts) (crew n ts)

crew_step : (o : Option ℕ) (xs : List ℕ) (n : ℕ) → length xs ≤ n → length (joining o xs) ≤ suc n
crew_step None xs n few = omega arith
crew_step (Some t) xs n few = omega arith

crew_few : (n : ℕ) (ts : Threads) → length (crew n ts) ≤ n
crew_few zero ts = omega arith
crew_few (suc n) ts = crew_step (running_on n ts) (crew n ts) n (crew_few n ts)

strict_step : (o : Option ℕ) (xs : List ℕ) (n : ℕ) → length xs < n → length (joining o xs) < suc n
strict_step None xs n few = omega arith
strict_step (Some t) xs n few = omega arith

crew_idle : (n h : ℕ) (ts : Threads) → h < n → running_on h ts ≡ None → length (crew n ts) < n
crew_idle zero h ts lt idle = absurd (omega arith)
crew_idle (suc n) h ts lt idle = elim (cases_lt h n) [
  | inl below ↦ strict_step (running_on n ts) (crew n ts) n (crew_idle n h ts below idle)
  | inr same ↦
      let is : n ≡ h = omega arith in
      let none : running_on n ts ≡ None = ap (λ k. running_on k ts) is ∙ idle in
      let few = crew_few n ts in
      subst (λ (o : Option ℕ). length (joining o (crew n ts)) < suc n) (sym none) (omega arith)
]

joined_more : (o : Option ℕ) (xs : List ℕ) (t : ℕ) → times t xs ≤ times t (joining o xs)
joined_more None xs t = omega arith
joined_more (Some u) xs t = let split = times_cons t u xs in omega (arith, split)

on_crew : (n k t : ℕ) (ts : Threads) → k < n → running_on k ts ≡ Some t → 1 ≤ times t (crew n ts)
on_crew zero k t ts lt runs = absurd (omega arith)
on_crew (suc n) k t ts lt runs = elim (cases_lt k n) [
  | inl below ↦
      let rest = on_crew n k t ts below runs in
      let more = joined_more (running_on n ts) (crew n ts) t in
      omega (arith, rest, more)
  | inr same ↦
      let is : n ≡ k = omega arith in
      let here : running_on n ts ≡ Some t = ap (λ j. running_on j ts) is ∙ runs in
      let one = ap once (eqb_same t) in
      let split = times_cons t t (crew n ts) in
      let first : 1 ≤ times t (t ∷ crew n ts) = omega (arith, one, split) in
      subst (λ (o : Option ℕ). 1 ≤ times t (joining o (crew n ts))) (sym here) first
]

pub run_state : (o : Option ThreadState) → its_run o ≡ true → (k : Hart) × (o ≡ Some (Running k))
run_state (Some (Running k)) is = (k, refl)
run_state o is = absurd (false≢true is)

pub once_most : (b : Bool) → once b ≤ 1
once_most true = omega arith
once_most false = omega arith

pub numbered : (u : ℕ) (live : List Thread) → once (is_some (find (is_thread u) live)) ≤ times u (numbers live)
numbered u [] = omega arith
numbered u (th ∷ live) =
    elim (eqb th.tid u) as (λ b. once (is_some (cond b (Some th) (find (is_thread u) live)))
    ≤ length (cond b (th.tid ∷ filter (λ k. eqb k u) (numbers live)) (filter (λ k. eqb k u) (numbers live))))
    [ true ↦ omega arith | false ↦ numbered u live ]

run_lives : (o : Option Thread) → once (its_run (option_map (λ th. th.state) o)) ≤ once (is_some o)
run_lives None = omega arith
run_lives (Some th) = once_most (is_running_state th.state)

ready_lives : (o : Option Thread) → its_ready (option_map (λ th. th.state) o) ≡ true → is_some o ≡ true
ready_lives None is = absurd (false≢true is)
ready_lives (Some th) is = refl

module _ (harts h t : ℕ) (ts : Threads) (sc : Scheduling) (ids : List (ℕ × ℕ)) (tables : IsTables harts ts sc) (are : AreIdsApart ts ids)
    (idle : running_on h ts ≡ None) (lt : h < harts) where
  holder_once : (u : ℕ) → times u (holders ids) ≤ 1
  holder_once u = let is = are.held u in let most = once_most (is_run u ts) in omega (arith, is, most)

  on_some_hart : (u : ℕ) (b : Bool) → is_run u ts ≡ b → once b ≤ times u (crew harts ts)
  on_some_hart u false is = omega arith
  on_some_hart u true is =
      let at = run_state (state_of u ts) is in
      let below = tables.below u at.0 at.1 in
      on_crew harts at.0.0 u ts below (running_there harts at.0.0 u ts sc tables at.1)

  aboard : (u : ℕ) → times u (holders ids) ≤ times u (crew harts ts)
  aboard u = let is = are.held u in let there = on_some_hart u (is_run u ts) refl in omega (arith, is, there)

  pub fewer_than_harts : length ids < harts
  fewer_than_harts =
      let few = fits (holders ids) (crew harts ts) holder_once aboard in
      let crewed = crew_idle harts h ts lt idle in
      omega (arith, few, crewed, length-map ids (λ pair. pair.0))

  -- a ready thread is live, and holds none
  module _ (ready : its_ready (state_of t ts) ≡ true) where
    ready_stands : is_run t ts ≡ false
    ready_stands = ap its_run (ready_state (state_of t ts) ready)

    with_ready : (u : ℕ) → times u (t ∷ holders ids) ≤ once (is_some (thread_of u ts))
    with_ready u =
        let split = times_cons u t (holders ids) in
        let held = are.held u in
        let alive = run_lives (thread_of u ts) in
        elim (eqb_tells t u) [
          | inl p ↦
              let one = ap once p.0 in
              let none = are.held u ∙ ap once (ap (λ n. is_run n ts) (sym p.1) ∙ ready_stands) in
              let live = ap once (ready_lives (thread_of u ts) (ap (λ n. its_ready (state_of n ts)) (sym p.1) ∙ ready)) in
              omega (arith, split, one, none, live)
          | inr q ↦ let none = ap once q.0 in omega (arith, split, none, held, alive)
        ]

    pub fewer_than_live : length ids < length ts.live
    fewer_than_live =
        let once_only : (u : ℕ) → times u (t ∷ holders ids) ≤ 1 =
        λ u. let its = with_ready u in let most = once_most (is_some (thread_of u ts)) in omega (arith, its, most) in
        let all_live : (u : ℕ) → times u (t ∷ holders ids) ≤ times u (numbers ts.live) =
        λ u. let its = with_ready u in let there = numbered u ts.live in omega (arith, its, there) in
        let few = fits (t ∷ holders ids) (numbers ts.live) once_only all_live in
        omega (arith, few, length-map ids (λ pair. pair.0), length-map ts.live (λ (th : Thread). th.tid))

-- STEPS

-- the same threads run as before
pub ids_same : (ts us : Threads) (ids : List (ℕ × ℕ)) → ((t : ℕ) → is_run t us ≡ is_run t ts) → AreIdsApart ts ids → AreIdsApart us ids
ids_same ts us ids same are = record { held = λ t. are.held t ∙ sym (ap once (same t)); apart = are.apart; small = are.small }

-- a thread runs no more
pub filtered_less : {X : Type 0} (f : X → ℕ) (p : X → Bool) (xs : List X) (n : ℕ) → times n (map f (filter p xs)) ≤ times n (map f xs)
filtered_less f p [] n = omega arith
filtered_less f p (x ∷ xs) n =
    let rest = filtered_less f p xs n in
    let all = times_cons n (f x) (map f xs) in
    let some = times_cons n (f x) (map f (filter p xs)) in
    elim (p x) as (λ b. times n (map f (cond b (x ∷ filter p xs) (filter p xs))) ≤ times n (map f (x ∷ xs)))
    [ true ↦ omega (arith, rest, all, some) | false ↦ omega (arith, rest, all) ]

pub ids_stopped : (t : ℕ) (ts us : Threads) (ids : List (ℕ × ℕ)) → ((u : ℕ) → u ≢ t → is_run u us ≡ is_run u ts) → is_run t us ≡ false
    → AreIdsApart ts ids → AreIdsApart us (without_id t ids)
ids_stopped t ts us ids others gone are = record {
  held = λ u. ap (times u) (map_filters (λ (pair : ℕ × ℕ). pair.0) (λ k. not (eqb k t)) ids)
      ∙ taken t (holders ids) (λ u. is_run u ts) (λ u. is_run u us) are.held others gone u;
  apart = λ n. let less = filtered_less (λ (pair : ℕ × ℕ). pair.1) (λ pair. not (is_id_of t pair)) ids n in let most = are.apart n in omega (arith, less, most);
  small = All-filter (λ pair. not (is_id_of t pair)) IsSmall ids are.small;
}

-- a thread begins to run
pub ids_ran : (t : ℕ) (ts us : Threads) (ids : List (ℕ × ℕ)) → ((u : ℕ) → u ≢ t → is_run u us ≡ is_run u ts) → is_run t ts ≡ false → is_run t us ≡ true
    → length ids < 8 → AreIdsApart ts ids → AreIdsApart us (with_id t ids)
ids_ran t ts us ids others stood runs few are = record {
  held = λ u. ap (times u) (map_push (λ (pair : ℕ × ℕ). pair.0) ids (t, next_id ids))
      ∙ joined t (holders ids) (λ u. is_run u ts) (λ u. is_run u us) are.held others stood runs u;
  apart = apart;
  small =
      let low = next_low ids few in
      All-append IsSmall ids ((t, next_id ids) ∷ []) are.small (All-from_recursion IsSmall ((t, next_id ids) ∷ []) (omega (arith, low, few), tt));
}
  where
    apart : (n : ℕ) → times n (held (with_id t ids)) ≤ 1
    apart n =
        let pushed = ap (times n) (map_push (λ (pair : ℕ × ℕ). pair.1) ids (t, next_id ids)) in
        let split = times_push n (held ids) (next_id ids) in
        let one = times_cons n (next_id ids) [] in
        let most = are.apart n in
        elim (eqb_tells (next_id ids) n) [
          | inl p ↦
              let free = not_taken (next_id ids) ids (next_is ids few).free in
              let none : times n (held ids) ≡ 0 = ap (λ k. times k (held ids)) (sym p.1) ∙ free in
              let is = once_most (eqb (next_id ids) n) in
              omega (arith, pushed, split, one, none, is)
          | inr q ↦ let other = ap once q.0 in omega (arith, pushed, split, one, most, other)
        ]

-- WHAT HOLDS OF THEM

pub holder_there : (t : ℕ) (ts : Threads) (ids : List (ℕ × ℕ)) → AreIdsApart ts ids → is_run t ts ≡ true → list_any (is_id_of t) ids ≡ true
holder_there t ts ids are runs =
    any_of t ids ∙ any_from_times t (holders ids) true (are.held t ∙ ap once runs)

-- the id of a thread, where the first pair is its own or not
abbrev pub first_id : ℕ → ℕ × ℕ → List (ℕ × ℕ) → Bool → ℕ
first_id t x ids b = option_map_or (λ (pair : ℕ × ℕ). pair.1) (cond b (Some x) (find (is_id_of t) ids)) 0

-- who begins to run and held none holds the next id
found_last : (t : ℕ) (ids : List (ℕ × ℕ)) (y : ℕ × ℕ) → list_any (is_id_of t) ids ≡ false → eqb y.0 t ≡ true → id_of t (ids ++ y ∷ []) ≡ y.1
found_last t [] y none is = ap (λ b. option_map_or (λ (pair : ℕ × ℕ). pair.1) (cond b (Some y) None) 0) is
found_last t (x ∷ ids) y none is =
    let both = or_parts (eqb x.0 t) (list_any (is_id_of t) ids) none in
    ap (λ b. option_map_or (λ (pair : ℕ × ℕ). pair.1) (cond b (Some x) (find (is_id_of t) (ids ++ y ∷ []))) 0) both.0
    ∙ found_last t ids y both.1 is

pub id_now : (t : ℕ) (ts : Threads) (ids : List (ℕ × ℕ)) → AreIdsApart ts ids → is_run t ts ≡ false → id_of t (with_id t ids) ≡ next_id ids
id_now t ts ids are stands =
    let none = any_of t ids ∙ any_from_times t (holders ids) false (are.held t ∙ ap once stands) in
    found_last t ids (t, next_id ids) none (eqb_same t)
