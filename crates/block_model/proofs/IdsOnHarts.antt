-- The ids that are held are those of the threads that harts run.
use Rattle.block_model.proofs.Common.{ℕ, zero, suc, ◌<◌, ◌≤◌, ◌≡◌, ◌≢◌, ◌||◌, Bool, true, false, eqb, List, [], ◌∷◌, Option, Some, None, refl, sym, ap, ◌∙◌, subst, inl, inr, arith, AreIdsApart, IsTables, Scheduling, Threads, cases_lt, eqb-true, eqb_same, eqb_tells, false≢true, has_hart, has_hart-harts_that, held_ids, id_of, is_id_of, is_taken, list_any, lt-ltb, option_map_or, or_right, running_on, state_of, times, times_cons}
use Rattle.block_model.proofs.Ids.{first_id, holder_there, holders, in_set, is_run, its_run, once_most, run_state}
use Rattle.block_model.proofs.KernelCalls.{any_from_times}
use Rattle.block_model.proofs.KernelTables.{any_of, once, running_is, running_there}

-- WHO HOLDS AN ID

-- the id that a thread holds is taken
taken_there : (t : ℕ) (ids : List (ℕ × ℕ)) → list_any (is_id_of t) ids ≡ true → is_taken ids (id_of t ids) ≡ true
taken_there t [] is = absurd (false≢true is)
taken_there t (x ∷ ids) is = go (eqb x.0 t) (taken_there t ids) is
  where
    go : (b : Bool) → (list_any (is_id_of t) ids ≡ true → is_taken ids (id_of t ids) ≡ true) → (b || list_any (is_id_of t) ids) ≡ true
        → is_taken (x ∷ ids) (first_id t x ids b) ≡ true
    go true rest is = ap (λ b. b || is_taken ids x.1) (eqb_same x.1)
    go false rest is = or_right (eqb x.1 (id_of t ids)) (is_taken ids (id_of t ids)) (rest is)

-- thread t holds id n
abbrev Holds : List (ℕ × ℕ) → ℕ → ℕ → Type 0
Holds ids n t = (list_any (is_id_of t) ids ≡ true) × (id_of t ids ≡ n)

-- who holds one stands among the holders
stands : (t : ℕ) (ids : List (ℕ × ℕ)) → list_any (is_id_of t) ids ≡ true → 1 ≤ times t (holders ids)
stands t ids there = elim (cases_lt 0 (times t (holders ids))) [
  | inl some ↦ omega arith
  | inr none ↦
      let no : list_any (λ u. eqb u t) (holders ids) ≡ false = any_from_times t (holders ids) false (omega arith) in
      absurd (false≢true (sym (any_of t ids ∙ no) ∙ there))
]

-- an id that is taken has a holder, where nobody holds two
holder_of : (ids : List (ℕ × ℕ)) (n : ℕ) → ((t : ℕ) → times t (holders ids) ≤ 1) → is_taken ids n ≡ true → (t : ℕ) × Holds ids n t
holder_of [] n once_each is = absurd (false≢true is)
holder_of (x ∷ ids) n once_each is = go (eqb x.1 n) refl (holder_of ids n fewer) is
  where
    fewer : (t : ℕ) → times t (holders ids) ≤ 1
    fewer t = let all = once_each t in let split = times_cons t x.0 (holders ids) in omega (arith, all, split)

    other : (t : ℕ) → list_any (is_id_of t) ids ≡ true → eqb x.0 t ≡ false
    other t there = elim (eqb_tells x.0 t) [
      | inl p ↦
          let one = ap once p.0 in
          let all = once_each t in
          let split = times_cons t x.0 (holders ids) in
          let more = stands t ids there in
          absurd (omega (arith, one, all, split, more))
      | inr q ↦ q.0
    ]

    behind : (t : ℕ) → Holds ids n t → Holds (x ∷ ids) n t
    behind t found = (or_right (eqb x.0 t) (list_any (is_id_of t) ids) found.0, ap (first_id t x ids) (other t found.0) ∙ found.1)

    go : (b : Bool) → eqb x.1 n ≡ b → (is_taken ids n ≡ true → (t : ℕ) × Holds ids n t) → (b || is_taken ids n) ≡ true → (t : ℕ) × Holds (x ∷ ids) n t
    go true same rest is =
        (x.0, (ap (λ b. b || list_any (is_id_of x.0) ids) (eqb_same x.0), ap (first_id x.0 x ids) (eqb_same x.0) ∙ eqb-true x.1 n same))
    go false new rest is = let found = rest is in (found.0, behind found.0 found.1)

-- THREADS ON HARTS

-- a hart of the machine that runs a thread which holds id n
pub record IsHeldOnHart (harts : ℕ) (ts : Threads) (ids : List (ℕ × ℕ)) (n : ℕ) : Type 0 where
  pub hart : ℕ
  pub thread : ℕ
  pub lt : hart < harts
  pub runs : running_on hart ts ≡ Some thread
  pub holds : id_of thread ids ≡ n

-- whether the thread on a hart holds id n; an idle hart's holds none
abbrev pub is_held_by : List (ℕ × ℕ) → ℕ → Option ℕ → Bool
is_held_by ids n o = option_map_or (λ t. eqb (id_of t ids) n) o false

-- whether a thread on one of the first so many harts does
abbrev pub is_held_below : Threads → List (ℕ × ℕ) → ℕ → ℕ → Bool
is_held_below ts ids n zero = false
is_held_below ts ids n (suc h) = is_held_below ts ids n h || is_held_by ids n (running_on h ts)

some_below : (ts : Threads) (ids : List (ℕ × ℕ)) (n h t harts : ℕ) → h < harts → running_on h ts ≡ Some t → id_of t ids ≡ n → is_held_below ts ids n harts ≡ true
some_below ts ids n h t zero lt at holds = absurd (omega arith)
some_below ts ids n h t (suc k) lt at holds = elim (cases_lt h k) [
  | inl below ↦ ap (λ b. b || is_held_by ids n (running_on k ts)) (some_below ts ids n h t k below at holds)
  | inr same ↦
      let is : k ≡ h = omega arith in
      or_right (is_held_below ts ids n k) (is_held_by ids n (running_on k ts))
      (ap (λ j. is_held_by ids n (running_on j ts)) is ∙ ap (is_held_by ids n) at ∙ ap (λ m. eqb m n) holds ∙ eqb_same n)
]

module _ (harts : ℕ) (ts : Threads) (sc : Scheduling) (ids : List (ℕ × ℕ)) (tables : IsTables harts ts sc) (are : AreIdsApart ts ids) where
  -- the id of a thread that runs is taken
  pub id_is_taken : (h t : ℕ) → running_on h ts ≡ Some t → is_taken ids (id_of t ids) ≡ true
  id_is_taken h t at = taken_there t ids (holder_there t ts ids are (ap its_run (running_is harts h t ts sc tables at)))

  -- an id that is taken is that of a thread that runs
  pub taken_is_of : (n : ℕ) → is_taken ids n ≡ true → IsHeldOnHart harts ts ids n
  taken_is_of n is =
      let found = holder_of ids n once_each is in
      let runs : is_run found.0 ts ≡ true =
      sym (any_of found.0 ids ∙ any_from_times found.0 (holders ids) (is_run found.0 ts) (are.held found.0)) ∙ found.1.0 in
      let at = run_state (state_of found.0 ts) runs in
      record {
        hart = at.0.0;
        thread = found.0;
        lt = tables.below found.0 at.0 at.1;
        runs = running_there harts at.0.0 found.0 ts sc tables at.1;
        holds = found.1.1;
      }
    where
      once_each : (u : ℕ) → times u (holders ids) ≤ 1
      once_each u = let is = are.held u in let most = once_most (is_run u ts) in omega (arith, is, most)

  below_is_taken : (n k : ℕ) → is_held_below ts ids n k ≡ true → is_taken ids n ≡ true
  below_is_taken n zero is = absurd (false≢true is)
  below_is_taken n (suc k) is = go (is_held_below ts ids n k) (below_is_taken n k) (running_on k ts) refl is
    where
      go : (b : Bool) → (b ≡ true → is_taken ids n ≡ true) → (o : Option ℕ) → running_on k ts ≡ o → (b || is_held_by ids n o) ≡ true → is_taken ids n ≡ true
      go true before o at is = before refl
      go false before None at is = absurd (false≢true is)
      go false before (Some t) at is = subst (λ m. is_taken ids m ≡ true) (eqb-true (id_of t ids) n is) (id_is_taken k t at)

  -- so an id is taken where a thread on some hart of the machine holds it
  pub taken_on_harts : (n : ℕ) → is_taken ids n ≡ is_held_below ts ids n harts
  taken_on_harts n = go (is_taken ids n) refl (is_held_below ts ids n harts) refl
    where
      go : (a : Bool) → is_taken ids n ≡ a → (b : Bool) → is_held_below ts ids n harts ≡ b → a ≡ b
      go true is false below =
          let at = taken_is_of n is in
          absurd (false≢true (sym below ∙ some_below ts ids n at.hart at.thread harts at.lt at.runs at.holds))
      go false is true below = absurd (false≢true (sym is ∙ below_is_taken n harts below))
      go a is b below = refl

-- SETS OF IDS

-- a set of 8 in which one isn't taken isn't full
full_has : (n : ℕ) → n < 8 → has_hart 255 n ≡ true
full_has n low = has_hart-harts_that (λ m. true) 8 n ∙ lt-ltb n 8 low

pub not_full : (ids : List (ℕ × ℕ)) (n : ℕ) → n < 8 → is_taken ids n ≡ false → held_ids ids ≢ 255
not_full ids n low free full =
    absurd (false≢true (sym free ∙ sym (in_set ids n low) ∙ ap (λ set. has_hart set n) full ∙ full_has n low))
