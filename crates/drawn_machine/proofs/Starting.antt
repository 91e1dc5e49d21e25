-- The ready threads that may begin to run, found number by number: they are those among the ready ones, and not more than live.
use Rattle.std.proofs.Common.{◌≡◌, ℕ, zero, suc, ◌+◌, ◌<◌, ◌≤◌, ◌%◌, ◌^◌, ◌&&◌, ◌||◌, Bool, true, false, not, cond, eq-eqb, eqb, ltb, List, [], ◌∷◌, ◌++◌, filter, find, length, length-append, subst, Option, Some, None, inl, inr, is_some, refl, sym, ap, ◌∙◌, arith}
use Rattle.std.specs.List.{All, list_any}
use Rattle.std.specs.Option.{option_map, option_map_or}
use Rattle.std.proofs.lemmas.Bool.{and_from, and_parts, cases_eq, eqb-true, false≢true, le-ltb, lt-ltb, ne_eqb, or_parts, or_right}
use Rattle.std.proofs.lemmas.Bool.Decides.{nat_tests}
use Rattle.std.proofs.lemmas.List.Elements.{All-head, All-tail, filter-append}
use Rattle.mach_types.specs.Kernel.Scheduling.{Scheduling, affinity_of, has_hart}
use Rattle.mach_types.specs.Kernel.Threads.{IsThreads, Thread, Threads, is_ready, is_ready_state, is_thread, numbers}
use Rattle.block_model.specs.Tables.{IsTables}
use Rattle.block_model.proofs.Laws.{ready_listed}
use Rattle.drawn_runs.specs.DrawnRuns.{ready_numbers}
use Rattle.drawings.specs.Scenes.{may_begin, passing, startable}

-- those of the numbers that pass one test which pass another
last_of_both : (p q : ℕ → Bool) (n : ℕ) (b : Bool) → q n ≡ b
    → filter p (cond b (n ∷ []) []) ≡ cond (b && p n) (n ∷ []) []
last_of_both p q n true is = refl
last_of_both p q n false is = refl

pub filter-passing : (p q : ℕ → Bool) (n : ℕ) → filter p (passing q n) ≡ passing (λ t. q t && p t) n
filter-passing p q zero = refl
filter-passing p q (suc n) =
    filter-append p (passing q n) (cond (q n) (n ∷ []) [])
    ∙ ap (λ (xs : List ℕ). xs ++ filter p (cond (q n) (n ∷ []) [])) (filter-passing p q n)
    ∙ ap (λ (xs : List ℕ). passing (λ t. q t && p t) n ++ xs) (last_of_both p q n (q n) refl)

-- the threads that start are those that are ready and may
abbrev pub starts : Threads → Scheduling → ℕ → ℕ → ℕ → Bool
starts ts s opened h t = is_ready t ts && may_begin opened h (affinity_of t s)

pub all_startable : (ts : Threads) (s : Scheduling) (opened h : ℕ)
    → passing (starts ts s opened h) (ts.given + 1) ≡ startable opened h (record s { order = ready_numbers ts })
all_startable ts s opened h =
    sym (filter-passing (λ t. may_begin opened h (affinity_of t s)) (λ t. is_ready t ts) (ts.given + 1))

-- no thread has the number 0
none_zero : (given : ℕ) (live : List Thread) → All (λ t. (0 < t) × (t ≤ given)) (numbers live) → find (is_thread 0) live ≡ None
none_zero given [] all = refl
none_zero given (th ∷ ths) all =
    let some : 0 < th.tid = (All-head (λ t. (0 < t) × (t ≤ given)) th.tid (numbers ths) all).0 in
    let other : eqb th.tid 0 ≡ false = ne_eqb th.tid 0 (omega arith) in
    rw other (none_zero given ths (All-tail (λ t. (0 < t) × (t ≤ given)) th.tid (numbers ths) all))

zero_starts_not : (ts : Threads) (s : Scheduling) (opened h : ℕ) → IsThreads ts → starts ts s opened h 0 ≡ false
zero_starts_not ts s opened h holds = rw (none_zero ts.given ts.live holds.given) refl

pub none_so_far : (ts : Threads) (s : Scheduling) (opened h : ℕ) → IsThreads ts → [] ≡ passing (starts ts s opened h) (0 + 1)
none_so_far ts s opened h holds = ap (λ (b : Bool). cond b (0 ∷ []) []) (sym (zero_starts_not ts s opened h holds))

-- without one number that may be among them, there is at most one less
abbrev without : (ℕ → Bool) → ℕ → ℕ → Bool
without test x t = test t && not (eqb x t)

abbrev one_below : ℕ → ℕ → ℕ
one_below x n = cond (ltb x n) 1 0

same_below : (x n m : ℕ) (b : Bool) → ltb x n ≡ b → ltb x m ≡ b → one_below x n ≡ one_below x m
same_below x n m b one other = rw (one, other) refl

below_is : (x n : ℕ) (b : Bool) → ltb x n ≡ b → one_below x n ≡ cond b 1 0
below_is x n b is = rw is refl

length-last : (n : ℕ) (b : Bool) → length (cond b (n ∷ []) []) ≤ 1
length-last n true = omega arith
length-last n false = omega arith

last_same : (test : ℕ → Bool) (x n : ℕ) (b : Bool) → test n ≡ b → eqb x n ≡ false
    → length (cond b (n ∷ []) []) ≡ length (cond (without test x n) (n ∷ []) [])
last_same test x n true is other = rw (is, other) refl
last_same test x n false is other = rw is refl

one_less : (test : ℕ → Bool) (x n : ℕ) → length (passing test n) ≤ length (passing (without test x) n) + one_below x n
one_less test x zero = omega arith
one_less test x (suc n) =
    let before = one_less test x n in
    elim (cases_eq x n) [
      | inl same ↦
          let out : ltb x n ≡ false = grind (arith, nat_tests) in
          let here : ltb x (suc n) ≡ true = grind (arith, nat_tests) in
          omega (
            arith,
            before,
            below_is x n false out,
            below_is x (suc n) true here,
            length-last n (test n),
            length-append (passing test n) (cond (test n) (n ∷ []) []),
            length-append (passing (without test x) n) (cond (without test x n) (n ∷ []) []),
          )
      | inr apart ↦
          let alike : ltb x (suc n) ≡ ltb x n = grind (arith, nat_tests) in
          omega (
            arith,
            before,
            last_same test x n (test n) refl (ne_eqb x n apart),
            same_below x (suc n) n (ltb x n) alike refl,
            length-append (passing test n) (cond (test n) (n ∷ []) []),
            length-append (passing (without test x) n) (cond (without test x n) (n ∷ []) []),
          )
    ]

one_at_most : (x n : ℕ) (b : Bool) → ltb x n ≡ b → cond b 1 0 ≤ 1
one_at_most x n true is = omega arith
one_at_most x n false is = omega arith

-- so numbers that are all those of threads aren't more than these
abbrev AreOf : (ℕ → Bool) → List Thread → Type 0
AreOf test live = (t : ℕ) → test t ≡ true → is_some (find (is_thread t) live) ≡ true

none_last : (test : ℕ → Bool) (n : ℕ) (b : Bool) → AreOf test [] → test n ≡ b → length (cond b (n ∷ []) []) ≤ 0
none_last test n true are is = absurd (false≢true (are n is))
none_last test n false are is = omega arith

none_pass : (test : ℕ → Bool) (n : ℕ) → AreOf test [] → length (passing test n) ≤ 0
none_pass test zero are = omega arith
none_pass test (suc n) are =
    omega (arith, none_pass test n are, none_last test n (test n) are refl, length-append (passing test n) (cond (test n) (n ∷ []) []))

found_later : (x : Thread) (xs : List Thread) (t : ℕ) (b : Bool) → eqb x.tid t ≡ b → not b ≡ true
    → is_some (cond b (Some x) (find (is_thread t) xs)) ≡ true → is_some (find (is_thread t) xs) ≡ true
found_later x xs t true is other found = absurd (false≢true other)
found_later x xs t false is other found = found

are_later : (test : ℕ → Bool) (x : Thread) (xs : List Thread) → AreOf test (x ∷ xs) → AreOf (without test x.tid) xs
are_later test x xs are t passes =
    let both = and_parts (test t) (not (eqb x.tid t)) passes in
    found_later x xs t (eqb x.tid t) refl both.1 (are t both.0)

few_pass : (test : ℕ → Bool) (live : List Thread) (n : ℕ) → AreOf test live → length (passing test n) ≤ length live
few_pass test [] n are = none_pass test n are
few_pass test (x ∷ xs) n are =
    let later : length (passing (without test x.tid) n) ≤ length xs = few_pass (without test x.tid) xs n (are_later test x xs are) in
    omega (arith, later, one_less test x.tid n, one_at_most x.tid n (ltb x.tid n) refl)

-- a ready thread is live
ready_live : (o : Option Thread) → option_map_or is_ready_state (option_map (λ th. th.state) o) false ≡ true → is_some o ≡ true
ready_live None ready = ready
ready_live (Some th) ready = refl

starts_few : (ts : Threads) (s : Scheduling) (opened h n : ℕ) → length (passing (starts ts s opened h) n) ≤ length ts.live
starts_few ts s opened h n =
    few_pass (starts ts s opened h) ts.live n
    (λ t both. ready_live (find (is_thread t) ts.live) (and_parts (is_ready t ts) (may_begin opened h (affinity_of t s)) both).0)

-- where one more starts, fewer did so far
pub has_room : (ts : Threads) (s : Scheduling) (opened h n most : ℕ) (items : List ℕ) → length ts.live ≤ most
    → items ≡ passing (starts ts s opened h) n → starts ts s opened h n ≡ true → length items < most
has_room ts s opened h n most items few so_far passes =
    let all : length (passing (starts ts s opened h) n ++ cond (starts ts s opened h n) (n ∷ []) []) ≤ length ts.live =
    starts_few ts s opened h (suc n) in
    let next : length (cond (starts ts s opened h n) (n ∷ []) []) ≡ 1 =
    ap (λ (b : Bool). length (cond b (n ∷ []) [])) passes in
    omega (
      arith,
      few,
      all,
      next,
      ap (λ (xs : List ℕ). length xs) so_far,
      length-append (passing (starts ts s opened h) n) (cond (starts ts s opened h n) (n ∷ []) []),
    )

-- where a number below passes a test, some do
some_pass : (test : ℕ → Bool) (n k : ℕ) → k < n → test k ≡ true → 0 < length (passing test n)
some_pass test zero k below passes = absurd (omega arith)
some_pass test (suc n) k below passes =
    elim (cases_eq k n) [
      | inl same ↦
          let one : length (cond (test n) (n ∷ []) []) ≡ 1 =
          ap (λ (b : Bool). length (cond b (n ∷ []) [])) (subst (λ (m : ℕ). test m ≡ true) same passes) in
          omega (arith, one, length-append (passing test n) (cond (test n) (n ∷ []) []))
      | inr apart ↦
          let less : k < n = grind (arith, nat_tests) in
          omega (arith, some_pass test n k less passes, length-append (passing test n) (cond (test n) (n ∷ []) []))
    ]

-- whether one can start is found number by number
pub one_starts : (ts : Threads) (s : Scheduling) (opened h k : ℕ) → k < ts.given + 1 → starts ts s opened h k ≡ true
    → ltb 0 (length (startable opened h (record s { order = ready_numbers ts }))) ≡ true
one_starts ts s opened h k below passes =
    sym (ap (λ (xs : List ℕ). ltb 0 (length xs)) (all_startable ts s opened h))
    ∙ lt-ltb 0 (length (passing (starts ts s opened h) (ts.given + 1))) (some_pass (starts ts s opened h) (ts.given + 1) k below passes)

pub none_starts : (ts : Threads) (s : Scheduling) (opened h : ℕ) → [] ≡ passing (starts ts s opened h) (ts.given + 1)
    → ltb 0 (length (startable opened h (record s { order = ready_numbers ts }))) ≡ false
none_starts ts s opened h none = sym (ap (λ (xs : List ℕ). ltb 0 (length xs)) (none ∙ all_startable ts s opened h))

-- one that passes is found among them where some do, and none is where none does
abbrev IsFound : (ℕ → Bool) → List ℕ → Type 0
IsFound p xs = (t : ℕ) × (p t ≡ true) × (list_any (λ u. eqb u t) xs ≡ true)

one_found : (p : ℕ → Bool) (xs : List ℕ) → list_any p xs ≡ true → IsFound p xs
one_found p [] has = absurd (false≢true has)
one_found p (u ∷ xs) has = go (p u) refl has (λ some. one_found p xs some)
  where
    go : (b : Bool) → p u ≡ b → (b || list_any p xs) ≡ true → (list_any p xs ≡ true → IsFound p xs) → IsFound p (u ∷ xs)
    go true is some later = (u, is, ap (λ c. c || list_any (λ v. eqb v u) xs) (eq-eqb u u refl))
    go false is some later =
        let found : IsFound p xs = later some in
        (found.0, found.1, or_right (eqb u found.0) (list_any (λ v. eqb v found.0) xs) found.2)

none_found : (p : ℕ → Bool) (xs : List ℕ) (t : ℕ) → list_any p xs ≡ false → list_any (λ u. eqb u t) xs ≡ true → p t ≡ false
none_found p [] t none has = absurd (false≢true has)
none_found p (u ∷ xs) t none has = go (eqb u t) refl (or_parts (p u) (list_any p xs) none) has (λ gone there. none_found p xs t gone there)
  where
    go : (c : Bool) → eqb u t ≡ c → (p u ≡ false) × (list_any p xs ≡ false) → (c || list_any (λ v. eqb v t) xs) ≡ true
        → (list_any p xs ≡ false → list_any (λ v. eqb v t) xs ≡ true → p t ≡ false) → p t ≡ false
    go true at parts there later = subst (λ (n : ℕ). p n ≡ false) (eqb-true u t at) parts.0
    go false at parts there later = later parts.1 there

-- the number of a thread that is live was given
given_above : (given t : ℕ) (live : List Thread) → All (λ u. (0 < u) × (u ≤ given)) (numbers live) → is_some (find (is_thread t) live) ≡ true → t ≤ given
given_above given t [] all found = absurd (false≢true found)
given_above given t (th ∷ ths) all found =
    go (eqb th.tid t) refl found (All-head (λ u. (0 < u) × (u ≤ given)) th.tid (numbers ths) all).1
    (λ there. given_above given t ths (All-tail (λ u. (0 < u) × (u ≤ given)) th.tid (numbers ths) all) there)
  where
    go : (c : Bool) → eqb th.tid t ≡ c → is_some (cond c (Some th) (find (is_thread t) ths)) ≡ true → th.tid ≤ given
        → (is_some (find (is_thread t) ths) ≡ true → t ≤ given) → t ≤ given
    go true at some here later = subst (λ (n : ℕ). n ≤ given) (eqb-true th.tid t at) here
    go false at some here later = later some

none_passes : (test : ℕ → Bool) (n : ℕ) → ((t : ℕ) → test t ≡ false) → [] ≡ passing test n
none_passes test zero none = refl
none_passes test (suc n) none = rw (none n, ← none_passes test n none) refl

-- so one may begin exactly where one of the ready list may
abbrev may : Scheduling → ℕ → ℕ → ℕ → Bool
may s opened h t = may_begin opened h (affinity_of t s)

starts_not : (harts : ℕ) (ts : Threads) (s : Scheduling) (opened h t : ℕ) → IsTables harts ts s → list_any (may s opened h) s.order ≡ false
    → starts ts s opened h t ≡ false
starts_not harts ts s opened h t holds none = go (is_ready t ts) refl
  where
    go : (b : Bool) → is_ready t ts ≡ b → (b && may_begin opened h (affinity_of t s)) ≡ false
    go false is = refl
    go true is = none_found (may s opened h) s.order t none (ready_listed harts t ts s holds ∙ is)

pub listed_begin : (harts : ℕ) (ts : Threads) (s : Scheduling) (opened h : ℕ) → IsTables harts ts s
    → ltb 0 (length (startable opened h (record s { order = ready_numbers ts }))) ≡ list_any (may s opened h) s.order
listed_begin harts ts s opened h holds = go (list_any (may s opened h) s.order) refl
  where
    go : (b : Bool) → list_any (may s opened h) s.order ≡ b → ltb 0 (length (startable opened h (record s { order = ready_numbers ts }))) ≡ b
    go false none = none_starts ts s opened h (none_passes (starts ts s opened h) (ts.given + 1) (λ t. starts_not harts ts s opened h t holds none))
    go true some =
        let found = one_found (may s opened h) s.order some in
        let ready : is_ready found.0 ts ≡ true = sym (ready_listed harts found.0 ts s holds) ∙ found.2 in
        let given = given_above ts.given found.0 ts.live holds.threads.given (ready_live (find (is_thread found.0) ts.live) ready) in
        one_starts ts s opened h found.0 (omega arith) (and_from (is_ready found.0 ts) (may s opened h found.0) ready found.1)

-- of a hart that is open no more is asked than that the thread may run there, of another that it may run on none that is open
pub open_bar : (opened h set : ℕ) → h < opened → (has_hart set h && eqb (set % 2 ^ 0) 0) ≡ may_begin opened h set
open_bar opened h set is =
    let none : set % 2 ^ 0 ≡ 0 = omega arith in
    rw (lt-ltb h opened is) (ap (λ (n : ℕ). has_hart set h && eqb n 0) none)

pub shut_bar : (opened h set : ℕ) → opened ≤ h → (has_hart set h && eqb (set % 2 ^ opened) 0) ≡ may_begin opened h set
shut_bar opened h set is = rw (le-ltb h opened is) refl
