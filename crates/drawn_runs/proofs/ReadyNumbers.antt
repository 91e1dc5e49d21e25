-- The ready threads by their numbers: those that stand there are ready, and each ready one does.
use Rattle.std.proofs.Common.{◌≡◌, ℕ, zero, suc, ◌+◌, ◌<◌, ◌≤◌, ◌&&◌, ◌||◌, Bool, true, false, cond, eqb, ltb, List, [], ◌∷◌, find, Option, Some, None, inl, inr, is_some, refl, sym, ap, ◌∙◌, subst, arith}
use Rattle.std.specs.List.{All, list_any}
use Rattle.std.specs.Option.{option_map, option_map_or}
use Rattle.std.proofs.lemmas.Bool.{and_parts, cases_eq, eq-eqb, eqb-true, false≢true, lt-ltb, ne_eqb}
use Rattle.std.proofs.lemmas.Bool.Decides.{nat_tests}
use Rattle.std.proofs.lemmas.List.Elements.{All-head, All-tail}
use Rattle.std.proofs.lemmas.List.Folds.{list_any-append}
use Rattle.mach_types.specs.Kernel.Threads.{IsThreads, Thread, Threads, is_ready, is_ready_state, is_thread, numbers}
use Rattle.drawings.specs.Scenes.{passing}
use Rattle.drawn_runs.specs.DrawnRuns.{ready_numbers}

-- whether the number that comes last, where it passes, is this one
last_other : (t n : ℕ) (b : Bool) → eqb n t ≡ false → list_any (λ u. eqb u t) (cond b (n ∷ []) []) ≡ false
last_other t n true other = ap (λ (c : Bool). c || false) other
last_other t n false other = refl

last_same : (t n : ℕ) (b : Bool) → eqb n t ≡ true → list_any (λ u. eqb u t) (cond b (n ∷ []) []) ≡ b
last_same t n true same = ap (λ (c : Bool). c || false) same
last_same t n false same = refl

or_off : (a b : Bool) → b ≡ false → (a || b) ≡ a
or_off true b off = refl
or_off false b off = off

-- so a number is among those below n that pass a test where it is below n and passes
among_last : (test : ℕ → Bool) (t n : ℕ) → n ≡ t → list_any (λ u. eqb u t) (passing test n) ≡ (ltb t n && test t)
    → (list_any (λ u. eqb u t) (passing test n) || list_any (λ u. eqb u t) (cond (test n) (n ∷ []) []))
    ≡ (ltb t (suc n) && test t)
among_last test t n same before =
    let past : ltb t n ≡ false = grind (arith, nat_tests) in
    let here : ltb t (suc n) ≡ true = grind (arith, nat_tests) in
    rw (before, past, here) (last_same t n (test n) (eq-eqb n t same) ∙ ap test same)

among_before : (test : ℕ → Bool) (t n : ℕ) → eqb n t ≡ false → list_any (λ u. eqb u t) (passing test n) ≡ (ltb t n && test t)
    → (list_any (λ u. eqb u t) (passing test n) || list_any (λ u. eqb u t) (cond (test n) (n ∷ []) []))
    ≡ (ltb t (suc n) && test t)
among_before test t n other before =
    let alike : ltb t n ≡ ltb t (suc n) = grind (arith, nat_tests) in
    or_off (list_any (λ u. eqb u t) (passing test n)) (list_any (λ u. eqb u t) (cond (test n) (n ∷ []) []))
    (last_other t n (test n) other)
    ∙ before ∙ ap (λ (b : Bool). b && test t) alike

among_passing : (test : ℕ → Bool) (t n : ℕ) → list_any (λ u. eqb u t) (passing test n) ≡ (ltb t n && test t)
among_passing test t zero = let none : ltb t 0 ≡ false = grind (arith, nat_tests) in rw none refl
among_passing test t (suc n) =
    list_any-append (λ u. eqb u t) (passing test n) (cond (test n) (n ∷ []) [])
    ∙ elim (cases_eq n t) [
      | inl same ↦ among_last test t n same (among_passing test t n)
      | inr other ↦ among_before test t n (ne_eqb n t other) (among_passing test t n)
    ]

-- the number of a live thread was given
given_step : (t given : ℕ) (th : Thread) (rest : Option Thread) (b : Bool) → eqb th.tid t ≡ b → th.tid ≤ given
    → (is_some rest ≡ true → t ≤ given) → is_some (cond b (Some th) rest) ≡ true → t ≤ given
given_step t given th rest true is low later live = subst (λ n. n ≤ given) (eqb-true th.tid t is) low
given_step t given th rest false is low later live = later live

given_of : (t given : ℕ) (live : List Thread) → All (λ t. (0 < t) × (t ≤ given)) (numbers live)
    → is_some (find (is_thread t) live) ≡ true → t ≤ given
given_of t given [] all live = absurd (false≢true live)
given_of t given (th ∷ ths) all live =
    given_step t given th (find (is_thread t) ths) (eqb th.tid t) refl
    (All-head (λ t. (0 < t) × (t ≤ given)) th.tid (numbers ths) all).1
    (given_of t given ths (All-tail (λ t. (0 < t) × (t ≤ given)) th.tid (numbers ths) all)) live

ready_is_live : (o : Option Thread) → option_map_or is_ready_state (option_map (λ th. th.state) o) false ≡ true → is_some o ≡ true
ready_is_live None ready = ready
ready_is_live (Some th) ready = refl

-- so those that stand there are the ready threads
pub listed_ready : (ts : Threads) (t : ℕ) → list_any (λ u. eqb u t) (ready_numbers ts) ≡ true → is_ready t ts ≡ true
listed_ready ts t listed =
    (and_parts (ltb t (ts.given + 1)) (is_ready t ts)
    (sym (among_passing (λ u. is_ready u ts) t (ts.given + 1)) ∙ listed)).1

pub ready_is_listed : (ts : Threads) (t : ℕ) → IsThreads ts → is_ready t ts ≡ true
    → list_any (λ u. eqb u t) (ready_numbers ts) ≡ true
ready_is_listed ts t holds ready =
    let given : t ≤ ts.given = given_of t ts.given ts.live holds.given (ready_is_live (find (is_thread t) ts.live) ready) in
    among_passing (λ u. is_ready u ts) t (ts.given + 1)
    ∙ ap (λ (b : Bool). b && is_ready t ts) (lt-ltb t (ts.given + 1) (omega arith)) ∙ ready
