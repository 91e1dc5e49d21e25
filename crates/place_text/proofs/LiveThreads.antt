-- The live threads, found by their numbers in rising order.
use Rattle.std.proofs.Common.{◌≡◌, ℕ, suc, ◌+◌, ◌<◌, ◌≤◌, Bool, true, false, List, [], ◌∷◌, ◌++◌, map, filter, find, Option, Some, None, nat_le, inl, inr, refl, sym, ap, ◌∙◌, subst, append-nil, arith}
use Rattle.std.specs.List.{All, AllByRecursion}
use Rattle.std.specs.List.Sorted.{IsStrictlyIncreasing}
use Rattle.std.specs.Option.{option_map}
use Rattle.std.proofs.lemmas.Bool.{cases_eq, cases_order}
use Rattle.std.proofs.lemmas.Bool.Decides.{nat_tests}
use Rattle.std.proofs.lemmas.List.{map-append}
use Rattle.mach_types.specs.Kernel.Threads.{Thread, Threads, IsThreads, is_thread, numbers, state_of}
use Rattle.mach_types.specs.declared.threads.ThreadState.{ThreadState}
use Rattle.kernel_threads.specs.Table.{SavedList}
use Rattle.place_text.specs.Live.{saved_pc, told, told_of}
use Rattle.place_text.specs.Threads.{Told}
use Rattle.place_text.specs.declared.threads.LiveThread.{LiveThread}

-- whether a thread's number isn't past n
abbrev pub is_given : ℕ → Thread → Bool
is_given n th = nat_le th.tid n

-- each number is below all later ones
abbrev pub Rises : List Thread → Type 0
Rises [] = Unit {0}
Rises (x ∷ xs) = AllByRecursion (λ y. x.tid < y.tid) xs × Rises xs

above : (x y : ℕ) (xs : List Thread) → x < y → AllByRecursion (λ th. y < th.tid) xs → AllByRecursion (λ th. x < th.tid) xs
above x y [] lt all = tt
above x y (z ∷ zs) lt all = let here = all.0 in (omega arith, above x y zs lt all.1)

later_rise : (x : ℕ) (xs : List ℕ) → IsStrictlyIncreasing (x ∷ xs) → IsStrictlyIncreasing xs
later_rise x xs up k lt =
    let e : suc k + 1 ≡ suc (k + 1) = omega arith in
    rw e at (up (suc k) (omega arith))

pub rises : (xs : List Thread) → IsStrictlyIncreasing (numbers xs) → Rises xs
rises [] up = tt
rises (x ∷ []) up = (tt, tt)
rises (x ∷ y ∷ ys) up =
    let first : x.tid < y.tid = up 0 (omega arith) in
    let later : Rises (y ∷ ys) = rises (y ∷ ys) (later_rise x.tid (numbers (y ∷ ys)) up) in
    ((first, above x.tid y.tid ys first later.0), later)

-- none of threads whose numbers are past n
none_given : (n : ℕ) (xs : List Thread) → AllByRecursion (λ th. n < th.tid) xs → filter (is_given n) xs ≡ []
none_given n [] all = refl
none_given n (x ∷ xs) all =
    let out : is_given n x ≡ false = (let past : n < x.tid = all.0 in grind (arith, nat_tests)) in
    rw out (none_given n xs all.1)

none_found : (n : ℕ) (xs : List Thread) → AllByRecursion (λ th. n < th.tid) xs → find (is_thread n) xs ≡ None
none_found n [] all = refl
none_found n (x ∷ xs) all =
    let other : is_thread n x ≡ false = (let past : n < x.tid = all.0 in grind (arith, nat_tests)) in
    rw other (none_found n xs all.1)

-- a thread, where there is one
abbrev listed : Option Thread → List Thread
listed None = []
listed (Some th) = th ∷ []

-- the threads with numbers up to n + 1 are those up to n, and the one with number n + 1 where it is live
abbrev HasOneMore : ℕ → List Thread → Type 0
HasOneMore n xs = filter (is_given (n + 1)) xs ≡ filter (is_given n) xs ++ listed (find (is_thread (n + 1)) xs)

given_here : (n : ℕ) (x : Thread) (xs : List Thread) → Rises (x ∷ xs) → x.tid ≤ n → HasOneMore n xs → HasOneMore n (x ∷ xs)
given_here n x xs up le later =
    let in_more : is_given (n + 1) x ≡ true = grind (arith, nat_tests) in
    let in_less : is_given n x ≡ true = grind (arith, nat_tests) in
    let other : is_thread (n + 1) x ≡ false = grind (arith, nat_tests) in
    rw (in_more, in_less, other) (ap (λ ys. x ∷ ys) later)

given_next : (n : ℕ) (x : Thread) (xs : List Thread) → Rises (x ∷ xs) → x.tid ≡ n + 1 → HasOneMore n (x ∷ xs)
given_next n x xs up is =
    let in_more : is_given (n + 1) x ≡ true = grind (arith, nat_tests) in
    let out : is_given n x ≡ false = grind (arith, nat_tests) in
    let same : is_thread (n + 1) x ≡ true = grind (arith, nat_tests) in
    let none_more = none_given (n + 1) xs (subst (λ m. AllByRecursion (λ th. m < th.tid) xs) is up.0) in
    let none = none_given n xs (above n x.tid xs (omega arith) up.0) in
    rw (in_more, out, same) (ap (λ ys. x ∷ ys) none_more ∙ ap (λ ys. ys ++ x ∷ []) (sym none))

given_past : (n : ℕ) (x : Thread) (xs : List Thread) → Rises (x ∷ xs) → n + 1 < x.tid → HasOneMore n (x ∷ xs)
given_past n x xs up past =
    let none_more = none_given (n + 1) (x ∷ xs) (past, above (n + 1) x.tid xs past up.0) in
    let none = none_given n (x ∷ xs) (omega arith, above n x.tid xs (omega arith) up.0) in
    let found = none_found (n + 1) (x ∷ xs) (past, above (n + 1) x.tid xs past up.0) in
    none_more ∙ ap (λ ys. ys ++ []) (sym none) ∙ ap (λ o. filter (is_given n) (x ∷ xs) ++ listed o) (sym found)

given_more : (n : ℕ) (xs : List Thread) → Rises xs → HasOneMore n xs
given_more n [] up = refl
given_more n (x ∷ xs) up = elim (cases_order x.tid (n + 1)) [
  | inl is ↦ given_next n x xs up is
  | inr apart ↦ elim apart [
    | inl less ↦ given_here n x xs up (omega arith) (given_more n xs up.1)
    | inr past ↦ given_past n x xs up past
  ]
]

-- no number is 0, and all are given
none_at_start : (given : ℕ) (xs : List Thread) → All (λ t. (0 < t) × (t ≤ given)) (numbers xs) → filter (is_given 0) xs ≡ []
none_at_start given [] all = refl
none_at_start given (x ∷ xs) all =
    let some : 0 < x.tid = (all 0 0 (omega arith)).0 in
    let out : is_given 0 x ≡ false = grind (arith, nat_tests) in
    rw out (none_at_start given xs (λ k d lt. all (suc k) d (omega arith)))

all_given : (given : ℕ) (xs : List Thread) → All (λ t. (0 < t) × (t ≤ given)) (numbers xs) → filter (is_given given) xs ≡ xs
all_given given [] all = refl
all_given given (x ∷ xs) all =
    let few : x.tid ≤ given = (all 0 0 (omega arith)).1 in
    let in_all : is_given given x ≡ true = grind (arith, nat_tests) in
    rw in_all (ap (λ ys. x ∷ ys) (all_given given xs (λ k d lt. all (suc k) d (omega arith))))

-- what is told of the threads with numbers up to n, where this was saved of those that don't run
abbrev pub told_up_to : SavedList → ℕ → List Thread → List Told
told_up_to saved n live = map (told_of saved) (filter (is_given n) live)

-- what is told of a thread in a state, where there is one
abbrev told_in : SavedList → ℕ → Option ThreadState → List Told
told_in saved t None = []
told_in saved t (Some state) = record { tid = t; state = state; pc = saved_pc saved t } ∷ []

told_found : (saved : SavedList) (t : ℕ) (xs : List Thread)
    → map (told_of saved) (listed (find (is_thread t) xs)) ≡ told_in saved t (option_map (λ th. th.state) (find (is_thread t) xs))
told_found saved t [] = refl
told_found saved t (x ∷ xs) = elim (cases_eq x.tid t) [
  | inl is ↦
      let same : is_thread t x ≡ true = grind (arith, nat_tests) in
      rw same (ap (λ (n : ℕ). told_in saved n (Some x.state)) is)
  | inr differs ↦
      let other : is_thread t x ≡ false = grind (arith, nat_tests) in
      rw other (told_found saved t xs)
]

told_more : (saved : SavedList) (n : ℕ) (ts : Threads) → IsThreads ts
    → told_up_to saved (n + 1) ts.live ≡ told_up_to saved n ts.live ++ told_in saved (n + 1) (state_of (n + 1) ts)
told_more saved n ts h =
    ap (map (told_of saved)) (given_more n ts.live (rises ts.live h.rising))
    ∙ map-append (told_of saved) (filter (is_given n) ts.live) (listed (find (is_thread (n + 1)) ts.live))
    ∙ ap (λ l. told_up_to saved n ts.live ++ l) (told_found saved (n + 1) ts.live)

-- at the start none, and at the last number all
pub told_at_start : (saved : SavedList) (ts : Threads) → IsThreads ts → told_up_to saved 0 ts.live ≡ []
told_at_start saved ts h = ap (map (told_of saved)) (none_at_start ts.given ts.live h.given)

pub told_at_end : (saved : SavedList) (ts : Threads) → IsThreads ts → told_up_to saved ts.given ts.live ≡ map (told_of saved) ts.live
told_at_end saved ts h = ap (map (told_of saved)) (all_given ts.given ts.live h.given)

-- one number more: of a live thread, and of none
pub live_more : (saved : SavedList) (before after : List LiveThread) (x : LiveThread) (n : ℕ) (ts : Threads) → IsThreads ts
    → map told before ≡ told_up_to saved n ts.live → x.tid.0 ≡ n + 1 → state_of (n + 1) ts ≡ Some x.state
    → x.pc ≡ saved_pc saved (n + 1) → after ≡ before ++ x ∷ [] → map told after ≡ told_up_to saved (n + 1) ts.live
live_more saved before after x n ts h so_far number is rests pushed =
    let this : told x ≡ record { tid = n + 1; state = x.state; pc = saved_pc saved (n + 1) } =
    (λ i. record { tid = number i; state = x.state; pc = rests i }) in
    ap (map told) pushed ∙ map-append told before (x ∷ []) ∙ ap (λ l. l ++ told x ∷ []) so_far
    ∙ ap (λ (one : Told). told_up_to saved n ts.live ++ one ∷ []) this
    ∙ ap (λ o. told_up_to saved n ts.live ++ told_in saved (n + 1) o) (sym is)
    ∙ sym (told_more saved n ts h)

pub none_more : (saved : SavedList) (before : List LiveThread) (n : ℕ) (ts : Threads) → IsThreads ts
    → map told before ≡ told_up_to saved n ts.live → state_of (n + 1) ts ≡ None → map told before ≡ told_up_to saved (n + 1) ts.live
none_more saved before n ts h so_far is =
    so_far ∙ sym (append-nil (told_up_to saved n ts.live))
    ∙ ap (λ o. told_up_to saved n ts.live ++ told_in saved (n + 1) o) (sym is) ∙ sym (told_more saved n ts h)
