-- The numbers below n that pass a test: each passes and is below n, and there is one where one passes.
use Rattle.std.proofs.Common.{◌≡◌, ℕ, zero, suc, ◌<◌, Bool, true, false, cond, ltb, List, [], ◌∷◌, ◌++◌, get_or, length, length-append, Option, Some, None, refl, sym, subst, arith}
use Rattle.std.specs.Prelude.{All, IfSome, slice_get}
use Rattle.std.proofs.lemmas.Bool.{ltb-false, ltb-true}
use Rattle.std.proofs.lemmas.List.Elements.{All-append, All-push}
use Rattle.std.proofs.lemmas.Option.{get_or_from_slice_get, slice_get_within}
use Rattle.drawings.specs.Scenes.{passing}

abbrev pub Passes : (ℕ → Bool) → ℕ → ℕ → Type 0
Passes test n h = (h < n) × (test h ≡ true)

-- of one that there may be
abbrev pub PassesIfSome : (ℕ → Bool) → ℕ → Option ℕ → Type 0
PassesIfSome test n None = Unit {0}
PassesIfSome test n (Some h) = Passes test n h

one_more : (test : ℕ → Bool) (xs : List ℕ) (n : ℕ) (b : Bool) → test n ≡ b → All (Passes test (suc n)) xs
    → All (Passes test (suc n)) (xs ++ cond b (n ∷ []) [])
one_more test xs n true is before = All-push (Passes test (suc n)) xs n before (omega arith, is)
one_more test xs n false is before = All-append (Passes test (suc n)) xs [] before (λ k d bad. absurd (omega arith))

all_pass : (test : ℕ → Bool) (n : ℕ) → All (Passes test n) (passing test n)
all_pass test zero = λ k d bad. absurd (omega arith)
all_pass test (suc n) =
    one_more test (passing test n) n (test n) refl
    (λ k d within.
    let passes : Passes test n (get_or (passing test n) k d) = all_pass test n k d within in
    let below : get_or (passing test n) k d < n = passes.0 in
    (omega arith, passes.1))

pub got_passes : (test : ℕ → Bool) (n k : ℕ) (o : Option ℕ) → slice_get (passing test n) k ≡ o → PassesIfSome test n o
got_passes test n k None e = tt
got_passes test n k (Some h) e =
    subst (Passes test n) (get_or_from_slice_get (passing test n) k h 0 e)
    (all_pass test n k 0 (slice_get_within (passing test n) k h e))

pub got_below : (test : ℕ → Bool) (n k : ℕ) (o : Option ℕ) → o ≡ slice_get (passing test n) k → IfSome o (λ h. h < n)
got_below test n k None e = tt
got_below test n k (Some h) e = (got_passes test n k (Some h) (sym e)).0

-- where one passes there is one
some_more : (test : ℕ → Bool) (n h : ℕ) (b : Bool) → ltb h n ≡ b → h < suc n → test h ≡ true → (h < n → 0 < length (passing test n))
    → 0 < length (passing test n ++ cond (test n) (n ∷ []) [])
some_more test n h true e below is before =
    let some : 0 < length (passing test n) = before (ltb-true h n e) in
    omega (arith, length-append (passing test n) (cond (test n) (n ∷ []) []))
some_more test n h false e below is before =
    let above = ltb-false h n e in
    let same : h ≡ n = omega (arith, above) in
    subst (λ (c : Bool). 0 < length (passing test n ++ cond c (n ∷ []) [])) (sym (subst (λ (m : ℕ). test m ≡ true) same is))
    (omega (arith, length-append (passing test n) (n ∷ [])))

pub passing_some : (test : ℕ → Bool) (n h : ℕ) → h < n → test h ≡ true → 0 < length (passing test n)
passing_some test zero h below is = absurd (omega arith)
passing_some test (suc n) h below is =
    some_more test n h (ltb h n) refl below is (λ under. passing_some test n h under is)
