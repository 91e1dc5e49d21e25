-- The first place at which a test passes.
use Rattle.std.proofs.Common.{◌≡◌, ℕ, zero, suc, ◌+◌, ◌<◌, Bool, true, false, List, [], ◌∷◌, length, take, get_or, Some, None, refl, sym, ap, ◌∙◌, arith}
use Rattle.std.specs.List.{enumerate_from, position, position_from}
use Rattle.std.proofs.lemmas.Iterator.Adapters.{position_from-zero}
use Rattle.std.proofs.lemmas.List.FromFn.{get_or-enumerate_from, length-enumerate_from}
use Rattle.elf_load.specs.declared.program_headers.ProgramHeader.{ProgramHeader}
use Rattle.elf_load.specs.Faults.{overlaps, shares_page}

-- the test passes at i, and at no earlier place
position_from-at : {X : Type 0} (p : X → Bool) (n : ℕ) (xs : List X) (i : ℕ) (d : X) → i < length xs → p (get_or xs i d) ≡ true → ((k : ℕ) → k < i → p (get_or xs k d) ≡ false) → position_from p n xs ≡ Some (n + i)
position_from-at p n [] i d lt here before = absurd (omega arith)
position_from-at p n (x ∷ xs) zero d lt here before =
    let place : n ≡ n + 0 = omega arith in
    rw here (ap (λ (k : ℕ). Some k) place)
position_from-at p n (x ∷ xs) (suc i) d lt here before =
    let first : p x ≡ false = before 0 (omega arith) in
    let rest = position_from-at p (n + 1) xs i d (omega arith) here (λ k h. before (suc k) (omega arith)) in
    let place : (n + 1) + i ≡ n + suc i = omega arith in
    rw first (rest ∙ ap (λ (k : ℕ). Some k) place)

-- the test passes nowhere
position_from-none : {X : Type 0} (p : X → Bool) (n : ℕ) (xs : List X) (d : X) → ((k : ℕ) → k < length xs → p (get_or xs k d) ≡ false) → position_from p n xs ≡ None
position_from-none p n [] d never = refl
position_from-none p n (x ∷ xs) d never =
    let first : p x ≡ false = never 0 (omega arith) in
    rw first (position_from-none p (n + 1) xs d (λ k h. never (suc k) (omega arith)))

pub position-at : {X : Type 0} (p : X → Bool) (xs : List X) (i : ℕ) (d : X) → i < length xs → p (get_or xs i d) ≡ true → ((k : ℕ) → k < i → p (get_or xs k d) ≡ false) → position p xs ≡ Some i
position-at p xs i d lt here before =
    let place : 0 + i ≡ i = omega arith in
    position_from-zero p xs ∙ position_from-at p 0 xs i d lt here before ∙ ap (λ (k : ℕ). Some k) place

pub position-none : {X : Type 0} (p : X → Bool) (xs : List X) (d : X) → ((k : ℕ) → k < length xs → p (get_or xs k d) ≡ false) → position p xs ≡ None
position-none p xs d never = position_from-zero p xs ∙ position_from-none p 0 xs d never

-- where no place was found, the test passes nowhere
position_from-never : {X : Type 0} (p : X → Bool) (n : ℕ) (xs : List X) → position_from p n xs ≡ None → (k : ℕ) (d : X) → k < length xs → p (get_or xs k d) ≡ false
position_from-never p n [] none = λ k d lt. absurd (omega arith)
position_from-never {X = X} p n (x ∷ xs) none = go (p x) refl (λ e. position_from-never p (n + 1) xs e)
  where
    go : (b : Bool) → p x ≡ b → (position_from p (n + 1) xs ≡ None → (k : ℕ) (d : X) → k < length xs → p (get_or xs k d) ≡ false) → (k : ℕ) (d : X) → k < length (x ∷ xs) → p (get_or (x ∷ xs) k d) ≡ false
    go true e rest k d lt = let found = rw e at none in absurd (cc)
    go false e rest zero d lt = e
    go false e rest (suc k) d lt = rest (rw e at none) k d (omega arith)

pub position-never : {X : Type 0} (p : X → Bool) (xs : List X) → position p xs ≡ None → (k : ℕ) (d : X) → k < length xs → p (get_or xs k d) ≡ false
position-never p xs none = position_from-never p 0 xs (sym (position_from-zero p xs) ∙ none)

-- a header beside its index
overlaps-at : (headers : List ProgramHeader) (k : ℕ) (d : ProgramHeader) (b : Bool) → k < length headers → shares_page (take k headers) (get_or headers k d) ≡ b → overlaps headers (get_or (enumerate_from 0 headers) k (0, d)) ≡ b
overlaps-at headers k d b lt e =
    let place : 0 + k ≡ k = omega arith in
    ap (overlaps headers) (get_or-enumerate_from 0 headers k (0, d) lt) ∙ ap (λ (j : ℕ). shares_page (take j headers) (get_or headers k d)) place ∙ e

pub first_overlap-at : (headers : List ProgramHeader) (k : ℕ) (d : ProgramHeader) → k < length headers → shares_page (take k headers) (get_or headers k d) ≡ true → ((j : ℕ) → j < k → shares_page (take j headers) (get_or headers j d) ≡ false) → position (overlaps headers) (enumerate_from 0 headers) ≡ Some k
first_overlap-at headers k d lt here before =
    position-at (overlaps headers) (enumerate_from 0 headers) k (0, d) (omega (arith, length-enumerate_from 0 headers)) (overlaps-at headers k d true lt here) (λ j h. overlaps-at headers j d false (omega arith) (before j h))

pub first_overlap-none : (headers : List ProgramHeader) (d : ProgramHeader) → ((k : ℕ) → k < length headers → shares_page (take k headers) (get_or headers k d) ≡ false) → position (overlaps headers) (enumerate_from 0 headers) ≡ None
first_overlap-none headers d never =
    position-none (overlaps headers) (enumerate_from 0 headers) (0, d) (λ k h. let lt : k < length headers = omega (arith, length-enumerate_from 0 headers) in overlaps-at headers k d false lt (never k lt))
