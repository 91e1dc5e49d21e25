-- The frames of a holder, where one is taken, written or given back.
use Rattle.std.proofs.Common.{◌≡◌, ◌≢◌, ℕ, zero, suc, ◌+◌, ◌≤◌, List, [], ◌∷◌, ◌++◌, Option, Some, None, length, slice_get, slice_set, refl, sym, ap, ◌∙◌, subst, arith, ⊎_elim}
use Rattle.std.proofs.lemmas.Bool.{cases_eq}
use Rattle.std.proofs.lemmas.List.{set-set, set_comm}
use Rattle.frame_pool.proofs.Counting.{taken_count-giving}
use Rattle.frame_pool.proofs.Holding.{IsTaken-apart, IsTaken-here, IsTaken-kept, IsTaken-other}
use Rattle.frame_pool.proofs.Places.{slice_get-set_other, slice_get-set_same}
use Rattle.frame_pool.specs.Held.{AreHeld}
use Rattle.frame_pool.specs.Pool.{IsTaken, taken_count}

-- once a taken frame is given back, what is taken is another one
given_apart : (pool : List (Option (List ℕ))) (m n : ℕ) → IsTaken pool m → IsTaken (slice_set pool m None) n → n ≢ m
given_apart pool m n held later = IsTaken-apart (slice_set pool m None) m n later (slice_get-set_same pool m (Some held.0) None held.1)

taken_before : (pool : List (Option (List ℕ))) (m n : ℕ) → IsTaken pool m → IsTaken (slice_set pool m None) n → IsTaken pool n
taken_before pool m n held later =
    (later.0, sym (slice_get-set_other pool m n None (given_apart pool m n held later)) ∙ later.1)

-- each of them is taken
pub AreHeld-at : (pool : List (Option (List ℕ))) (frames : List ℕ) (k n : ℕ) → AreHeld pool frames → slice_get frames k ≡ Some n
    → IsTaken pool n
AreHeld-at pool [] k n held at = absurd (cc)
AreHeld-at pool (m ∷ rest) zero n held at = let same : m ≡ n = cc in subst (λ (k : ℕ). IsTaken pool k) same held.0
AreHeld-at pool (m ∷ rest) (suc k) n held at =
    taken_before pool m n held.0 (AreHeld-at (slice_set pool m None) rest k n held.1 at)

-- the last one is given back
pub AreHeld-last : (pool : List (Option (List ℕ))) (rest : List ℕ) (n : ℕ) → AreHeld pool (rest ++ n ∷ [])
    → IsTaken pool n × AreHeld (slice_set pool n None) rest
AreHeld-last pool [] n held = held
AreHeld-last pool (m ∷ rest) n held =
    let later = AreHeld-last (slice_set pool m None) rest n held.1 in
    let two : n ≢ m = given_apart pool m n held.0 later.0 in (
      taken_before pool m n held.0 later.0,
      (
        IsTaken-other pool n m None held.0 (λ e. two (sym e)),
        subst (λ (p : List (Option (List ℕ))). AreHeld p rest) (set_comm pool m n None None (λ e. two (sym e))) later.1,
      ),
    )

-- one more is taken
pub AreHeld-push : (pool : List (Option (List ℕ))) (frames : List ℕ) (n : ℕ) (bytes : List ℕ) → AreHeld pool frames
    → slice_get pool n ≡ Some None → AreHeld (slice_set pool n (Some bytes)) (frames ++ n ∷ [])
AreHeld-push pool [] n bytes held free = (IsTaken-here pool n None bytes free, tt)
AreHeld-push pool (m ∷ rest) n bytes held free =
    let two : m ≢ n = IsTaken-apart pool n m held.0 free in
    let still : slice_get (slice_set pool m None) n ≡ Some None = slice_get-set_other pool m n None (λ e. two (sym e)) ∙ free in (
      IsTaken-other pool n m (Some bytes) held.0 two,
      subst (λ (p : List (Option (List ℕ))). AreHeld p (rest ++ n ∷ [])) (set_comm pool m n None (Some bytes) two)
          (AreHeld-push (slice_set pool m None) rest n bytes held.1 still),
    )

-- bytes are written to a frame
pub AreHeld-write : (pool : List (Option (List ℕ))) (frames : List ℕ) (n : ℕ) (bytes : List ℕ) → AreHeld pool frames
    → AreHeld (slice_set pool n (Some bytes)) frames
AreHeld-write pool [] n bytes held = tt
AreHeld-write pool (m ∷ rest) n bytes held = (
  IsTaken-kept pool n m bytes held.0,
  ⊎_elim
      (λ (same : m ≡ n).
      let gone : slice_set pool m None ≡ slice_set (slice_set pool n (Some bytes)) m None =
      sym (set-set pool m (Some bytes) None) ∙ ap (λ k. slice_set (slice_set pool k (Some bytes)) m None) same in
      subst (λ (p : List (Option (List ℕ))). AreHeld p rest) gone held.1)
      (λ (two : m ≡ n → ⊥).
      subst (λ (p : List (Option (List ℕ))). AreHeld p rest) (set_comm pool m n None (Some bytes) two)
      (AreHeld-write (slice_set pool m None) rest n bytes held.1))
      (cases_eq m n),
)

-- there are no more of them than are taken
pub length-AreHeld : (pool : List (Option (List ℕ))) (frames : List ℕ) → AreHeld pool frames → length frames ≤ taken_count pool
length-AreHeld pool [] held = omega arith
length-AreHeld pool (n ∷ rest) held =
    let fewer : taken_count (slice_set pool n None) + 1 ≡ taken_count pool = taken_count-giving pool n held.0 in
    let later : length rest ≤ taken_count (slice_set pool n None) = length-AreHeld (slice_set pool n None) rest held.1 in
    omega arith

-- one from among them is given back
pub AreHeld-middle : (pool : List (Option (List ℕ))) (before after : List ℕ) (n : ℕ) → AreHeld pool (before ++ n ∷ after)
    → IsTaken pool n × AreHeld (slice_set pool n None) (before ++ after)
AreHeld-middle pool [] after n held = held
AreHeld-middle pool (m ∷ before) after n held =
    let later = AreHeld-middle (slice_set pool m None) before after n held.1 in
    let two : n ≢ m = given_apart pool m n held.0 later.0 in (
      taken_before pool m n held.0 later.0,
      (
        IsTaken-other pool n m None held.0 (λ e. two (sym e)),
        subst (λ (p : List (Option (List ℕ))). AreHeld p (before ++ after)) (set_comm pool m n None None (λ e. two (sym e))) later.1,
      ),
    )

-- no frame stands at two places
pub AreHeld-apart : (pool : List (Option (List ℕ))) (frames : List ℕ) (i j n : ℕ) → AreHeld pool frames
    → slice_get frames i ≡ Some n → slice_get frames j ≡ Some n → i ≡ j
AreHeld-apart pool [] i j n held first second = absurd (cc)
AreHeld-apart pool (m ∷ rest) zero zero n held first second = refl
AreHeld-apart pool (m ∷ rest) zero (suc j) n held first second =
    let same : m ≡ n = cc in
    absurd (given_apart pool m n held.0 (AreHeld-at (slice_set pool m None) rest j n held.1 second) (sym same))
AreHeld-apart pool (m ∷ rest) (suc i) zero n held first second =
    let same : m ≡ n = cc in
    absurd (given_apart pool m n held.0 (AreHeld-at (slice_set pool m None) rest i n held.1 first) (sym same))
AreHeld-apart pool (m ∷ rest) (suc i) (suc j) n held first second = ap suc (AreHeld-apart (slice_set pool m None) rest i j n held.1 first second)

-- frames that are taken, of which no two are one, are held
pub AreHeld-of : (pool : List (Option (List ℕ))) (frames : List ℕ) → ((k n : ℕ) → slice_get frames k ≡ Some n → IsTaken pool n)
    → ((j k n : ℕ) → slice_get frames j ≡ Some n → slice_get frames k ≡ Some n → j ≡ k) → AreHeld pool frames
AreHeld-of pool [] taken apart = tt
AreHeld-of pool (m ∷ rest) taken apart = (
  taken 0 m refl,
  AreHeld-of (slice_set pool m None) rest
      (λ k n at. IsTaken-other pool m n None (taken (suc k) n at) (λ e. let same : 0 ≡ suc k = apart 0 (suc k) m refl (at ∙ ap Some e) in omega arith))
      (λ j k n first second. let same : suc j ≡ suc k = apart (suc j) (suc k) n first second in omega arith),
)
