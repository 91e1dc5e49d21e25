-- The bytes that frames show: their own where they were written, and zeros elsewhere.
use Rattle.std.proofs.Common.{◌≡◌, ◌≢◌, ℕ, zero, suc, ◌+◌, ◌-◌, ◌<◌, ◌≤◌, Bool, true, false, List, [], ◌∷◌, ◌++◌, Some, length, replicate, get_or, slice_get, slice_set, refl, sym, ap, ◌∙◌, arith, ⊎_elim, cond}
use Rattle.std.proofs.lemmas.Bool.{cases_eq}
use Rattle.std.proofs.lemmas.List.{length-set}
use Rattle.std.proofs.lemmas.Option.{get_or_from_slice_get, slice_get-get_or}
use Rattle.frame_pool.proofs.Places.{slice_get-set_other, slice_set-same}
use Rattle.frame_pool.proofs.Zeros.{with_zeros-least}
use Rattle.frame_pool.specs.Layout.{AreStored, bytes_shown, with_zeros}
use Rattle.frame_pool.specs.Pool.{fresh}

pub length-shown : (written : List Bool) (region : List (List ℕ)) → length (bytes_shown written region) ≡ length written
length-shown [] region = refl
length-shown (w ∷ written) [] = ap suc (length-shown written [])
length-shown (w ∷ written) (bytes ∷ region) = ap suc (length-shown written region)

-- the bytes of a frame that was written
pub shown-stored : (written : List Bool) (region : List (List ℕ)) (n : ℕ) → slice_get written n ≡ Some true → n < length region
    → slice_get (bytes_shown written region) n ≡ slice_get region n
shown-stored [] region n mark within = absurd (cc)
shown-stored (w ∷ written) [] n mark within = absurd (omega arith)
shown-stored (w ∷ written) (bytes ∷ region) zero mark within = let is : w ≡ true = cc in ap (λ v. Some (cond v bytes fresh)) is
shown-stored (w ∷ written) (bytes ∷ region) (suc n) mark within = shown-stored written region n mark (omega arith)

pub shown-read : (written : List Bool) (region : List (List ℕ)) (n : ℕ) (bytes : List ℕ) → slice_get written n ≡ Some true → n < length region
    → bytes ≡ get_or region n bytes → bytes ≡ get_or (bytes_shown written region) n bytes
shown-read written region n bytes mark within read =
    let there : slice_get (bytes_shown written region) n ≡ Some (get_or region n bytes) =
    shown-stored written region n mark within ∙ slice_get-get_or region n bytes within in
    read ∙ sym (get_or_from_slice_get (bytes_shown written region) n (get_or region n bytes) bytes there)

-- the bytes of one that wasn't
pub shown-fresh : (written : List Bool) (region : List (List ℕ)) (n : ℕ) → slice_get written n ≡ Some false
    → slice_get (bytes_shown written region) n ≡ Some fresh
shown-fresh [] region n mark = absurd (cc)
shown-fresh (w ∷ written) [] zero mark = refl
shown-fresh (w ∷ written) [] (suc n) mark = shown-fresh written [] n mark
shown-fresh (w ∷ written) (bytes ∷ region) zero mark = let is : w ≡ false = cc in ap (λ v. Some (cond v bytes fresh)) is
shown-fresh (w ∷ written) (bytes ∷ region) (suc n) mark = shown-fresh written region n mark

-- a frame is written
pub shown-written : (written : List Bool) (region : List (List ℕ)) (n : ℕ) (bytes : List ℕ) → n < length region
    → bytes_shown (slice_set written n true) (slice_set region n bytes) ≡ slice_set (bytes_shown written region) n bytes
shown-written [] region n bytes within = refl
shown-written (w ∷ written) [] n bytes within = absurd (omega arith)
shown-written (w ∷ written) (other ∷ region) zero bytes within = refl
shown-written (w ∷ written) (other ∷ region) (suc n) bytes within =
    ap (λ frames. cond w other fresh ∷ frames) (shown-written written region n bytes (omega arith))

-- a frame that is marked is written
pub shown-again : (written : List Bool) (region : List (List ℕ)) (n : ℕ) (bytes : List ℕ) → slice_get written n ≡ Some true → n < length region
    → bytes_shown written (slice_set region n bytes) ≡ slice_set (bytes_shown written region) n bytes
shown-again written region n bytes mark within =
    ap (λ (ws : List Bool). bytes_shown ws (slice_set region n bytes)) (sym (slice_set-same written n true mark))
    ∙ shown-written written region n bytes within

-- a frame is zero again
pub shown-cleared : (written : List Bool) (region : List (List ℕ)) (n : ℕ)
    → bytes_shown (slice_set written n false) region ≡ slice_set (bytes_shown written region) n fresh
shown-cleared [] region n = refl
shown-cleared (w ∷ written) [] zero = refl
shown-cleared (w ∷ written) [] (suc n) = ap (λ frames. fresh ∷ frames) (shown-cleared written [] n)
shown-cleared (w ∷ written) (bytes ∷ region) zero = refl
shown-cleared (w ∷ written) (bytes ∷ region) (suc n) = ap (λ frames. cond w bytes fresh ∷ frames) (shown-cleared written region n)

-- all frames are zero again
pub shown-none : (n : ℕ) (region : List (List ℕ)) → bytes_shown (replicate n false) region ≡ replicate n fresh
shown-none zero region = refl
shown-none (suc n) [] = ap (λ frames. fresh ∷ frames) (shown-none n [])
shown-none (suc n) (bytes ∷ region) = ap (λ frames. fresh ∷ frames) (shown-none n region)

-- one frame more
pub shown-more : (written : List Bool) (region : List (List ℕ)) → bytes_shown (written ++ false ∷ []) region ≡ bytes_shown written region ++ fresh ∷ []
shown-more [] [] = refl
shown-more [] (bytes ∷ region) = refl
shown-more (w ∷ written) [] = ap (λ frames. fresh ∷ frames) (shown-more written [])
shown-more (w ∷ written) (bytes ∷ region) = ap (λ frames. cond w bytes fresh ∷ frames) (shown-more written region)

either-fresh : (w : Bool) → cond w fresh fresh ≡ fresh
either-fresh true = refl
either-fresh false = refl

shown-zeros : (written : List Bool) (region : List (List ℕ)) (k : ℕ) → bytes_shown written (region ++ replicate k fresh) ≡ bytes_shown written region
shown-zeros [] region k = refl
shown-zeros (w ∷ written) [] zero = refl
shown-zeros (w ∷ written) [] (suc k) =
    ap (λ (bytes : List ℕ). bytes ∷ bytes_shown written (replicate k fresh)) (either-fresh w) ∙ ap (λ frames. fresh ∷ frames) (shown-zeros written [] k)
shown-zeros (w ∷ written) (bytes ∷ region) k = ap (λ frames. cond w bytes fresh ∷ frames) (shown-zeros written region k)

-- further frames of zeros show as none
pub shown-reached : (written : List Bool) (region : List (List ℕ)) (count : ℕ) → bytes_shown written (with_zeros count region) ≡ bytes_shown written region
shown-reached written region count = shown-zeros written region (count - length region)

-- what is marked
pub stored-marked : (written : List Bool) (region after : List (List ℕ)) (n : ℕ) → AreStored written region → n < length after
    → length region ≤ length after → AreStored (slice_set written n true) after
stored-marked written region after n stored within more m mark =
    ⊎_elim
    (λ (same : m ≡ n). omega arith)
    (λ (two : m ≡ n → ⊥).
    let before : slice_get written m ≡ Some true = rw slice_get-set_other at mark in
    let had : m < length region = stored m before in omega arith)
    (cases_eq m n)

marked-before : (written : List Bool) (n m : ℕ) → slice_get (slice_set written n false) m ≡ Some true → slice_get written m ≡ Some true
marked-before [] n m mark = mark
marked-before (w ∷ written) zero zero mark = absurd (cc)
marked-before (w ∷ written) zero (suc m) mark = mark
marked-before (w ∷ written) (suc n) zero mark = mark
marked-before (w ∷ written) (suc n) (suc m) mark = marked-before written n m mark

pub stored-cleared : (written : List Bool) (region : List (List ℕ)) (n : ℕ) → AreStored written region → AreStored (slice_set written n false) region
stored-cleared written region n stored m mark = stored m (marked-before written n m mark)

marked-among : (written : List Bool) (m : ℕ) → slice_get (written ++ false ∷ []) m ≡ Some true → slice_get written m ≡ Some true
marked-among [] zero mark = absurd (cc)
marked-among [] (suc m) mark = mark
marked-among (w ∷ written) zero mark = mark
marked-among (w ∷ written) (suc m) mark = marked-among written m mark

pub stored-more : (written : List Bool) (region : List (List ℕ)) → AreStored written region → AreStored (written ++ false ∷ []) region
stored-more written region stored m mark = stored m (marked-among written m mark)

none-marked : (n m : ℕ) → slice_get (replicate n false) m ≡ Some true → ⊥
none-marked zero m mark = cc
none-marked (suc n) zero mark = cc
none-marked (suc n) (suc m) mark = none-marked n m mark

pub stored-none : (n : ℕ) (region : List (List ℕ)) → AreStored (replicate n false) region
stored-none n region m mark = absurd (none-marked n m mark)

-- as many frames are marked as were ever taken
pub mark-within : (written taken : List Bool) (region : List (List ℕ)) (place n : ℕ) → length (bytes_shown written region) ≡ length taken
    → place ≡ n → n < length taken → place < length written
mark-within written taken region place n marks same within = omega (arith, length-shown written region)

-- the mark that is read
pub mark-read : (written : List Bool) (place : ℕ) (mark value : Bool) → place < length written → mark ≡ get_or written place mark → mark ≡ value
    → slice_get written place ≡ Some value
mark-read written place mark value within read is =
    slice_get-get_or written place mark within ∙ ap (λ (w : Bool). Some w) (sym read ∙ is)

-- a frame that has bytes of its own, which are zero where it had none
module _ (written marks : List Bool) (region after : List (List ℕ)) (place : ℕ) (same : bytes_shown marks after ≡ bytes_shown written region)
    (stored : AreStored marks after) (marked : slice_get marks place ≡ Some true) where
  pub owned-inside : place < length after
  owned-inside = stored place marked

  -- it is written
  pub owned-set : (bytes : List ℕ) → bytes_shown marks (slice_set after place bytes) ≡ slice_set (bytes_shown written region) place bytes
  owned-set bytes =
      shown-again marks after place bytes marked owned-inside ∙ ap (λ (shown : List (List ℕ)). slice_set shown place bytes) same

  -- and read
  pub owned-read : (bytes : List ℕ) → bytes ≡ get_or after place bytes → bytes ≡ get_or (bytes_shown written region) place bytes
  owned-read bytes read =
      shown-read marks after place bytes marked owned-inside read ∙ ap (λ (shown : List (List ℕ)). get_or shown place bytes) same

-- a frame whose bytes are all written, whether or not it had some
module _ (written : List Bool) (region after : List (List ℕ)) (place : ℕ) (reached : after ≡ with_zeros (place + 1) region) where
  pub filled-inside : (place < length after) × (length region ≤ length after)
  filled-inside =
      let least = with_zeros-least (place + 1) region in
      let size : length after ≡ length (with_zeros (place + 1) region) = ap length reached in
      (omega arith, omega arith)

  pub filled-set : (bytes : List ℕ) → bytes_shown (slice_set written place true) (slice_set after place bytes) ≡ slice_set (bytes_shown written region) place bytes
  filled-set bytes =
      shown-written written after place bytes filled-inside.0
      ∙ ap (λ (frames : List (List ℕ)). slice_set (bytes_shown written frames) place bytes) reached
      ∙ ap (λ (shown : List (List ℕ)). slice_set shown place bytes) (shown-reached written region (place + 1))

  pub filled-stored : (bytes : List ℕ) → AreStored written region → AreStored (slice_set written place true) (slice_set after place bytes)
  filled-stored bytes stored =
      let size : length (slice_set after place bytes) ≡ length after = length-set after place bytes in
      let least = filled-inside in
      stored-marked written region (slice_set after place bytes) place stored (omega arith) (omega arith)
