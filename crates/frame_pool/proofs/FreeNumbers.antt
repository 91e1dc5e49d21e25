-- The stack of the numbers of the free frames.
use Rattle.std.proofs.Common.{◌≡◌, ◌≢◌, ℕ, ◌+◌, ◌<◌, Bool, true, false, List, [], ◌∷◌, ◌++◌, Some, None, length, get_or, slice_get, slice_set, refl, sym, ap, ◌∙◌, subst, arith}
use Rattle.std.specs.List.{AllByRecursion}
use Rattle.std.proofs.lemmas.List.{length-set, set_comm, set-set}
use Rattle.std.proofs.lemmas.List.Sums.{sum_by-cons}
use Rattle.std.proofs.lemmas.Option.{slice_get-get_or, slice_get_within}
use Rattle.frame_pool.proofs.Counting.{free_count-taking, one_free}
use Rattle.frame_pool.proofs.Frames.{frames_of-at, frames_of-mark}
use Rattle.frame_pool.proofs.Places.{slice_get-set_other, slice_get-set_same, slice_set-same}
use Rattle.frame_pool.specs.Layout.{AreFree, frames_of}
use Rattle.frame_pool.specs.Pool.{free_count}

-- a free frame and a taken one are two
two_marks : (taken : List Bool) (m n : ℕ) → slice_get taken m ≡ Some false → slice_get taken n ≡ Some true → m ≢ n
two_marks taken m n free mark same = let e : slice_get taken m ≡ Some true = rw same mark in cc

-- where no number is left, one more frame is taken
pub AreFree-more : (taken : List Bool) → AreFree taken [] → AreFree (taken ++ true ∷ []) []
AreFree-more [] all = (refl, tt)
AreFree-more (t ∷ taken) all = (all.0, AreFree-more taken all.1)

-- the last number is that of a free frame, and the others are those that are free once it is taken
pub AreFree-last : (taken : List Bool) (rest : List ℕ) (n : ℕ) → AreFree taken (rest ++ n ∷ [])
    → (slice_get taken n ≡ Some false) × AreFree (slice_set taken n true) rest
AreFree-last taken [] n free = free
AreFree-last taken (m ∷ rest) n free =
    let later = AreFree-last (slice_set taken m true) rest n free.1 in
    let marked : slice_get (slice_set taken m true) m ≡ Some true = slice_get-set_same taken m false true free.0 in
    let two : n ≢ m = two_marks (slice_set taken m true) n m later.0 marked in
    let here : slice_get taken n ≡ Some false = sym (slice_get-set_other taken m n true two) ∙ later.0 in (
      here,
      (
        slice_get-set_other taken n m true (λ e. two (sym e)) ∙ free.0,
        subst (λ (marks : List Bool). AreFree marks rest) (set_comm taken m n true true (λ e. two (sym e))) later.1,
      ),
    )

-- a taken frame is given back
pub AreFree-push : (taken : List Bool) (free : List ℕ) (n : ℕ) → slice_get taken n ≡ Some true → AreFree taken free
    → AreFree (slice_set taken n false) (free ++ n ∷ [])
AreFree-push taken [] n mark all = (
  slice_get-set_same taken n true false mark,
  subst (λ (marks : List Bool). AllByRecursion (λ t. t ≡ true) marks) (sym (set-set taken n false true ∙ slice_set-same taken n true mark)) all,
)
AreFree-push taken (m ∷ free) n mark all =
    let two : m ≢ n = two_marks taken m n all.0 mark in
    let marked : slice_get (slice_set taken m true) n ≡ Some true = slice_get-set_other taken m n true (λ e. two (sym e)) ∙ mark in (
      slice_get-set_other taken n m false two ∙ all.0,
      subst (λ (marks : List Bool). AreFree marks (free ++ n ∷ [])) (set_comm taken m n true false two)
          (AreFree-push (slice_set taken m true) free n marked all.1),
    )

none_free : (taken : List Bool) (region : List (List ℕ)) → AllByRecursion (λ t. t ≡ true) taken → free_count (frames_of taken region) ≡ 0
none_free [] region all = refl
none_free (t ∷ taken) [] all = refl
none_free (true ∷ taken) (bytes ∷ region) all =
    omega (arith, sum_by-cons one_free (Some bytes) (frames_of taken region), none_free taken region all.1)
none_free (false ∷ taken) (bytes ∷ region) all = let wrong : false ≡ true = all.0 in cc

-- as many frames are free as the stack has numbers
pub free_count-frames_of : (taken : List Bool) (region : List (List ℕ)) (free : List ℕ) → length region ≡ length taken → AreFree taken free
    → free_count (frames_of taken region) ≡ length free
free_count-frames_of taken region [] same all = none_free taken region all
free_count-frames_of taken region (n ∷ rest) same free =
    let within : n < length taken = slice_get_within taken n false free.0 in
    let inside : n < length region = omega arith in
    let bytes : List ℕ = get_or region n [] in
    let here : slice_get region n ≡ Some bytes = slice_get-get_or region n [] inside in
    let none : slice_get (frames_of taken region) n ≡ Some None = frames_of-at taken region n false bytes free.0 here in
    let fewer : free_count (slice_set (frames_of taken region) n (Some bytes)) + 1 ≡ free_count (frames_of taken region) =
    free_count-taking (frames_of taken region) n bytes none in
    let later : free_count (frames_of (slice_set taken n true) region) ≡ length rest =
    free_count-frames_of (slice_set taken n true) region rest (same ∙ sym (length-set taken n true)) free.1 in
    let one : free_count (frames_of (slice_set taken n true) region) ≡ free_count (slice_set (frames_of taken region) n (Some bytes)) =
    ap free_count (frames_of-mark taken region n true) in
    omega arith
