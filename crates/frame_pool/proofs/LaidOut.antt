-- A pool as it lies in memory, where frames are taken, given back and written.
use Rattle.std.proofs.Common.{◌≡◌, ℕ, ◌+◌, ◌-◌, ◌<◌, ◌≤◌, Bool, true, false, List, [], ◌∷◌, ◌++◌, Option, Some, None, length, get_or, slice_get, slice_set, refl, sym, ap, ◌∙◌, subst, arith, length-append}
use Rattle.std.proofs.lemmas.List.{length-set}
use Rattle.std.proofs.lemmas.List.Sums.{count_by-le-length}
use Rattle.std.proofs.lemmas.Option.{get_or_from_slice_get, slice_get-get_or, slice_get_within}
use Rattle.std.specs.Prelude.{is_none}
use Rattle.frame_pool.proofs.Counting.{free_count-giving}
use Rattle.frame_pool.proofs.Frames.{frames_of-at, frames_of-mark, frames_of-set, frames_of-taken, frames_of-write, length-frames_of}
use Rattle.frame_pool.proofs.FreeNumbers.{AreFree-last, AreFree-more, AreFree-push, free_count-frames_of}
use Rattle.frame_pool.proofs.Pools.{free_count-pool_of, length-pool_of, pool_of-at, pool_of-next, pool_of-push, pool_of-set, pool_of-taken}
use Rattle.frame_pool.specs.Layout.{AreFree, IsLaidOut, frames_of, pool_of}
use Rattle.frame_pool.specs.Pool.{IsTaken, free_count}

-- a frame has one number of bytes, however often they are read
pub held-size : (pool : List (Option (List ℕ))) (n : ℕ) (bytes again : List ℕ) → slice_get pool n ≡ Some (Some bytes)
    → slice_get pool n ≡ Some (Some again) → length bytes ≡ 4096 → length again ≡ 4096
held-size pool n bytes again here there size =
    let same : bytes ≡ again = cc in
    ap length (sym same) ∙ size

module _ {frames : ℕ} {region : List (List ℕ)} {taken : List Bool} {free : List ℕ} {pool : List (Option (List ℕ))}
    (shown : pool_of frames taken region ≡ pool) (laid : IsLaidOut frames region taken free) where
  -- as many frames are free as the stack has numbers, and as were never taken
  pub free_count-is : free_count pool ≡ length free + (frames - length region)
  free_count-is =
      omega (arith, ap free_count shown, free_count-pool_of frames taken region, free_count-frames_of taken region free laid.marks laid.stack)

  pub length-is : length pool ≡ frames
  length-is = ap length (sym shown) ∙ length-pool_of frames taken region laid.marks laid.within

  -- they are no more than all frames
  pub free-fits : length free + (frames - length region) ≤ frames
  free-fits = let counted : free_count pool ≤ length pool = count_by-le-length is_none pool in omega (arith, free_count-is, length-is)

  shown-length : length (frames_of taken region) ≡ length region
  shown-length = length-frames_of taken region laid.marks ∙ sym laid.marks

  -- the mark and the bytes of a taken frame
  module _ (n : ℕ) (held : IsTaken pool n) where
    held-shown : slice_get (frames_of taken region) n ≡ Some (Some held.0)
    held-shown = pool_of-taken frames taken region n held.0 (ap (λ p. slice_get p n) shown ∙ held.1)

    pub held-marked : slice_get taken n ≡ Some true
    held-marked = (frames_of-taken taken region n held.0 held-shown).0

    pub held-bytes : slice_get region n ≡ Some held.0
    held-bytes = (frames_of-taken taken region n held.0 held-shown).1

    pub held-within : n < length taken
    held-within = slice_get_within taken n true held-marked

    pub held-inside : n < length region
    held-inside = slice_get_within region n held.0 held-bytes

    -- the stack has room for its number
    pub held-room : length free < frames
    held-room =
        let more : free_count (slice_set pool n None) ≡ free_count pool + 1 = free_count-giving pool n held in
        let counted : free_count (slice_set pool n None) ≤ length (slice_set pool n None) = count_by-le-length is_none (slice_set pool n None) in
        omega (arith, free_count-is, length-is, length-set pool n None)

    -- what is read where its bytes stand
    pub held-read : (place : ℕ) (bytes : List ℕ) → place ≡ n → bytes ≡ get_or region place bytes → slice_get pool n ≡ Some (Some bytes)
    held-read place bytes same read =
        let is : bytes ≡ held.0 = read ∙ ap (λ k. get_or region k bytes) same ∙ get_or_from_slice_get region n held.0 bytes held-bytes in
        held.1 ∙ ap (λ b. Some (Some b)) (sym is)

    -- its bytes are written
    pub held-written : (place : ℕ) (bytes : List ℕ) → place ≡ n
        → pool_of frames taken (slice_set region place bytes) ≡ slice_set pool n (Some bytes)
    held-written place bytes same =
        let mark : slice_get taken place ≡ Some true = rw same held-marked in
        let inside : place < length (frames_of taken region) = omega (arith, held-inside, shown-length) in
        pool_of-set frames taken taken region (slice_set region place bytes) place (Some bytes) (length-set region place bytes) inside
        (frames_of-write taken region place bytes mark)
        ∙ (λ i. slice_set (shown i) (same i) (Some bytes))

    -- it is given back
    pub given-laid : (place : ℕ) (stack : List ℕ) → place ≡ n → stack ≡ free ++ place ∷ []
        → IsLaidOut frames region (slice_set taken place false) stack
    given-laid place stack same pushed =
        let mark : slice_get taken place ≡ Some true = rw same held-marked in
        record {
          marks = laid.marks ∙ sym (length-set taken place false);
          within = laid.within;
          numbers = laid.numbers;
          stack = rw pushed (AreFree-push taken free place mark laid.stack);
        }

    pub given-shown : (place : ℕ) → place ≡ n → pool_of frames (slice_set taken place false) region ≡ slice_set pool n None
    given-shown place same =
        let inside : place < length (frames_of taken region) = omega (arith, held-inside, shown-length) in
        pool_of-set frames taken (slice_set taken place false) region region place None refl inside (frames_of-mark taken region place false)
        ∙ (λ i. slice_set (shown i) (same i) None)

  -- the frame with the last number of the stack
  module _ (rest : List ℕ) (n : ℕ) (last : free ≡ rest ++ n ∷ []) where
    last-stack : AreFree taken (rest ++ n ∷ [])
    last-stack = rw (← last) laid.stack

    pub last-marked : slice_get taken n ≡ Some false
    last-marked = (AreFree-last taken rest n last-stack).0

    pub last-within : n < length taken
    last-within = slice_get_within taken n false last-marked

    pub last-inside : n < length region
    last-inside = let same : length region ≡ length taken = laid.marks in omega (arith, last-within)

    last-front : n < length (frames_of taken region)
    last-front = omega (arith, last-inside, shown-length)

    pub last-free : slice_get pool n ≡ Some None
    last-free =
        ap (λ p. slice_get p n) (sym shown)
        ∙ pool_of-at frames taken region n last-front
        ∙ frames_of-at taken region n false (get_or region n []) last-marked (slice_get-get_or region n [] last-inside)

    pub last-counted : 0 < free_count pool
    last-counted = omega (arith, free_count-is, ap length last, length-append rest (n ∷ []))

    -- it is taken
    pub taken-laid : (bytes : List ℕ) → IsLaidOut frames (slice_set region n bytes) (slice_set taken n true) rest
    taken-laid bytes =
        let size : length (slice_set region n bytes) ≡ length region = length-set region n bytes in
        record {
          marks = size ∙ laid.marks ∙ sym (length-set taken n true);
          within = let within : length region ≤ frames = laid.within in omega arith;
          numbers = laid.numbers;
          stack = (AreFree-last taken rest n last-stack).1;
        }

    pub taken-shown : (place : ℕ) (bytes clean : List ℕ) → n ≡ place → bytes ≡ clean
        → pool_of frames (slice_set taken n true) (slice_set region n bytes) ≡ slice_set pool place (Some clean)
    taken-shown place bytes clean same cleared =
        pool_of-set frames taken (slice_set taken n true) region (slice_set region n bytes) n (Some bytes) (length-set region n bytes) last-front
        (frames_of-set taken region n true bytes)
        ∙ (λ i. slice_set (shown i) (same i) (Some (cleared i)))

  -- where the stack is empty, the first frame that was never taken
  module _ (empty : free ≡ []) (more : length region < frames) where
    pub next-free : slice_get pool (length region) ≡ Some None
    next-free = ap (λ p. slice_get p (length region)) (sym shown) ∙ pool_of-next frames taken region laid.marks more

    -- it is taken
    module _ (bytes : List ℕ) (after : List (List ℕ)) (marks : List Bool) (pushed : after ≡ region ++ bytes ∷ [])
        (marked : marks ≡ taken ++ true ∷ []) where
      pub next-laid : (stack : List ℕ) → stack ≡ [] → IsLaidOut frames after marks stack
      next-laid stack none =
          let same : length region ≡ length taken = laid.marks in
          let size : length after ≡ length region + 1 = ap length pushed ∙ length-append region (bytes ∷ []) in
          record {
            marks = omega (arith, ap length marked, length-append taken (true ∷ []));
            within = omega arith;
            numbers = laid.numbers;
            stack = let all : AreFree taken [] = subst (λ (ns : List ℕ). AreFree taken ns) empty laid.stack in rw (marked, none) (AreFree-more taken all);
          }

      pub next-shown : (place : ℕ) (clean : List ℕ) → length region ≡ place → bytes ≡ clean
          → pool_of frames marks after ≡ slice_set pool place (Some clean)
      next-shown place clean same cleared =
          (λ i. pool_of frames (marked i) (pushed i))
          ∙ pool_of-push frames taken region bytes laid.marks more
          ∙ (λ i. slice_set (shown i) (same i) (Some (cleared i)))
