-- Pieces of the first numbers, where what they are made of was kept in a list.
use Rattle.std.proofs.Common.{◌≡◌, ℕ, zero, suc, ◌+◌, ◌<◌, List, [], ◌++◌, map, Option, None, refl, sym, ap, ◌∙◌, arith}
use Rattle.std.specs.Prelude.{slice_get, unwrap_or}
use Rattle.std.specs.List.{flat_map, range_with_len}
use Rattle.std.proofs.lemmas.List.{flat_map_more}
use Rattle.std.proofs.lemmas.List.FromFn.{get_or-map-range_with_len}
use Rattle.std.proofs.lemmas.Option.{unwrap_or-slice_get}
use Rattle.event_facts.proofs.Lists.{range-suc}

-- those of one number more, and those that are the same
pieces_more : {A : Type 0} (f : ℕ → List A) (n : ℕ) → flat_map f (range_with_len 0 (suc n)) ≡ flat_map f (range_with_len 0 n) ++ f n
pieces_more f n = ap (flat_map f) (range-suc n) ∙ sym (flat_map_more f [] (range_with_len 0 n) n)

same_pieces : {A : Type 0} (f g : ℕ → List A) (n : ℕ) → ((k : ℕ) → k < n → f k ≡ g k) → flat_map f (range_with_len 0 n) ≡ flat_map g (range_with_len 0 n)
same_pieces f g zero same = refl
same_pieces f g (suc n) same =
    let last : f n ≡ g n = same n (omega arith) in
    let others = same_pieces f g n (λ k lt. same k (omega (arith, lt))) in
    pieces_more f n ∙ (λ i. others i ++ last i) ∙ sym (pieces_more g n)

-- those of what was kept of the first numbers
kept_piece : {X A : Type 0} (f : ℕ → Option X) (g : ℕ → Option X → List A) (n k : ℕ) → k < n
    → g k (unwrap_or (slice_get (map f (range_with_len 0 n)) k) None) ≡ g k (f k)
kept_piece f g n k lt =
    let from_0 : 0 + k ≡ k = omega arith in
    ap (g k) (unwrap_or-slice_get (map f (range_with_len 0 n)) k None ∙ get_or-map-range_with_len f 0 n k k None lt from_0)

pub kept_pieces : {X A : Type 0} (f : ℕ → Option X) (g : ℕ → Option X → List A) (n : ℕ)
    → flat_map (λ k. g k (unwrap_or (slice_get (map f (range_with_len 0 n)) k) None)) (range_with_len 0 n)
    ≡ flat_map (λ k. g k (f k)) (range_with_len 0 n)
kept_pieces f g n =
    same_pieces (λ k. g k (unwrap_or (slice_get (map f (range_with_len 0 n)) k) None)) (λ k. g k (f k)) n (kept_piece f g n)
