-- Details that compare as equal are equal.
use Rattle.std.proofs.Common.{◌≡◌, ℕ, List, [], ◌∷◌, refl, ap, Bool, true, eqb, ◌&&◌, Option, Some, None}
use lib.Pointwise.{pointwise}
use Rattle.std.specs.Option.{option_eq}
use Rattle.std.proofs.lemmas.Bool.{and_parts, eqb-true, false≢true}
use Rattle.log_gather.specs.declared.accesses.Access.{Access}
use Rattle.log_gather.specs.declared.accesses.Range.{Range}

-- an equality that answers yes of none but equal values
abbrev IsSure : {T : Type 0} → (T → T → Bool) → Type 0
IsSure {T = T} same = (x y : T) → same x y ≡ true → x ≡ y

options_same : {T : Type 0} (same : T → T → Bool) → IsSure same → IsSure (option_eq same)
options_same same sure None None is = refl
options_same same sure None (Some y) is = absurd (false≢true is)
options_same same sure (Some x) None is = absurd (false≢true is)
options_same same sure (Some x) (Some y) is = ap (λ z. Some z) (sure x y is)

lists_same : {T : Type 0} (same : T → T → Bool) → IsSure same → IsSure (pointwise same)
lists_same same sure [] [] is = refl
lists_same same sure [] (y ∷ ys) is = absurd (false≢true is)
lists_same same sure (x ∷ xs) [] is = absurd (false≢true is)
lists_same same sure (x ∷ xs) (y ∷ ys) is =
    let p = and_parts (same x y) (pointwise same xs ys) is in
    λ i. sure x y p.0 i ∷ lists_same same sure xs ys p.1 i

abbrev range_eq : Range → Range → Bool
range_eq x y = eqb x.at y.at && eqb x.count y.count

ranges_same : IsSure range_eq
ranges_same x y is =
    let p = and_parts (eqb x.at y.at) (eqb x.count y.count) is in
    let at = eqb-true x.at y.at p.0 in
    let count = eqb-true x.count y.count p.1 in
    λ i. record { at = at i; count = count i }

numbers_same : IsSure (option_eq eqb)
numbers_same = options_same eqb eqb-true

pub accesses_same : (x y : Access)
    → (option_eq range_eq x.reads y.reads
    && (option_eq range_eq x.writes y.writes && (option_eq range_eq x.entered y.entered && option_eq (option_eq eqb) x.reserves y.reserves))) ≡ true
    → x ≡ y
accesses_same x y is =
    let p = and_parts (option_eq range_eq x.reads y.reads)
    (option_eq range_eq x.writes y.writes && (option_eq range_eq x.entered y.entered && option_eq (option_eq eqb) x.reserves y.reserves)) is in
    let q = and_parts (option_eq range_eq x.writes y.writes) (option_eq range_eq x.entered y.entered && option_eq (option_eq eqb) x.reserves y.reserves) p.1 in
    let r = and_parts (option_eq range_eq x.entered y.entered) (option_eq (option_eq eqb) x.reserves y.reserves) q.1 in
    let reads = options_same range_eq ranges_same x.reads y.reads p.0 in
    let writes = options_same range_eq ranges_same x.writes y.writes q.0 in
    let entered = options_same range_eq ranges_same x.entered y.entered r.0 in
    let reserves = options_same (option_eq eqb) numbers_same x.reserves y.reserves r.1 in
    λ i. record { reads = reads i; writes = writes i; entered = entered i; reserves = reserves i }

pub reserved_same : (xs ys : List (Option ℕ)) → pointwise (option_eq eqb) xs ys ≡ true → xs ≡ ys
reserved_same xs ys is = lists_same (option_eq eqb) numbers_same xs ys is
