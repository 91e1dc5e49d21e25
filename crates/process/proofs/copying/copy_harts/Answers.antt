use Rattle.std.proofs.Common.{◌≡◌, ◌<◌, ◌+◌, ◌≤◌, ◌∙◌, ℕ, List, [], ◌∷◌, Some, length, get_or, slice_get, slice_set, take, ap, sym, subst, arith, zero, suc}
use Rattle.std.proofs.lemmas.List.{length-set, take_all}
use Rattle.std.proofs.lemmas.Option.{slice_get-get_or}
use Rattle.process.proofs.copying.copy_harts.Goals as goal

-- one item more is as the other
one_more : {A : Type 0} (xs ys : List A) (i : ℕ) (x : A) → i < length xs → slice_get ys i ≡ Some x → take i xs ≡ take i ys → take (suc i) (slice_set xs i x) ≡ take (suc i) ys
one_more [] ys i x lt at same = absurd (omega arith)
one_more (a ∷ xs) [] i x lt at same = cc
one_more (a ∷ xs) (b ∷ ys) zero x lt at same = cc
one_more (a ∷ xs) (b ∷ ys) (suc i) x lt at same =
    let first : a ≡ b = cc in
    let rest : take i xs ≡ take i ys = cc in
    ap (λ z. z ∷ take (suc i) (slice_set xs i x)) first ∙ ap (λ zs. b ∷ zs) (one_more xs ys i x (omega arith) at rest)

pub loop-index-preserved : goal.loop-index-preserved
loop-index-preserved c =
    let hs = c.loop-index.harts in
    let others = c.args.others.now in
    let i = c.loop-index.index in
    let x = c.copy_from.new.self in
    let d = c.index-others-index.result in
    let count : length hs ≡ length c.args.harts.now = c.loop-index.invariant.count in
    let lt : i < length hs = omega arith in
    let lt_others : i < length others = omega arith in
    let same : x ≡ get_or others i d = c.copy_from.ensures ∙ c.index-others-index.is in
    let next : i + 1 ≡ suc i = omega arith in
    record {
      count = length-set hs i x ∙ count;
      copied = subst (λ (n : ℕ). take n (slice_set hs i x) ≡ take n others) (sym next)
          (one_more hs others i x lt (slice_get-get_or others i d lt_others ∙ ap Some (sym same)) c.loop-index.invariant.copied);
    }

pub returns : goal.returns
returns c =
    let i = c.loop-index.index in
    let count : length c.loop-index.harts ≡ length c.args.harts.now = c.loop-index.invariant.count in
    let past : length c.loop-index.harts ≤ i = omega arith in
    let other : length c.args.others.now ≤ i = omega arith in
    sym (take_all i c.loop-index.harts past) ∙ c.loop-index.invariant.copied ∙ take_all i c.args.others.now other
