-- A stretch that is worked instruction by instruction.
use Rattle.machine_core.proofs.Common.{◌≡◌, ℕ, ◌+◌, ◌<◌, List, refl, sym, ap, ◌∙◌, arith, cond, false, zero, suc, ImagePage, Stretch, goes_on, longest, stepped, gone_on, worked}

-- after as many attempts as are left the stretch is what it becomes in all
pub record IsHalfWorked (code : List ImagePage) (begun now : Stretch) (made : ℕ) : Type 0 where
  pub left : ℕ
  pub counted : left + made ≡ longest
  pub whole : worked left code now ≡ worked longest code begun

pub not_begun : (code : List ImagePage) (begun : Stretch) → IsHalfWorked code begun begun 0
not_begun code begun = record { left = longest; counted = refl; whole = refl }

-- one attempt more
pub one_more : (code : List ImagePage) (begun now next : Stretch) (made : ℕ) → IsHalfWorked code begun now made → made < longest → next ≡ gone_on code now
    → IsHalfWorked code begun next (made + 1)
one_more code begun now next made half room is = go half.left half.counted half.whole
  where
    go : (left : ℕ) → left + made ≡ longest → worked left code now ≡ worked longest code begun → IsHalfWorked code begun next (made + 1)
    go zero counted whole = absurd (omega (arith, counted, room))
    go (suc n) counted whole = record { left = n; counted = omega (arith, counted); whole = ap (worked n code) is ∙ whole }

-- where a stretch doesn't go on, it stays as it is
pub stays_so : (n : ℕ) (code : List ImagePage) (l : Stretch) → false ≡ goes_on code l → worked n code l ≡ l
stays_so zero code l stops = refl
stays_so (suc n) code l stops = ap (λ b. worked n code (cond b (stepped code l) l)) (sym stops) ∙ stays_so n code l stops

pub stopped : (code : List ImagePage) (begun now : Stretch) (made : ℕ) → IsHalfWorked code begun now made → false ≡ goes_on code now → now ≡ worked longest code begun
stopped code begun now made half stops = sym (stays_so half.left code now stops) ∙ half.whole
