-- An exploration from one setting comes to one account.
use Rattle.std.proofs.Common.{◌≡◌, ◌∙◌, ◌⊎◌, inl, inr, ℕ, ◌<◌, ◌≤◌, Bool, true, false, ltb, [], refl, sym, ap, ap₂, subst, arith, zero, suc}
use Rattle.std.proofs.lemmas.Bool.{ltb-false, ltb-true}
use Rattle.block_model.specs.Setting.{Setting}
use Rattle.drawn_runs.proofs.Laws.{goes_on_alike}
use Rattle.explored_runs.specs.declared.exploration.Exploration.{Exploration}
use Rattle.explored_runs.specs.Accounts.{Account, has_enough, told}
use Rattle.explored_runs.specs.Explorations.{manner_at}
use Rattle.explored_runs.specs.Explored.{IsExploredAs, IsToldAfter}
use Rattle.explored_runs.specs.Made.{made_by}

-- one thing is told after so many runs: that of each place has one log
one_told : (s : Setting) (x : Exploration) (runs : ℕ) (a b : Account) → IsToldAfter s x runs a → IsToldAfter s x runs b
    → a ≡ b
one_told s x zero a b first second = first ∙ sym second
one_told s x (suc place) a b first second =
    let m = manner_at s x place in
    let log = goes_on_alike s m [] first.made.log second.made.log (omega arith) first.made.run second.made.run in
    let run = first.made.made ∙ ap (made_by x.apart m s) log ∙ sym second.made.made in
    first.counted ∙ ap₂ told (one_told s x place first.before second.before first.is_told second.is_told) run
    ∙ sym second.counted

-- what was told before further runs wasn't enough
abbrev IsBefore : Setting → Exploration → ℕ → Account → Type 0
IsBefore s x runs c = IsToldAfter s x runs c × (has_enough x.until c ≡ false)

not_enough : (s : Setting) (x : Exploration) (runs more : ℕ) (b : Account) → runs < more → IsToldAfter s x more b
    → (c : Account) × IsBefore s x runs c
not_enough s x runs zero b fewer is = absurd (omega arith)
not_enough s x runs (suc place) b fewer is =
    by_place (not_enough s x runs place is.before) (ltb runs place) refl
  where
    by_place : (runs < place → IsToldAfter s x place is.before → (c : Account) × IsBefore s x runs c)
        → (earlier : Bool) → ltb runs place ≡ earlier → (c : Account) × IsBefore s x runs c
    by_place later true at = later (ltb-true runs place at) is.is_told
    by_place later false at =
        let far = ltb-false runs place at in
        let same : place ≡ runs = omega arith in
        (is.before, (subst (λ (n : ℕ). IsToldAfter s x n is.before) same is.is_told, is.wanted))

-- so no exploration tells fewer runs than another
not_fewer : (s : Setting) (x : Exploration) (a b : Account) → IsExploredAs s x a → IsExploredAs s x b → a.runs < b.runs → ⊥
not_fewer s x a b first second fewer = by_end first.over
  where
    by_end : (a.runs ≡ x.runs) ⊎ (has_enough x.until a ≡ true) → ⊥
    by_end (inl all) = let most : b.runs ≤ x.runs = second.within in absurd (omega arith)
    by_end (inr enough) =
        let before = not_enough s x a.runs b.runs b fewer second.told in
        let same : before.0 ≡ a = one_told s x a.runs before.0 a before.1.0 first.told in
        let wanted : has_enough x.until a ≡ false = ap (has_enough x.until) (sym same) ∙ before.1.1 in
        absurd (cc (enough, wanted))

pub one_account : (s : Setting) (x : Exploration) (a b : Account) → IsExploredAs s x a → IsExploredAs s x b → a ≡ b
one_account s x a b first second = by_runs (ltb a.runs b.runs) (ltb b.runs a.runs) refl refl
  where
    by_runs : (fewer more : Bool) → ltb a.runs b.runs ≡ fewer → ltb b.runs a.runs ≡ more → a ≡ b
    by_runs true more at other = absurd (not_fewer s x a b first second (ltb-true a.runs b.runs at))
    by_runs false true at other = absurd (not_fewer s x b a second first (ltb-true b.runs a.runs other))
    by_runs false false at other =
        let least = ltb-false a.runs b.runs at in
        let most = ltb-false b.runs a.runs other in
        let same : b.runs ≡ a.runs = omega arith in
        one_told s x a.runs a b first.told (subst (λ (n : ℕ). IsToldAfter s x n b) same second.told)
