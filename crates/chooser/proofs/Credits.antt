-- What credit a pick leaves.
use Rattle.std.proofs.Common.{◌≡◌, ℕ, ◌<◌, ◌≤◌, true, false, Some, refl, arith}
use Rattle.mach_types.specs.declared.events.Choice.TheVariants as asked
use Rattle.mach_types.specs.declared.events.Sight.{Sight}
use Rattle.chooser.specs.declared.chooser.Pick.{Pick}
use Rattle.chooser.specs.Cases.{draws, credit_of, pick}
use Rattle.chooser.proofs.Picks.{each_pick}

credit_of-small : (word : ℕ) → credit_of word ≤ 7
credit_of-small word = omega arith

pub pick-small_credit : (seen : Sight) (word : ℕ) (p : Pick)
    → seen.credit ≤ 7 → pick seen word ≡ Some p → p.credit ≤ 7
pick-small_credit seen word p small e =
    each_pick (λ q. q.credit ≤ 7) (λ c. omega arith) seen word
    (λ has settled. omega arith) (λ drawn. credit_of-small word) p e

pub pick-credit_by_word : (seen : Sight) (word : ℕ) (p : Pick)
    → draws seen ≡ true → pick seen word ≡ Some p → p.credit ≤ 7
pick-credit_by_word seen word p drawn e =
    each_pick (λ q. q.credit ≤ 7) (λ c. omega arith) seen word
    (λ has settled. cc) (λ again. credit_of-small word) p e

pub pick-lower_credit : (seen : Sight) (word : ℕ) (p : Pick)
    → draws seen ≡ false → 0 < seen.credit → pick seen word ≡ Some p → p.credit < seen.credit
pick-lower_credit seen word p settled positive e =
    each_pick (λ q. q.credit < seen.credit) (λ c. positive) seen word
    (λ has again. omega arith) (λ drawn. cc) p e

pub pick-credit_executes : (seen : Sight) (word : ℕ) (p : Pick)
    → pick seen word ≡ Some p → 0 < p.credit → p.choice ≡ asked.Exec
pick-credit_executes seen word p e =
    each_pick (λ q. 0 < q.credit → q.choice ≡ asked.Exec) (λ c none. absurd (omega arith)) seen word
    (λ has settled some. refl) (λ drawn some. refl) p e
