use Rattle.std.proofs.Common.{◌≡◌, ◌<◌, ◌≤◌, Option, refl, subst, sym, arith}
use Rattle.std.specs.Prelude.{IfSome}
use Rattle.std.proofs.lemmas.Bool.{OnTrue_at}
use Rattle.frame_pool.specs.Pool.{fresh}
use Rattle.page_map.specs.Map.{Page}
use Rattle.page_map.proofs.map.PageMap.first_written.Goals as goal

pub returns-then-number-from-clause-zero : goal.returns-then-number-from-clause-zero
returns-then-number-from-clause-zero c n permission at low high =
    let same : n ≡ c.number_at-number.result = c.number_at-number.ensures n permission at in absurd (omega arith)

pub returns-then-number-first-clause-zero : goal.returns-then-number-first-clause-zero
returns-then-number-first-clause-zero c n permission at low high =
    let same : n ≡ c.number_at-number.result = c.number_at-number.ensures n permission at in absurd (omega arith)

pub returns-then-is_fresh_at-clause-zero : goal.returns-then-is_fresh_at-clause-zero
returns-then-is_fresh_at-clause-zero c n permission at low high =
    subst (λ (o : Option Page). IfSome o (λ p. p.bytes ≡ fresh)) (sym (OnTrue_at c.if-is_fresh_at.true c.is_fresh_at.ensures n permission at)) refl

pub returns-clause-zero : goal.returns-clause-zero
returns-clause-zero c n permission at low high =
    let same : n ≡ c.number_at-number.result = c.number_at-number.ensures n permission at in absurd (omega arith)
