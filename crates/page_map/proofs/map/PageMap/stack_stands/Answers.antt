use Rattle.std.proofs.Common.{ℕ, ◌+◌, ◌-◌, inl, inr, subst, sym, arith}
use Rattle.std.proofs.lemmas.Bool.{cases_eq}
use Rattle.page_map.specs.Starting.{StandsWith}
use Rattle.page_map.proofs.Starts.{on-true}
use Rattle.page_map.proofs.map.PageMap.stack_stands.Goals as goal

pub loop-k-init : goal.loop-k-init
loop-k-init c k before = absurd (omega arith)

pub loop-k-preserved : goal.loop-k-preserved
loop-k-preserved c k before =
    let mapped = c.args.self.now.mapped in
    let last = c.loop-k.k in
    elim (cases_eq k last) [
      | inl same ↦
          subst (λ (j : ℕ). StandsWith mapped (c.args.mapped - 1 - j) (0x3FFFF00 + j) 6) (sym same)
          (on-true c.has_at.result (StandsWith mapped (c.args.mapped - 1 - last) (0x3FFFF00 + last) 6) c.if-not-has_at.false c.has_at.ensures)
      | inr two ↦ c.loop-k.invariant k (omega arith)
    ]

pub returns : goal.returns
returns c k few = c.loop-k.invariant k (omega arith)
