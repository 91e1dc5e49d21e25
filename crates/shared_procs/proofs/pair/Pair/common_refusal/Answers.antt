-- The refusal of every choice of a hart.
use Rattle.shared_procs.proofs.Common.{◌≡◌, leb, refl, sym, ◌∙◌, true, false, le-leb, pair_seen}
use Rattle.shared_procs.proofs.Refusals.{decided_as}
use Rattle.shared_procs.proofs.pair.Pair.common_refusal.Goals as goal

pub returns-then-is_over-clause-barred : goal.returns-then-is_over-clause-barred
returns-then-is_over-clause-barred c choice =
    let v = c.args.self.now in
    decided_as v.setting (pair_seen v) c.args.hart.0 choice true _ _ (sym c.is_over.ensures ∙ c.if-is_over.true) refl refl

pub returns-then-is_full-clause-barred : goal.returns-then-is_full-clause-barred
returns-then-is_full-clause-barred c choice =
    let v = c.args.self.now in
    decided_as v.setting (pair_seen v) c.args.hart.0 choice false true _ (sym c.is_over.ensures ∙ c.if-is_over.false) (sym c.is_full.ensures ∙ c.if-is_full.true) refl

pub returns-then-hart-self-clause-barred : goal.returns-then-hart-self-clause-barred
returns-then-hart-self-clause-barred c choice =
    let v = c.args.self.now in
    let out : leb v.setting.limits.harts c.args.hart.0 ≡ true = rw (← c.self.view_is) (le-leb c.self.inside.limits.harts c.args.hart.0 c.if-hart-self.true) in
    decided_as v.setting (pair_seen v) c.args.hart.0 choice false false true (sym c.is_over.ensures ∙ c.if-is_over.false)
    (sym c.is_full.ensures ∙ c.if-is_full.false) out
