use Rattle.std.proofs.Common.{◌≡◌, ◌+◌, ◌<◌, ◌≤◌, ◌∙◌, ℕ, List, [], ◌∷◌, length, below_more, sym, ap, refl, arith}
use Rattle.mach_types.specs.declared.user_memory.Store.{Store}
use Rattle.hart_state.specs.declared.hart.HartState.{HartState}
use Rattle.drawn_machine.proofs.seen_harts.SeenHarts.is_drained.Goals as goal

no_length : (stores : List Store) → length stores ≡ 0 → stores ≡ []
no_length [] none = refl
no_length (w ∷ ws) none = absurd (omega arith)

pub loop-number-preserved : goal.loop-number-preserved
loop-number-preserved c =
    below_more _ _ c.loop-number.invariant
    (sym (ap (λ (x : HartState). x.buffer) c.hart.ensures) ∙ no_length c.hart.result.now.buffer (sym c.len.ensures.count ∙ c.if-len-ne0.false))
