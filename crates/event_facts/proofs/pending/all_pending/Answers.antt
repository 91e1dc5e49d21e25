use Rattle.std.proofs.Common.{◌≡◌, ◌∙◌, ◌++◌, ◌∷◌, [], ℕ, map, Option, ap, arith}
use Rattle.std.specs.List.{range_with_len}
use Rattle.event_facts.specs.Pending.{pending_behind}
use Rattle.event_facts.proofs.Lists.{map_step}
use Rattle.event_facts.proofs.pending.all_pending.Goals as goal

pub loop-earlier-preserved : goal.loop-earlier-preserved
loop-earlier-preserved c =
    map_step (pending_behind c.args.signals.now) [] c.loop-earlier.pending.items _ c.loop-earlier.earlier c.loop-earlier.invariant
    (c.in_ok-push.ensures.items ∙ ap (λ (o : Option ℕ). c.loop-earlier.pending.items ++ o ∷ []) c.held_pending.ensures)

pub returns : goal.returns
returns c =
    let all : c.loop-earlier.earlier ≡ c.args.given = omega arith in
    c.loop-earlier.invariant ∙ ap (λ n. map (pending_behind c.args.signals.now) (range_with_len 0 n)) all
