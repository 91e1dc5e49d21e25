use Rattle.std.proofs.Common.{◌≡◌, ◌∙◌, ◌++◌, ◌∷◌, [], map, ap, arith}
use Rattle.std.specs.List.{range_with_len}
use Rattle.block_model.specs.History.{reservation}
use Rattle.event_facts.specs.Telling.{past_of}
use Rattle.event_facts.proofs.Lists.{map_step}
use Rattle.event_facts.proofs.kept_reservations.all_reservations.Goals as goal

pub loop-number-preserved : goal.loop-number-preserved
loop-number-preserved c =
    map_step (λ k. reservation k (past_of c.args.machine.now)) [] c.loop-number.kept.items _ c.loop-number.number c.loop-number.invariant
    (c.in_ok-push.ensures.items ∙ (λ i. c.loop-number.kept.items ++ (c.hart.ensures i).reserved ∷ []))

pub returns : goal.returns
returns c =
    let harts = c.args.machine.now.setting.limits.harts in
    let all : c.loop-number.number ≡ harts = omega (arith, c.harts-number-end.ensures) in
    c.loop-number.invariant ∙ ap (λ n. map (λ k. reservation k (past_of c.args.machine.now)) (range_with_len 0 n)) all
