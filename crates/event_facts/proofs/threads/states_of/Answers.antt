use Rattle.std.proofs.Common.{◌≡◌, ◌∙◌, ◌++◌, ◌∷◌, [], map, Option, ap, arith}
use Rattle.std.specs.List.{range_with_len}
use Rattle.mach_types.specs.declared.threads.ThreadState.{ThreadState}
use Rattle.event_facts.specs.Threads.{state_behind}
use Rattle.event_facts.proofs.Lists.{map_step}
use Rattle.event_facts.proofs.threads.states_of.Goals as goal

pub loop-earlier-preserved : goal.loop-earlier-preserved
loop-earlier-preserved c =
    map_step (state_behind c.args.threads.now.threads) [] c.loop-earlier.states.items _ c.loop-earlier.earlier c.loop-earlier.invariant
    (c.in_ok-push.ensures.items ∙ ap (λ (o : Option ThreadState). c.loop-earlier.states.items ++ o ∷ []) c.state.ensures)

pub returns : goal.returns
returns c =
    let ts = c.args.threads.now.threads in
    let all : c.loop-earlier.earlier ≡ ts.given = omega arith in
    c.loop-earlier.invariant ∙ ap (λ n. map (state_behind ts) (range_with_len 0 n)) all
