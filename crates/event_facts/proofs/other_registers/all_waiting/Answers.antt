use Rattle.std.proofs.Common.{◌≡◌, ◌∙◌, ◌++◌, ◌∷◌, [], map, Option, ap, arith}
use Rattle.std.specs.List.{range_with_len}
use Rattle.mach_types.specs.declared.registers.Regs.{Regs}
use Rattle.event_facts.specs.OtherRegisters.{waiting_behind}
use Rattle.event_facts.proofs.Lists.{map_step}
use Rattle.event_facts.proofs.other_registers.all_waiting.Goals as goal

pub loop-earlier-init : goal.loop-earlier-init
loop-earlier-init c = λ file is. c.new-waiting.ensures.items

pub loop-earlier-preserved : goal.loop-earlier-preserved
loop-earlier-preserved c = λ file is.
    map_step (waiting_behind file c.args.threads.now.threads) [] c.loop-earlier.waiting.items _ c.loop-earlier.earlier (c.loop-earlier.invariant file is)
    (c.in_ok-push.ensures.items ∙ ap (λ (o : Option Regs). c.loop-earlier.waiting.items ++ o ∷ []) (c.waiting_registers.ensures file is))

pub returns : goal.returns
returns c = λ file is.
    let ts = c.args.threads.now.threads in
    let all : c.loop-earlier.earlier ≡ ts.given = omega arith in
    c.loop-earlier.invariant file is ∙ ap (λ n. map (waiting_behind file ts) (range_with_len 0 n)) all
