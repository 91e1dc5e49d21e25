use Rattle.std.proofs.Common.{◌∙◌, ◌++◌}
use Rattle.std.specs.List.{flat_map, range_with_len}
use Rattle.event_facts.specs.KernelEvents.{lost_from}
use Rattle.event_facts.specs.Reservations.{ended_facts}
use Rattle.event_facts.proofs.Lists.{four_pieces}
use Rattle.event_facts.proofs.kernel_events.push_kernel.Goals as goal

pub returns : goal.returns
returns c =
    let entry = c.args.entry in
    four_pieces _ _ _ _ _ _ _ _ _
    c.in_ok-push_kernel_writes.ensures
    (c.in_ok-push_if_ended.ensures
    ∙ (λ i. c.push_kernel_writes.new.facts.items ++ ended_facts (c.reservation_in.ensures i) (c.hart.ensures i).reserved))
    (c.in_ok-push_all_lost_from.ensures
    ∙ (λ i. c.push_if_ended.new.facts.items
    ++ flat_map (lost_from entry.hart.0 c.args.reserved.now c.args.written.now) (range_with_len 0 (c.harts.ensures i))))
    c.in_ok-push_own_registers.ensures
