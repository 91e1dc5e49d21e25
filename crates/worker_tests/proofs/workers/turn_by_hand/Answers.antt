use Rattle.std.proofs.Common.{◌≡◌, List, sym, ap, ◌∙◌, subst, arith}
use Rattle.mach_types.specs.declared.events.Entry.{Entry}
use Rattle.machine_lock.specs.Logs.{Follows}
use Rattle.worker_tests.specs.Tallies.{next_of}
use Rattle.machine_lock.proofs.Laws.{follows_self}
use Rattle.std.proofs.lemmas.List.{take_all}
use Rattle.worker_tests.proofs.workers.turn_by_hand.Goals as goal

pub give_turn-requires-clause-legal : goal.give_turn-requires-clause-legal
give_turn-requires-clause-legal g c =
    let start = c.args.lock.now.table.shared.key.start.value in
    let next = next_of start.total start.harts in
    let log = c.take_turn-turn.result.machine.entries.items in
    let short = c.keep.ensures.short in
    let all : c.keep.new.self.entries.items ≡ log = c.keep.ensures.kept ∙ take_all 18446744073709551615 log (omega arith) in
    let seen : c.take_turn-turn.new.pass.seen ≡ log = ap (λ p. p.seen) c.take_turn-turn.ensures.pass in
    subst (Follows next c.take_turn-turn.new.pass.seen) (sym all) (subst (λ (l : List Entry). Follows next l log) (sym seen) (follows_self next log))
