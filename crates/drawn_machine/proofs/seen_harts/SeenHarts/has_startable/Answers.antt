use Rattle.std.proofs.Common.{◌&&◌, ◌%◌, ◌^◌, eqb, ap, sym, ◌∙◌, arith}
use Rattle.std.specs.List.{list_any}
use Rattle.mach_types.specs.Kernel.Scheduling.{Scheduling, affinity_of, has_hart}
use Rattle.block_model.specs.Deciding.{history}
use Rattle.block_model.specs.History.{kernel}
use Rattle.drawn_machine.proofs.Starting.{open_bar, shut_bar}
use Rattle.drawn_machine.proofs.seen_harts.SeenHarts.has_startable.Goals as goal

pub returns-then-hart-opened : goal.returns-then-hart-opened
returns-then-hart-opened c =
    let m = c.args.self.now.machine.now in
    let listed = (kernel m.setting (history m.setting m.log)).scheduling in
    c.has_only_for.ensures
    ∙ ap (λ (s : Scheduling). list_any (λ t. has_hart (affinity_of t s) c.args.hart.0 && eqb (affinity_of t s % 2 ^ 0) 0) s.order) c.kernel.ensures.scheduling
    ∙ (λ i. list_any (λ t. open_bar c.args.opened c.args.hart.0 (affinity_of t listed) (omega arith) i) listed.order)
    ∙ sym (c.args.self.now.listed c.args.opened c.args.hart.0)

pub returns-else-hart-opened : goal.returns-else-hart-opened
returns-else-hart-opened c =
    let m = c.args.self.now.machine.now in
    let listed = (kernel m.setting (history m.setting m.log)).scheduling in
    c.has_only_for-else-hart-opened.ensures
    ∙ ap (λ (s : Scheduling). list_any (λ t. has_hart (affinity_of t s) c.args.hart.0 && eqb (affinity_of t s % 2 ^ c.args.opened) 0) s.order) c.kernel.ensures.scheduling
    ∙ (λ i. list_any (λ t. shut_bar c.args.opened c.args.hart.0 (affinity_of t listed) (omega arith) i) listed.order)
    ∙ sym (c.args.self.now.listed c.args.opened c.args.hart.0)
