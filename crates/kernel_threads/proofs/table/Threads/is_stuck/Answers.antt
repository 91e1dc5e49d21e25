use Rattle.std.proofs.Common.{◌≡◌, ◌≤◌, eqb, length, ap, ◌∙◌, sym, arith}
use Rattle.std.proofs.lemmas.List.{length-map}
use Rattle.kernel_threads.specs.Rows.{thread_in}
use Rattle.kernel_threads.specs.Table.{Table}
use Rattle.kernel_threads.specs.declared.table.Slots.{Slots}
use Rattle.kernel_threads.proofs.Opened.{slots_table}
use Rattle.kernel_threads.proofs.Stuck.{stuck_by_count}
use Rattle.mach_types.specs.Kernel.Threads.{is_stuck}
use Rattle.kernel_threads.specs.declared.waiters.Waiter.{Waiter}
use Rattle.kernel_threads.proofs.table.Threads.is_stuck.Goals as goal

pub returns-then-live-ge1 : goal.returns-then-live-ge1
returns-then-live-ge1 c =
    let slots = c.self.inside.slots.value in
    let ts = (slots_table slots c.self.inside.given).threads in
    let live : c.len-live.result ≡ length ts.live = c.len-live.ensures.value ∙ ap (λ (s : Slots). length s.rows.items) c.deref.ensures ∙ sym (length-map slots.rows.items thread_in) in
    let waiting : c.len.result ≡ length ts.waiters = c.len.ensures.value ∙ ap (λ (s : Slots). length s.waiters.items) c.deref-then-live-ge1.ensures
    ∙ sym (length-map slots.waiters.items (λ (w : Waiter). w.number)) in
    let some : 1 ≤ length ts.live = omega (arith, live, c.if-live-ge1.true) in
    ap (eqb c.len.result) live ∙ ap (λ n. eqb n (length ts.live)) waiting
    ∙ stuck_by_count ts c.self.invariant.table.threads some
    ∙ ap (λ (t : Table). is_stuck t.threads) c.self.view_is
