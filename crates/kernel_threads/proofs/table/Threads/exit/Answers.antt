use Rattle.std.proofs.Common.{not, filter, ◌∙◌, ap}
use Rattle.kernel_threads.specs.declared.table.Slots.{Slots}
use Rattle.kernel_threads.proofs.Opened.{same_kept, waiters_once, rising, same_table}
use Rattle.kernel_threads.proofs.Viewed.{ended_threads, ended_saved}
use Rattle.kernel_threads.specs.Waits.{numbers_of, is_waiter}
use Rattle.kernel_threads.proofs.Addresses.{numbers_without}
use Rattle.kernel_threads.proofs.Kept.{kept_ended}
use Rattle.kernel_threads.proofs.table.Threads.exit.Goals as goal

pub invariant_of-self : goal.invariant_of-self
invariant_of-self c =
    let lent = c.deref_mut.result.now in
    kept_ended lent.rows.items c.deref_mut-2.result.now.rows.items c.self.inside.given lent.waiters.items
    (same_kept c.self.inside.slots.value lent c.self.inside.given c.deref_mut.ensures.value c.self.invariant)
    c.take_out.new.waiters.items c.args.tid.0 (ap (λ (s : Slots). s.rows.items) c.deref_mut-2.ensures.value ∙ c.remove.ensures)
    (c.take_out.ensures ∙ ap (λ (s : Slots). filter (λ w. not (is_waiter c.args.tid.0 w)) s.waiters.items) c.deref_mut-2.ensures.value)

pub returns-clause-threads : goal.returns-clause-threads
returns-clause-threads c =
    let lent = c.deref_mut.result.now in
    ended_threads lent.rows.items c.deref_mut-2.result.now.rows.items c.self.inside.given (numbers_of lent.waiters.items) (numbers_of c.take_out.new.waiters.items) c.args.tid.0 c.args.self.now
    (ap (λ (s : Slots). s.rows.items) c.deref_mut-2.ensures.value ∙ c.remove.ensures)
    (numbers_without c.args.tid.0 lent.waiters.items c.take_out.new.waiters.items
    (c.take_out.ensures ∙ ap (λ (s : Slots). filter (λ w. not (is_waiter c.args.tid.0 w)) s.waiters.items) c.deref_mut-2.ensures.value))
    (same_table c.self.inside.slots.value lent c.self.inside.given c.args.self.now c.deref_mut.ensures.value c.self.view_is)

pub returns-clause-saved : goal.returns-clause-saved
returns-clause-saved c =
    let lent = c.deref_mut.result.now in
    ended_saved lent.rows.items c.deref_mut-2.result.now.rows.items c.self.inside.given (numbers_of lent.waiters.items) (numbers_of c.take_out.new.waiters.items) c.args.tid.0 c.args.self.now
    (ap (λ (s : Slots). s.rows.items) c.deref_mut-2.ensures.value ∙ c.remove.ensures)
    (same_table c.self.inside.slots.value lent c.self.inside.given c.args.self.now c.deref_mut.ensures.value c.self.view_is)

pub returns-clause-table : goal.returns-clause-table
returns-clause-table c = (invariant_of-self c).table

pub remove-requires : goal.remove-requires
remove-requires c = rising c.self.inside.slots.value c.deref_mut.result.now c.self.inside.given c.deref_mut.ensures.value c.self.invariant.table

pub take_out-requires : goal.take_out-requires
take_out-requires c =
    waiters_once c.self.inside.slots.value c.self.inside.given c.deref_mut-2.result.now.waiters.items
    (ap (λ (s : Slots). s.waiters.items) c.deref_mut-2.ensures.value ∙ ap (λ (s : Slots). s.waiters.items) c.deref_mut.ensures.value) c.self.invariant.table
