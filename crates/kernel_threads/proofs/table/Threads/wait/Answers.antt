use Rattle.std.proofs.Common.{◌∙◌, ◌++◌, ◌∷◌, [], ap, length, ◌<◌, arith}
use Rattle.kernel_threads.specs.declared.table.Slots.{Slots}
use Rattle.kernel_threads.specs.declared.rows.Stage.TheVariants as stage
use Rattle.kernel_threads.proofs.Opened.{same_kept, same_state, rising, same_table, room}
use Rattle.kernel_threads.proofs.Viewed.{waiter_threads, moved_saved}
use Rattle.kernel_threads.specs.Waits.{numbers_of}
use Rattle.mach_types.specs.declared.threads.ThreadState.TheVariants.{Running}
use Rattle.kernel_threads.proofs.Addresses.{numbers_push}
use Rattle.kernel_threads.proofs.Kept.{kept_waiter}
use Rattle.kernel_threads.proofs.table.Threads.wait.Goals as goal

pub push-requires : goal.push-requires
push-requires c =
    let few = room c.args.tid.0 c.self.inside.slots.value c.self.inside.given c.args.self.now c.requires.0 c.self.view_is c.self.invariant.table c.requires.1 in
    let small : length c.deref_mut-2.result.now.waiters.items < 64 =
    omega (arith, few, ap (λ (s : Slots). length s.waiters.items) c.deref_mut-2.ensures.value, ap (λ (s : Slots). length s.waiters.items) c.deref_mut.ensures.value) in
    (omega arith, small)

pub invariant_of-self : goal.invariant_of-self
invariant_of-self c =
    let lent = c.deref_mut.result.now in
    kept_waiter lent.rows.items c.deref_mut-2.result.now.rows.items c.self.inside.given lent.waiters.items
    (same_kept c.self.inside.slots.value lent c.self.inside.given c.deref_mut.ensures.value c.self.invariant)
    c.push.new.self.items c.args.tid.0 c.args.at c.args.saved c.requires.0 (ap (λ (s : Slots). s.rows.items) c.deref_mut-2.ensures.value ∙ c.set_stage.ensures)
    (c.push.ensures.items ∙ ap (λ (s : Slots). s.waiters.items ++ record { number = c.args.tid.0; at = c.args.at } ∷ []) c.deref_mut-2.ensures.value)
    (same_state c.args.tid.0 c.self.inside.slots.value lent c.self.inside.given c.args.self.now (Running c.requires.0) c.deref_mut.ensures.value c.self.view_is c.requires.1)

pub returns-clause-threads : goal.returns-clause-threads
returns-clause-threads c =
    let lent = c.deref_mut.result.now in
    waiter_threads lent.rows.items c.deref_mut-2.result.now.rows.items c.self.inside.given (numbers_of lent.waiters.items) (numbers_of c.push.new.self.items) c.args.tid.0 c.args.at c.args.saved c.args.self.now
    (ap (λ (s : Slots). s.rows.items) c.deref_mut-2.ensures.value ∙ c.set_stage.ensures)
    (numbers_push c.args.tid.0 c.args.at lent.waiters.items c.push.new.self.items
    (c.push.ensures.items ∙ ap (λ (s : Slots). s.waiters.items ++ record { number = c.args.tid.0; at = c.args.at } ∷ []) c.deref_mut-2.ensures.value))
    (same_table c.self.inside.slots.value lent c.self.inside.given c.args.self.now c.deref_mut.ensures.value c.self.view_is)

pub returns-clause-saved : goal.returns-clause-saved
returns-clause-saved c =
    let lent = c.deref_mut.result.now in
    moved_saved lent.rows.items c.deref_mut-2.result.now.rows.items c.self.inside.given (numbers_of lent.waiters.items) c.args.tid.0 (stage.Waiting c.args.at c.args.saved) c.args.self.now
    (ap (λ (s : Slots). s.rows.items) c.deref_mut-2.ensures.value ∙ c.set_stage.ensures)
    (same_table c.self.inside.slots.value lent c.self.inside.given c.args.self.now c.deref_mut.ensures.value c.self.view_is)

pub returns-clause-table : goal.returns-clause-table
returns-clause-table c = (invariant_of-self c).table

pub set_stage-requires : goal.set_stage-requires
set_stage-requires c = rising c.self.inside.slots.value c.deref_mut.result.now c.self.inside.given c.deref_mut.ensures.value c.self.invariant.table
