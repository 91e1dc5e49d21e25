use Rattle.std.proofs.Common.{not, filter, ◌≡◌, ◌∙◌, ap, Some, refl, sym}
use Rattle.std.specs.Option.{option_map}
use Rattle.kernel_threads.specs.Rows.{all_saved_in}
use Rattle.kernel_threads.specs.Table.{Table, answering, saved_of, with_saved}
use Rattle.kernel_threads.specs.declared.table.Slots.{Slots}
use Rattle.kernel_threads.specs.declared.rows.Stage.TheVariants as stage
use Rattle.kernel_threads.proofs.Opened.{same_kept, waiters_once, rising, same_table, saved_there}
use Rattle.kernel_threads.proofs.Viewed.{woken_threads, moved_saved}
use Rattle.mach_types.specs.declared.threads.ThreadState.TheVariants.{Waiting}
use Rattle.kernel_threads.specs.Waits.{numbers_of, is_waiter}
use Rattle.kernel_threads.proofs.Addresses.{numbers_without}
use Rattle.kernel_threads.proofs.Kept.{kept_woken}
use Rattle.kernel_threads.proofs.table.Threads.wake.Goals as goal

pub unreachable-requires : goal.unreachable-requires
unreachable-requires c =
    saved_there c.args.number c.self.inside.slots.value c.deref.result.now c.self.inside.given c.args.self.now (Waiting c.requires.0) c.deref.ensures c.self.view_is c.requires.1 refl
    c.saved_of.result c.saved_of.ensures c.in_default.is

pub invariant_of-self : goal.invariant_of-self
invariant_of-self c =
    let lent = c.deref_mut.result.now in
    kept_woken lent.rows.items c.deref_mut-2.result.now.rows.items c.self.inside.given lent.waiters.items
    (same_kept c.self.inside.slots.value lent c.self.inside.given c.deref_mut.ensures.value c.self.invariant)
    c.take_out.new.waiters.items c.args.number c.answering.result (ap (λ (s : Slots). s.rows.items) c.deref_mut-2.ensures.value ∙ c.set_stage.ensures)
    (c.take_out.ensures ∙ ap (λ (s : Slots). filter (λ w. not (is_waiter c.args.number w)) s.waiters.items) c.deref_mut-2.ensures.value)

pub returns-clause-threads : goal.returns-clause-threads
returns-clause-threads c =
    let lent = c.deref_mut.result.now in
    woken_threads lent.rows.items c.deref_mut-2.result.now.rows.items c.self.inside.given (numbers_of lent.waiters.items) (numbers_of c.take_out.new.waiters.items) c.args.number c.answering.result c.args.self.now
    (ap (λ (s : Slots). s.rows.items) c.deref_mut-2.ensures.value ∙ c.set_stage.ensures)
    (numbers_without c.args.number lent.waiters.items c.take_out.new.waiters.items
    (c.take_out.ensures ∙ ap (λ (s : Slots). filter (λ w. not (is_waiter c.args.number w)) s.waiters.items) c.deref_mut-2.ensures.value))
    (same_table c.self.inside.slots.value lent c.self.inside.given c.args.self.now c.deref_mut.ensures.value c.self.view_is)

pub returns-clause-saved : goal.returns-clause-saved
returns-clause-saved c =
    let lent = c.deref_mut.result.now in
    let read : Some c.in-Some.saved ≡ saved_of c.args.number c.args.self.now.saved =
    sym c.in-Some.is ∙ c.saved_of.ensures ∙ ap (λ (s : Slots). saved_of c.args.number (all_saved_in s.rows.items)) c.deref.ensures
    ∙ ap (λ (t : Table). saved_of c.args.number t.saved) c.self.view_is in
    let answered : Some c.answering.result ≡ option_map (answering c.args.answer) (saved_of c.args.number c.args.self.now.saved) =
    ap Some c.answering.ensures ∙ ap (option_map (answering c.args.answer)) read in
    moved_saved lent.rows.items c.deref_mut-2.result.now.rows.items c.self.inside.given (numbers_of lent.waiters.items) c.args.number (stage.Ready c.answering.result) c.args.self.now
    (ap (λ (s : Slots). s.rows.items) c.deref_mut-2.ensures.value ∙ c.set_stage.ensures)
    (same_table c.self.inside.slots.value lent c.self.inside.given c.args.self.now c.deref_mut.ensures.value c.self.view_is)
    ∙ ap (λ o. with_saved c.args.number o c.args.self.now.saved) answered

pub returns-clause-table : goal.returns-clause-table
returns-clause-table c = (invariant_of-self c).table

pub saved_of-requires : goal.saved_of-requires
saved_of-requires c = rising c.self.inside.slots.value c.deref.result.now c.self.inside.given c.deref.ensures c.self.invariant.table

pub set_stage-requires : goal.set_stage-requires
set_stage-requires c = rising c.self.inside.slots.value c.deref_mut.result.now c.self.inside.given c.deref_mut.ensures.value c.self.invariant.table

pub take_out-requires : goal.take_out-requires
take_out-requires c =
    waiters_once c.self.inside.slots.value c.self.inside.given c.deref_mut-2.result.now.waiters.items
    (ap (λ (s : Slots). s.waiters.items) c.deref_mut-2.ensures.value ∙ ap (λ (s : Slots). s.waiters.items) c.deref_mut.ensures.value) c.self.invariant.table
