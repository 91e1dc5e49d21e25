use Rattle.std.proofs.Common.{refl, rules}
use Rattle.kernel_threads.proofs.Moved.{moved}
use Rattle.kernel_threads.proofs.Opened.{rising, saved_there}
use Rattle.kernel_threads.specs.declared.rows.Stage.TheVariants as stage
use Rattle.mach_types.specs.declared.threads.ThreadState.TheVariants.{Ready}
use Rattle.kernel_threads.proofs.table.Threads.run.Goals as goal

pub invariant_of-self : goal.invariant_of-self
invariant_of-self c =
    (moved c.self.inside.slots.value c.deref_mut.result.now c.self.inside.given c.args.self.now c.set_stage.new.rows.items
    c.args.tid.0 (stage.Running c.args.hart) Ready c.deref_mut.ensures.value c.self.view_is c.self.invariant c.set_stage.ensures
    c.requires refl refl).kept

pub returns : goal.returns
returns c =
    let after = moved c.self.inside.slots.value c.deref_mut.result.now c.self.inside.given c.args.self.now c.set_stage.new.rows.items
    c.args.tid.0 (stage.Running c.args.hart) Ready c.deref_mut.ensures.value c.self.view_is c.self.invariant c.set_stage.ensures
    c.requires refl refl in
    record { answer = search rules; threads = after.threads; saved = after.saved; table = after.kept.table }

pub unreachable-requires : goal.unreachable-requires
unreachable-requires c =
    saved_there c.args.tid.0 c.self.inside.slots.value c.deref.result.now c.self.inside.given c.args.self.now Ready c.deref.ensures c.self.view_is c.requires refl
    c.saved_of.result c.saved_of.ensures c.in_default.is

pub saved_of-requires : goal.saved_of-requires
saved_of-requires c = rising c.self.inside.slots.value c.deref.result.now c.self.inside.given c.deref.ensures c.self.invariant.table

pub set_stage-requires : goal.set_stage-requires
set_stage-requires c = rising c.self.inside.slots.value c.deref_mut.result.now c.self.inside.given c.deref_mut.ensures.value c.self.invariant.table
