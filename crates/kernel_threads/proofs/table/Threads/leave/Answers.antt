use Rattle.std.proofs.Common.{refl}
use Rattle.kernel_threads.proofs.Moved.{moved}
use Rattle.kernel_threads.proofs.Opened.{rising}
use Rattle.kernel_threads.specs.declared.rows.Stage.TheVariants as stage
use Rattle.mach_types.specs.declared.threads.ThreadState.TheVariants.{Running}
use Rattle.kernel_threads.proofs.table.Threads.leave.Goals as goal

pub invariant_of-self : goal.invariant_of-self
invariant_of-self c =
    (moved c.self.inside.slots.value c.deref_mut.result.now c.self.inside.given c.args.self.now c.set_stage.new.rows.items
    c.args.tid.0 (stage.Ready c.args.saved) (Running c.requires.0) c.deref_mut.ensures.value c.self.view_is c.self.invariant c.set_stage.ensures
    c.requires.1 refl refl).kept

pub returns : goal.returns
returns c =
    let after = moved c.self.inside.slots.value c.deref_mut.result.now c.self.inside.given c.args.self.now c.set_stage.new.rows.items
    c.args.tid.0 (stage.Ready c.args.saved) (Running c.requires.0) c.deref_mut.ensures.value c.self.view_is c.self.invariant c.set_stage.ensures
    c.requires.1 refl refl in
    record { threads = after.threads; saved = after.saved; table = after.kept.table }

pub set_stage-requires : goal.set_stage-requires
set_stage-requires c = rising c.self.inside.slots.value c.deref_mut.result.now c.self.inside.given c.deref_mut.ensures.value c.self.invariant.table
