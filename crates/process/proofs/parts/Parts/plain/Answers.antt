use Rattle.process.proofs.Common.{refl, ◌≡◌, ◌+◌, List, eqb, arith, sym, ap, ◌∙◌, slice_get, set, subst, option_map, all_stored, HartState, IsWritten, Store, by_outcome, counted, here_at, lost_unless, hart_after, stores}
use Rattle.mach_types.specs.declared.events.Choice.TheVariants as asked
use Rattle.rv_inst.specs.Execution.{Outcome}
use Rattle.process.proofs.Entries.{uncounted_as}
use Rattle.process.proofs.Events.{quietly}
use Rattle.process.proofs.HartEvents.{plain_own}
use Rattle.process.proofs.SavedFiles.{saved_plain}
use Rattle.process.proofs.Memory.{pages_written, readable_written}
use Rattle.process.proofs.PlainInstructions.{performing}
use Rattle.process.proofs.Places.{ran_fits, runs_there}
use Rattle.process.proofs.parts.Parts.plain.Goals as goal

pub execute-made-requires-clause-no_fault : goal.execute-made-requires-clause-no_fault
execute-made-requires-clause-no_fault c =
    let plan = c.requires.plan in
    (performing plan.stand c.args.self.now c.args.hart.0 c.index_mut-state.result.now c.args.effect.now plan.place plan.plan c.requires.no_call c.index_mut-state.ensures.value).no_fault

pub overflow_add-state : goal.overflow_add-state
overflow_add-state c =
    let few = ran_fits c.requires.plan.stand c.args.self.now c.args.hart.0 c.index_mut-state.result.now c.requires.plan.place c.index_mut-state.ensures.value in
    let same : c.execute-made.new.self.ran ≡ c.index_mut-state.result.now.ran = ap (λ (z : HartState). z.ran) c.execute-made.ensures.hart in omega (arith, few, same)

pub returns : goal.returns
returns c v place plan =
    let h = c.args.hart.0 in
    let m = c.args.self.now in
    let x = c.index_mut-state.result.now in
    let p = v.plain in
    let m' = c.enter_made.new.self in
    let is = performing v m h x c.args.effect.now place plan c.requires.no_call c.index_mut-state.ensures.value in
    let ws = all_stored is.outcome.entered in
    let made : stores c.execute-made.result ≡ is.outcome.entered = sym c.execute-made.ensures.entered ∙ ap (λ (o : Outcome). o.entered) is.same in
    let wrote : IsWritten ws m.pages m'.pages = subst (λ (ss : List Store). IsWritten (all_stored ss) m.pages m'.pages) made c.enter_made.ensures.pages in
    let y : HartState = record c.execute-made.new.self { ran = c.execute-made.new.self.ran + 1 } in
    uncounted_as v h asked.Exec (by_outcome (here_at v h) plan.thread is.outcome) m m' y place plan.free is.done (record {
      own = plain_own _ v.setting p h plan.thread is.outcome x (counted y) is.own plan.at (ap (λ (z : HartState). record z { ran = z.ran + 1; events = z.events + 1 }) (c.execute-made.ensures.hart ∙ ap (hart_after x) is.same));
      harts = quietly h (by_outcome (here_at v h) plan.thread is.outcome) (set m.harts.items h y) m'.harts.items (record { none_begun = refl; none_taken = refl })
          (λ k. c.enter_made.ensures.harts k ∙ ap (λ (ss : List Store). option_map (lost_unless (eqb k h) (all_stored ss)) (slice_get (set m.harts.items h y) k)) made);
      pages = pages_written p.kernel.pages v.setting.program.break_at p.byte ws m.pages m'.pages place.tied.pages wrote;
      readable = readable_written ws m.pages m'.pages place.tied.readable wrote;
      tables = rw c.enter_made.ensures.kernel place.tied.tables;
      ids = λ k u ne runs. refl;
      saved = rw c.enter_made.ensures.kernel (saved_plain p.file plan.thread (record { file = is.outcome.regs; pc = is.outcome.pc }) c.args.hart m.kernel.threads place.tied.table (runs_there v m c.args.hart plan.thread place plan.at) place.tied.saved);
      table = rw c.enter_made.ensures.kernel place.tied.table;
      ended = c.enter_made.ensures.ended ∙ is.ended;
    })
