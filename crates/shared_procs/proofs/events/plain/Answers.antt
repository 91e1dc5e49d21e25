-- An instruction over the pages and the segment.
use Rattle.hart_state.specs.State.{hart_after}
use Rattle.process.proofs.Laws.{plain_own, runs_there, saved_plain}
use Rattle.process.proofs.PairLaws.{ran_fits}
use Rattle.shared_procs.proofs.Common.{◌≡◌, ◌+◌, not, List, set, eqb, slice_get, option_map, arith, refl, sym, ap, ◌∙◌, subst, all_stored, aside, by_outcome, counted, filter, half, HartState, HaveEntered, here_two, is_shared, IsTied, lost_unless, Outcome, quietly, setting, stand, Store, stores, Exec}
use Rattle.shared_procs.proofs.Entered.{readable_kept}
use Rattle.shared_procs.proofs.PairEvents.{made_as}
use Rattle.shared_procs.proofs.PairInstructions.{performing}
use Rattle.shared_procs.proofs.events.plain.Goals as goal

pub execute-made-requires-clause-allowed : goal.execute-made-requires-clause-allowed
execute-made-requires-clause-allowed c =
    let its = c.requires.next in
    (performing its.setting its.pair its.process c.args.hart.0 c.args.mine.now c.args.segment.now c.args.other.now.parts c.index_mut-state.result.now
    c.args.effect.now its.acting its.step c.index_mut-state.ensures.value c.requires.no_call).allowed

pub execute-made-requires-clause-no_fault : goal.execute-made-requires-clause-no_fault
execute-made-requires-clause-no_fault c =
    let its = c.requires.next in
    (performing its.setting its.pair its.process c.args.hart.0 c.args.mine.now c.args.segment.now c.args.other.now.parts c.index_mut-state.result.now
    c.args.effect.now its.acting its.step c.index_mut-state.ensures.value c.requires.no_call).no_fault

pub overflow_add-state : goal.overflow_add-state
overflow_add-state c =
    let its = c.requires.next in
    let few = ran_fits (stand its.setting its.pair its.process) c.args.mine.now.parts c.args.hart.0 c.index_mut-state.result.now its.acting.place c.index_mut-state.ensures.value in
    let same : c.execute-made.new.self.ran ≡ c.index_mut-state.result.now.ran = ap (λ (z : HartState). z.ran) c.execute-made.ensures.hart in
    omega (arith, few, same)

pub returns : goal.returns
returns c s m p acting step =
    let h = c.args.hart.0 in
    let mine = c.args.mine.now in
    let other = c.args.other.now in
    let segment = c.args.segment.now in
    let v = stand s m p in
    let q = half p m in
    let place = acting.place in
    let t = step.thread in
    let x = c.index_mut-state.result.now in
    let is = performing s m p h mine segment other.parts x c.args.effect.now acting step c.index_mut-state.ensures.value c.requires.no_call in
    let d = by_outcome (here_two s m p h) t is.outcome in
    let made : stores c.execute-made.result ≡ is.outcome.entered = sym c.execute-made.ensures.entered ∙ ap (λ (o : Outcome). o.entered) is.same in
    let entered : HaveEntered is.outcome.entered mine.parts.pages segment c.enter.new.pages c.enter.new.segment =
    subst (λ (ws : List Store). HaveEntered ws mine.parts.pages segment c.enter.new.pages c.enter.new.segment) made c.enter.ensures in
    let y : HartState = record c.execute-made.new.self { ran = c.execute-made.new.self.ran + 1 } in
    made_as s m p h Exec d mine other _ _ _ y place step.free is.done
    (record {
      own =
          plain_own _ v.setting q h t is.outcome x (counted y) is.own step.at
          (ap (λ (z : HartState). record z { ran = z.ran + 1; events = z.events + 1 }) (c.execute-made.ensures.hart ∙ ap (hart_after x) is.same));
      harts =
          quietly h d (set mine.parts.harts.items h y) c.tell.new.mine.harts.items (record { none_begun = refl; none_taken = refl })
          (λ k.
          c.tell.ensures.harts k
          ∙ ap (λ (ws : List Store). option_map (lost_unless (eqb k h) (all_stored ws)) (slice_get (set mine.parts.harts.items h y) k)) made);
      pages = rw c.tell.ensures.pages (entered.pages q.kernel.pages (setting s p).program.break_at q.byte place.tied.pages);
      readable = rw c.tell.ensures.pages (readable_kept mine.parts.pages c.enter.new.pages entered.permissions place.tied.readable);
      tables = rw c.tell.ensures.kernel place.tied.tables;
      ids = λ k u ne runs. refl;
      table = rw c.tell.ensures.kernel place.tied.table;
      saved =
          rw c.tell.ensures.kernel
          (saved_plain q.file t (record { file = is.outcome.regs; pc = is.outcome.pc }) c.args.hart mine.parts.kernel.threads place.tied.table
          (runs_there v mine.parts c.args.hart t place step.at) place.tied.saved);
      ended = c.tell.ensures.ended ∙ is.ended;
    })
    (subst (λ (ws : List Store). IsTied (setting s (not p)) (aside h d (filter is_shared (all_stored ws)) (half (not p) m)) c.tell.new.other) made
    (c.tell.ensures.other (setting s (not p)) (half (not p) m) d step.beside refl refl))
    (entered.shared m.shared acting.holds) refl refl
