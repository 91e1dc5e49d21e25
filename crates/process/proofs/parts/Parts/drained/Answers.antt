use Rattle.process.proofs.Common.{◌≡◌, refl, [], ◌+◌, List, ◌∷◌, eqb, set, slice_get, ap, ◌∙◌, subst, option_map, all_stored, HartState, IsWritten, Store, counted, here_at, lost_unless, Stored, stores, done_drain_of}
use Rattle.mach_types.specs.declared.events.Choice.TheVariants as asked
use Rattle.process.proofs.DrainEvent.{can_enter}
use Rattle.process.proofs.Entries.{uncounted_as, oldest}
use Rattle.process.proofs.Events.{quietly}
use Rattle.process.proofs.HartEvents.{drain_own}
use Rattle.process.proofs.Memory.{pages_written, readable_written}
use Rattle.process.proofs.Places.{goes_on, hart_is, was_not_stuck}
use Rattle.process.proofs.parts.Parts.drained.Goals as goal

pub enter_made-requires-clause-writable : goal.enter_made-requires-clause-writable
enter_made-requires-clause-writable c =
    can_enter c.requires.stand c.args.self.now c.args.hart.0 c.index_mut-state.result.now c.pop-oldest.result c.requires.place c.requires.paged c.index_mut-state.ensures.value c.pop-oldest.ensures.oldest

pub returns : goal.returns
returns c v place free =
    let h = c.args.hart.0 in
    let m = c.args.self.now in
    let x = c.index_mut-state.result.now in
    let p = v.plain in
    let m' = c.enter_made.new.self in
    let own = hart_is v m h x place c.index_mut-state.ensures.value in
    let first = oldest (here_at v h) free in
    let w = first.0 in
    let made : stores c.pop-oldest.result ≡ w ∷ [] = ap stores (c.pop-oldest.ensures.oldest ∙ ap (λ (z : HartState). slice_get z.buffer 0) own ∙ ap (λ (ws : List Store). slice_get ws 0) first.1.1) in
    let wrote : IsWritten (Stored w ∷ []) m.pages m'.pages = subst (λ (ws : List Store). IsWritten (all_stored ws) m.pages m'.pages) made c.enter_made.ensures.pages in
    let y : HartState = record x { buffer = c.pop-oldest.new.self } in
    uncounted_as v h asked.Drain (done_drain_of (here_at v h) (w ∷ first.1.0)) m m' y place free (ap (done_drain_of (here_at v h)) first.1.1) (record {
      own = drain_own _ v.setting p h w first.1.0 x (counted y) own (ap (λ (ws : List Store). let z : HartState = record x { buffer = ws; events = x.events + 1 } in z) c.pop-oldest.ensures.rest);
      harts = quietly h (done_drain_of (here_at v h) (w ∷ first.1.0)) (set m.harts.items h y) m'.harts.items (record { none_begun = refl; none_taken = refl })
          (λ k. c.enter_made.ensures.harts k ∙ ap (λ (ws : List Store). option_map (lost_unless (eqb k h) (all_stored ws)) (slice_get (set m.harts.items h y) k)) made);
      pages = pages_written p.kernel.pages v.setting.program.break_at p.byte (Stored w ∷ []) m.pages m'.pages place.tied.pages wrote;
      readable = readable_written (Stored w ∷ []) m.pages m'.pages place.tied.readable wrote;
      tables = rw c.enter_made.ensures.kernel place.tied.tables;
      ids = λ k u ne runs. refl;
      table = rw c.enter_made.ensures.kernel place.tied.table;
      saved = rw c.enter_made.ensures.kernel place.tied.saved;
      ended = c.enter_made.ensures.ended ∙ goes_on v m h p.kernel place (was_not_stuck v m h place);
    })
