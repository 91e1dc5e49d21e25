-- The oldest store enters memory.
use Rattle.mach_types.specs.declared.events.Choice.TheVariants as asked
use Rattle.process.proofs.PairLaws.{drain_own, goes_on, oldest}
use Rattle.shared_procs.proofs.Common.{◌≡◌, ◌+◌, not, List, [], ◌∷◌, set, eqb, slice_get, option_map, refl, sym, ap, ◌∙◌, subst, all_stored, AreStorable, aside, counted, done_drain_of, filter, half, hart_is, HartState, HaveEntered, here_two, is_shared, IsTied, lost_unless, quietly, setting, stand, Store, stores, was_not_stuck}
use Rattle.shared_procs.proofs.Entered.{oldest_may, readable_kept}
use Rattle.shared_procs.proofs.PairEvents.{made_as}
use Rattle.shared_procs.proofs.PairMemory.{waiting_may}
use Rattle.shared_procs.proofs.events.drain.Goals as goal

pub enter-requires-clause-storable : goal.enter-requires-clause-storable
enter-requires-clause-storable c =
    let v = stand c.requires.setting c.requires.pair c.requires.process in
    let mine = c.args.mine.now in
    let h = c.args.hart.0 in
    let x = c.index_mut-state.result.now in
    let own = hart_is v mine.parts h x c.requires.acting.place c.index_mut-state.ensures.value in
    oldest_may mine.parts.pages x.buffer c.pop-oldest.result
    (subst (AreStorable mine.parts.pages) (sym (ap (λ (y : HartState). y.buffer) own))
    (waiting_may c.requires.setting c.requires.pair c.requires.process h mine c.args.segment.now c.requires.acting h))
    c.pop-oldest.ensures.oldest

pub returns : goal.returns
returns c s m p acting tied free =
    let h = c.args.hart.0 in
    let mine = c.args.mine.now in
    let other = c.args.other.now in
    let segment = c.args.segment.now in
    let v = stand s m p in
    let q = half p m in
    let place = acting.place in
    let x = c.index_mut-state.result.now in
    let own = hart_is v mine.parts h x place c.index_mut-state.ensures.value in
    let first = oldest (here_two s m p h) free in
    let w = first.0 in
    let rest = first.1.0 in
    let d = done_drain_of (here_two s m p h) (w ∷ rest) in
    let made : stores c.pop-oldest.result ≡ w ∷ [] =
    ap stores
    (c.pop-oldest.ensures.oldest
    ∙ ap (λ (z : HartState). slice_get z.buffer 0) own
    ∙ ap (λ (ws : List Store). slice_get ws 0) first.1.1) in
    let entered : HaveEntered (w ∷ []) mine.parts.pages segment c.enter.new.pages c.enter.new.segment =
    subst (λ (ws : List Store). HaveEntered ws mine.parts.pages segment c.enter.new.pages c.enter.new.segment) made c.enter.ensures in
    let y : HartState = record x { buffer = c.pop-oldest.new.self } in
    made_as s m p h asked.Drain d mine other _ _ _ y place free (ap (done_drain_of (here_two s m p h)) first.1.1)
    (record {
      own =
          drain_own _ v.setting q h w rest x (counted y) own
          (ap (λ (ws : List Store). let z : HartState = record x { buffer = ws; events = x.events + 1 } in z) c.pop-oldest.ensures.rest);
      harts =
          quietly h d (set mine.parts.harts.items h y) c.tell.new.mine.harts.items (record { none_begun = refl; none_taken = refl })
          (λ k.
          c.tell.ensures.harts k
          ∙ ap (λ (ws : List Store). option_map (lost_unless (eqb k h) (all_stored ws)) (slice_get (set mine.parts.harts.items h y) k)) made);
      pages = rw c.tell.ensures.pages (entered.pages q.kernel.pages (setting s p).program.break_at q.byte place.tied.pages);
      readable = rw c.tell.ensures.pages (readable_kept mine.parts.pages c.enter.new.pages entered.permissions place.tied.readable);
      tables = rw c.tell.ensures.kernel place.tied.tables;
      ids = λ k u ne runs. refl;
      table = rw c.tell.ensures.kernel place.tied.table;
      saved = rw c.tell.ensures.kernel place.tied.saved;
      ended = c.tell.ensures.ended ∙ goes_on v mine.parts h q.kernel place (was_not_stuck v mine.parts h place);
    })
    (subst (λ (ws : List Store). IsTied (setting s (not p)) (aside h d (filter is_shared (all_stored ws)) (half (not p) m)) c.tell.new.other) made
    (c.tell.ensures.other (setting s (not p)) (half (not p) m) d tied refl refl))
    (entered.shared m.shared acting.holds) refl refl
