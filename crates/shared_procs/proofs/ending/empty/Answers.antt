-- A hart whose stores have entered memory holds nothing.
use Rattle.std.specs.Vec.{with_item}
use Rattle.std.proofs.lemmas.Option.{slice_get-get_or}
use Rattle.shared_procs.proofs.Common.{List, Some, None, set, refl, sym, ap, ◌∙◌, Store}
use Rattle.shared_procs.proofs.PairClosings.{emptied_next, may_still}
use Rattle.shared_procs.proofs.ending.empty.Goals as goal

pub leave_all-requires-clause-storable : goal.leave_all-requires-clause-storable
leave_all-requires-clause-storable c =
    let mine = c.args.mine.now in
    let x = c.index_mut-state.result.now in
    c.requires.may c.args.hart.0 x (slice_get-get_or mine.harts.items c.args.hart.0 x c.requires.listed ∙ ap Some (sym c.index_mut-state.ensures.value))

pub returns-clause-emptied : goal.returns-clause-emptied
returns-clause-emptied c s p x y shared was =
    let mine = c.args.mine.now in
    let h = c.args.hart.0 in
    let z = c.index_mut-state.result.now in
    emptied_next s p h x y shared mine
    (record mine {
      pages = c.leave_all.new.pages;
      harts = with_item mine.harts h (record z { buffer = c.leave_all.new.buffer; reserved = None; waits = None });
    })
    c.args.other.now c.leave_all.new.other c.args.segment.now c.leave_all.new.segment z was c.requires.listed c.index_mut-state.ensures.value
    c.leave_all.ensures.entered c.leave_all.ensures.lost
    (ap (λ (ws : List Store). set mine.harts.items h (record z { buffer = ws; reserved = None; waits = None })) c.leave_all.ensures.buffer) refl refl

pub returns-clause-may : goal.returns-clause-may
returns-clause-may c =
    let mine = c.args.mine.now in
    let h = c.args.hart.0 in
    let z = c.index_mut-state.result.now in
    may_still mine
    (record mine {
      pages = c.leave_all.new.pages;
      harts = with_item mine.harts h (record z { buffer = c.leave_all.new.buffer; reserved = None; waits = None });
    })
    h z c.requires.may (ap (λ (ws : List Store). set mine.harts.items h (record z { buffer = ws; reserved = None; waits = None })) c.leave_all.ensures.buffer)
    (slice_get-get_or mine.harts.items h z c.requires.listed ∙ ap Some (sym c.index_mut-state.ensures.value)) c.leave_all.ensures.entered.permissions
