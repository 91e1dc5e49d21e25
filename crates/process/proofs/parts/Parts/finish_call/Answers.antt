-- What a call leaves of the parts, once the tables and the pages are as it leaves them.
use Rattle.process.proofs.Common.{◌≡◌, ◌+◌, List, length, get_or, set, eqb, arith, ap, ◌∙◌, slice_get, option_map, HartState, Kernel, Parts, asked_by, by_call, counted, credit_of, hart_at, here_at, is_stuck, lost_unless, gives_up}
use Rattle.mach_types.specs.declared.events.Choice.TheVariants as asked
use Rattle.process.proofs.Membarriers.{call_beside, eighth}
use Rattle.process.proofs.SystemCalls.{call_own, ended_after, executed, ids_kept, same_ran}
use Rattle.process.proofs.Entries.{uncounted_as}
use Rattle.process.proofs.Places.{hart_is, in_list, ran_fits, tables_at}
use Rattle.process.proofs.parts.Parts.finish_call.Goals as goal

pub index_mut-state-requires : goal.index_mut-state-requires
index_mut-state-requires c =
    let there = in_list c.requires.stand c.requires.before c.args.hart.0 c.requires.called.place in
    let same = ap (λ (xs : List HartState). length xs) c.requires.called.harts in
    omega (arith, there, same)

pub ask-requires : goal.ask-requires
ask-requires c = eighth c.requires.stand c.requires.before c.args.hart.0 c.requires.called.place

pub overflow_add-state : goal.overflow_add-state
overflow_add-state c =
    let x = c.index_mut-state.result.now in
    let value : x ≡ get_or c.requires.before.harts.items c.args.hart.0 x =
    c.index_mut-state.ensures.value ∙ ap (λ (xs : List HartState). get_or xs c.args.hart.0 x) c.requires.called.harts in
    let few = ran_fits c.requires.stand c.requires.before c.args.hart.0 x c.requires.called.place value in
    let same : c.end_call.new.state.ran ≡ x.ran = ap (λ (z : HartState). z.ran) c.end_call.ensures ∙ same_ran c.args.end c.args.saved x in
    omega (arith, few, same)

pub returns : goal.returns
returns c v m d called =
    let h = c.args.hart.0 in
    let x = c.index_mut-state.result.now in
    let here = here_at v h in
    let t = called.thread in
    let place = called.place in
    let made = called.made in
    let value : x ≡ get_or m.harts.items h x = c.index_mut-state.ensures.value ∙ ap (λ (xs : List HartState). get_or xs h x) called.harts in
    let y : HartState = record c.end_call.new.state { ran = c.end_call.new.state.ran + 1 } in
    let same : c.ask.new.self.kernel ≡ c.args.self.now.kernel = c.ask.ensures.kernel ∙ c.lose.ensures.kernel in
    let m' : Parts = record c.ask.new.self { ended = c.end_after-self.result } in
    let barrier : HartState → HartState = asked_by h h d.barrier in
    uncounted_as v h asked.Exec (by_call here d) m m' (barrier y) place called.free called.done (record {
      own = call_own _ v.setting v.plain h t c.args.end c.args.saved d x (counted y) (hart_is v m h x place value) called.at made.hart made.ids made.own made.barrier (ap executed c.end_call.ensures);
      harts = call_beside here h d m.harts.items c.ask.new.self.harts.items (hart_at v.setting v.plain h (credit_of m.harts.items h)) y (place.tied.harts h place.lt)
          (λ k. c.ask.ensures.harts k ∙ ap (λ b. option_map (asked_by k h b) (slice_get c.lose.new.self.harts.items k)) made.barrier
          ∙ ap (option_map (asked_by k h d.barrier)) (c.lose.ensures.harts k
          ∙ ap (λ ws. option_map (lost_unless (eqb k h) ws) (slice_get (set c.args.self.now.harts.items h y) k)) called.written
          ∙ ap (λ (xs : List HartState). option_map (lost_unless (eqb k h) d.entered) (slice_get (set xs h y) k)) called.harts));
      pages = rw (c.ask.ensures.pages, c.lose.ensures.pages) made.pages;
      readable = rw (c.ask.ensures.pages, c.lose.ensures.pages) (λ n may. (c.keeps.ensures.writable n may).0);
      tables = rw same made.tables;
      ids = ids_kept v.setting.limits.harts h t (gives_up c.args.end) v.plain d (tables_at v m h place) called.at made.ids;
      table = rw same called.table;
      saved = rw same (made.kept place.tied.saved);
      ended = ended_after c.args.end d c.end_after-self.result (is_stuck c.ask.new.self.kernel.threads.threads) made.ended
          (ap (λ (k : Kernel). is_stuck k.threads.threads) same ∙ ap is_stuck made.tables.threads) c.end_after-self.ensures;
    })
