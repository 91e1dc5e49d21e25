-- The thread on a hart is interrupted where a request asks for it.
use Rattle.process.proofs.Common.{◌≡◌, true, Some, sym, ap, ◌∙◌, HartState, area_of, file_on, here_at, runs}
use Rattle.process.proofs.Places.{bytes_at, hart_is, thread_is, writable_at}
use Rattle.process.proofs.TakeEvent.{restarted}
use Rattle.process.proofs.parts.Parts.restarted.Goals as goal

pub returns-clause-restarted : goal.returns-clause-restarted
returns-clause-restarted c v place =
    let m = c.args.self.now in
    let h = c.args.hart.0 in
    let x = c.index-state.result.now in
    let here = here_at v h in
    let t = c.in-Some.tid in
    let own = hart_is v m h x place c.index-state.ensures in
    let at : runs here ≡ Some t.0 = thread_is (runs here) t (sym c.in-Some.is ∙ ap (λ (y : HartState). y.running) own) in
    let asks : here.restart ≡ true = sym (ap (λ (y : HartState). y.restart) own) ∙ c.if-not-state.false in
    restarted here t.0 c.interrupted.result c.area_of-area.result x.pc m c.interrupted.new.self asks at (bytes_at v m h place) (writable_at v m h place)
    (c.area_of-area.ensures ∙ ap (area_of t.0) place.tied.tables.areas) (ap (λ (y : HartState). y.pc) own ∙ ap (λ o. (file_on here o).pc) at)
    c.interrupted.ensures.outcome c.interrupted.ensures.pages c.interrupted.ensures.harts
