use Rattle.process.proofs.Common.{sym, ap, ◌∙◌, option_and_then, HartState, area_here, area_of, here_in_plain, runs}
use Rattle.process.proofs.Places.{thread_is}
use Rattle.process.proofs.HartStates.{hart_tied}
use Rattle.process.proofs.parts.Parts.area.Goals as goal

pub returns-in-Some : goal.returns-in-Some
returns-in-Some c s p tied lt =
    let here = here_in_plain s p c.args.hart.0 in
    let own = hart_tied s p c.args.self.now c.args.hart.0 c.index.result.now tied lt c.index.ensures in
    let at = thread_is (runs here) c.in-Some.tid (sym c.in-Some.is ∙ ap (λ (y : HartState). y.running) own) in
    c.area_of.ensures ∙ ap (area_of c.in-Some.tid.0) tied.tables.areas ∙ sym (ap (option_and_then (area_here here)) at)
