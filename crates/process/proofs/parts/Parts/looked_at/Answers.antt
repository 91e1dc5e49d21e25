use Rattle.process.proofs.Common.{◌≡◌, sym, ap, ◌∙◌, Some, option_map, view, here_in_plain, area_on}
use Rattle.rseq_area.specs.Lookups.{looked_at}
use Rattle.process.proofs.HartStates.{hart_tied}
use Rattle.process.proofs.RestartableSequences.{view_is}
use Rattle.process.proofs.parts.Parts.looked_at.Goals as goal

pub returns : goal.returns
returns c s p tied lt =
    let h = c.args.hart.0 in
    let here = here_in_plain s p h in
    let own = hart_tied s p c.args.self.now h c.index-state.result.now tied lt c.index-state.ensures in
    let has : area_on here ≡ Some c.in_ok-area.area = sym (c.area.ensures s p tied lt) ∙ c.in_ok-area.was in
    ap Some (c.looked_at.ensures ∙ ap (λ byte. looked_at byte c.in_ok-area.area) (view_is s p c.args.self.now h _ c.index-state.result.now tied own))
    ∙ ap (option_map (looked_at (view here))) (sym has)

pub returns-in_err-area : goal.returns-in_err-area
returns-in_err-area c s p tied lt =
    let here = here_in_plain s p c.args.hart.0 in
    c.from_residual.ensures ∙ ap (option_map (looked_at (view here))) (sym c.in_err-area.was ∙ c.area.ensures s p tied lt)
