use Rattle.process.proofs.Common.{sym, ap, ◌∙◌, here_in_plain, runs, file_of}
use Rattle.process.proofs.HartStates.{hart_tied}
use Rattle.process.proofs.RestartableSequences.{named_by, view_is}
use Rattle.process.proofs.parts.Parts.named.Goals as goal

pub returns : goal.returns
returns c s p tied lt =
    let here = here_in_plain s p c.args.hart.0 in
    let x = c.index-state.result.now in
    let own = hart_tied s p c.args.self.now c.args.hart.0 x tied lt c.index-state.ensures in
    let has = sym (c.area.ensures s p tied lt) ∙ c.in-Some.is in
    c.named.ensures ∙ named_by here _ (file_of x) c.in-Some.area (runs here) (view_is s p c.args.self.now c.args.hart.0 _ x tied own) (ap file_of own) has
