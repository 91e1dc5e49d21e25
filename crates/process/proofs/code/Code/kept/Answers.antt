-- An instruction that is kept is that of its word.
use Rattle.process.proofs.Common.{◌<◌, List, ImagePage, ap, ◌∙◌, arith, length, sym, instruction_of, code_word}
use Rattle.process.proofs.Decoding.{kept_at}
use Rattle.process.proofs.code.Code.kept.Goals as goal

pub returns-in-Some : goal.returns-in-Some
returns-in-Some c =
    let p = c.self.inside in
    let kept = c.self.invariant in
    let below : _ < length p.insts.items = omega (arith, c.if-place-len.true, c.len.ensures, p.insts.ok.0) in
    sym c.in-Some.is
    ∙ (kept_at p.pages p.first c.args.at p.insts.items c.index.result.now kept.0 kept.1 kept.2 kept.3 c.requires c.ranges.at.fits below c.index.ensures
    ∙ ap (λ (pages : List ImagePage). instruction_of (code_word pages c.args.at)) c.self.view_is)
