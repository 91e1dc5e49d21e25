use Rattle.shared_procs.proofs.Common.{leb, ap, ◌∙◌, setting_of}
use Rattle.shared_procs.proofs.SameRequests.{made_is}
use Rattle.shared_procs.proofs.pair.Pair.is_full.Goals as goal

pub returns : goal.returns
returns c =
    let m = c.self.inside in
    rw (← c.self.view_is) (ap (leb m.limits.steps) (c.len.ensures ∙ m.log.ok.0 ∙ made_is (setting_of m) m.log.items))
