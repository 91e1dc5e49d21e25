use Rattle.shared_procs.proofs.Common.{◌≡◌, cond, true, false, not, ◌∙◌, goes_on, pair_seen, seen, setting, setting_of}
use Rattle.shared_procs.proofs.pair.Pair.is_over.Goals as goal

pub returns : goal.returns
returns c =
    let m = c.self.inside in
    let now = pair_seen (seen m) in
    let tied = c.self.invariant.tied in
    let one : c.goes_on-first.result ≡ goes_on now false = c.goes_on-first.ensures (setting (setting_of m) false) now.first tied.first in
    let two : c.goes_on-second.result ≡ goes_on now true = c.goes_on-second.ensures (setting (setting_of m) true) now.second tied.second in
    rw (← c.self.view_is) (c.is_over_where.ensures ∙ (λ i. cond (one i) false (not (two i))))
