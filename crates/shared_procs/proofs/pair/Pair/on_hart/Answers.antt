use Rattle.shared_procs.proofs.Common.{◌≡◌, ◌<◌, cond, true, false, not, is_some, ◌∙◌, goes_on, pair_seen, runs_in, seen, setting, setting_of}
use Rattle.shared_procs.proofs.pair.Pair.on_hart.Goals as goal

pub returns : goal.returns
returns c =
    let m = c.self.inside in
    let h = c.args.hart.0 in
    let s = setting_of m in
    let now = pair_seen (seen m) in
    let tied = c.self.invariant.tied in
    let lt : h < m.limits.harts = rw (← c.self.view_is) at c.requires in
    let two : c.runs_on-second.result ≡ is_some (runs_in now true h) = c.runs_on-second.ensures (setting s true) now.second tied.second lt in
    let one : c.runs_on-first.result ≡ is_some (runs_in now false h) = c.runs_on-first.ensures (setting s false) now.first tied.first lt in
    let goes : c.goes_on-goes.result ≡ goes_on now false = c.goes_on-goes.ensures (setting s false) now.first tied.first in
    rw (← c.self.view_is) (c.is_of_second_where.ensures ∙ (λ i. cond (two i) true (cond (one i) false (not (goes i)))))
