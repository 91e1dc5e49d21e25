use Rattle.process.proofs.Common.{rules, Some, ap, get_or, sym, ◌∙◌, asked_by}
use Rattle.process.proofs.Membarriers.{asked_one}
use Rattle.process.proofs.EachHart.{all_through, one_through}
use Rattle.process.proofs.requests.ask_each.Goals as goal

pub loop-k-preserved : goal.loop-k-preserved
loop-k-preserved c =
    let h = c.args.hart.0 in
    let k = c.loop-k.k in
    let x = c.index-harts-k.result in
    one_through (λ i. asked_by i h (Some (record { targets = c.args.targets; restart = c.args.restart }))) k c.args.harts.now c.loop-k.harts x c.ask.new.state (search rules) c.index-harts-k.is
    (c.ask.ensures ∙ asked_one k h c.args.targets c.args.restart c.has_hart.result (get_or c.loop-k.harts k x) c.has_hart.ensures
    ∙ ap (asked_by k h (Some (record { targets = c.args.targets; restart = c.args.restart }))) (sym c.index-harts-k.is)) c.loop-k.invariant

pub returns : goal.returns
returns c =
    all_through (λ i. asked_by i c.args.hart.0 (Some (record { targets = c.args.targets; restart = c.args.restart }))) c.loop-k.k c.args.harts.now c.loop-k.harts (search rules) c.loop-k.invariant
