use Rattle.std.proofs.Common.{[], ap, map, sym, ◌∙◌}
use Rattle.std.proofs.lemmas.Result.{IfOk-weaker}
use Rattle.block_model.specs.Deciding.{history}
use Rattle.block_view.specs.Following.{behind}
use Rattle.block_view.specs.Ledgers.{Kept, kept_in, open_from}
use Rattle.block_view.specs.Standing.{at_the_end, standings}
use Rattle.block_view.proofs.GoneActs.{open_behind}
use Rattle.block_view.proofs.OpenActs.{open_told}
use Rattle.block_view.proofs.ledger.Ledger.ends.Goals as goal

pub returns : goal.returns
returns c =
    let s = c.args.machine.now.setting in
    let all = history s c.args.machine.now.log in
    let gone = c.requires.follows.gone in
    let tied = c.requires.follows.tied in
    IfOk-weaker c.open_acts.result _ _
    (λ acts is. is ∙ sym (open_behind gone (kept_in c.close.new.ledger))
    ∙ ap (λ (k : Kept). open_from k 0 k.acts) (c.close.ensures gone tied)
    ∙ open_told s all (behind gone (kept_in c.args.self)) tied (map (at_the_end s all []) (standings s all)))
    c.open_acts.ensures
