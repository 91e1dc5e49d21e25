use Rattle.std.proofs.Common.{List, Some, ◌∙◌, ap, set}
use Rattle.block_view.specs.Ledgers.{kept_in, taken_in, with_last}
use Rattle.block_view.specs.declared.forms.Act.{Act}
use Rattle.block_view.specs.declared.ledger.Going.{Going}
use Rattle.block_view.proofs.Changes.{set_changes}
use Rattle.block_view.proofs.ledger.Ledger.go_on.Goals as goal

pub returns : goal.returns
returns c =
    let was = kept_in c.args.self.now in
    let written = set was.acts c.args.going.place (with_last c.args.passed.now.number c.index_mut.result.now) in
    ap (λ h. record was { acts = written; going = set was.going h (Some c.gone_on.result) }) c.hart.ensures
    ∙ ap (λ (g : Going). record was { acts = written; going = set was.going c.args.passed.now.entry.hart.0 (Some g) }) c.gone_on.ensures
    ∙ ap (λ (acts : List Act). record (taken_in c.args.going c.args.passed.now was) { acts = acts })
    (set_changes (with_last c.args.passed.now.number) was.acts c.args.going.place c.index_mut.result.now c.index_mut.ensures.value c.requires.place)
