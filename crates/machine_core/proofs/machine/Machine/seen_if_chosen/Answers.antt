use Rattle.machine_core.proofs.Common.{sym, ap, ◌∙◌, Some, seen_if, history}
use Rattle.machine_core.proofs.machine.Machine.seen_if_chosen.Goals as goal

pub returns-then-is_chosen : goal.returns-then-is_chosen
returns-then-is_chosen c =
    let v = c.args.self.now in
    let past = history v.setting v.log in
    ap Some c.sight.ensures ∙ ap (λ b. seen_if b v.setting v.seed c.args.hart.0 past) (sym c.if-is_chosen.true ∙ c.is_chosen.ensures)

pub returns-else-is_chosen : goal.returns-else-is_chosen
returns-else-is_chosen c =
    let v = c.args.self.now in
    let past = history v.setting v.log in
    ap (λ b. seen_if b v.setting v.seed c.args.hart.0 past) (sym c.if-is_chosen.false ∙ c.is_chosen.ensures)
