use Rattle.process.proofs.Common.{◌||◌, sym, ap, ◌∙◌, list_any, lies_in}
use Rattle.process.proofs.ExecGates.{parted_any}
use Rattle.process.proofs.exec_gate.waits_outside.Goals as goal

pub returns-then-low : goal.returns-then-low
returns-then-low c =
    c.if-low.true
    ∙ sym (ap (λ b. b || c.waits_in-high.result) c.if-low.true)
    ∙ ap (λ b. b || c.waits_in-high.result) c.waits_in-low.ensures
    ∙ ap (λ b. list_any (lies_in c.below.result) c.args.state.now.buffer || b) c.waits_in-high.ensures
    ∙ parted_any c.args.pages c.args.kept c.below.result c.from_on.result c.below.ensures c.from_on.ensures c.args.state.now.buffer

pub returns-else-low : goal.returns-else-low
returns-else-low c =
    sym (ap (λ b. b || c.waits_in-high.result) c.if-low.false)
    ∙ ap (λ b. b || c.waits_in-high.result) c.waits_in-low.ensures
    ∙ ap (λ b. list_any (lies_in c.below.result) c.args.state.now.buffer || b) c.waits_in-high.ensures
    ∙ parted_any c.args.pages c.args.kept c.below.result c.from_on.result c.below.ensures c.from_on.ensures c.args.state.now.buffer
