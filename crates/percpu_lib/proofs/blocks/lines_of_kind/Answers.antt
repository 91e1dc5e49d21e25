use Rattle.std.proofs.Common.{◌≡◌, List, IfOk, subst, sym, ap, ◌∙◌}
use Rattle.percpu_lib.specs.BlockKinds.{kind_of}
use Rattle.percpu_lib.specs.BlockLines.{block_lines}
use Rattle.percpu_lib.specs.Frees.{free_aborted, free_first, free_steps}
use Rattle.percpu_lib.specs.Kinds.{lines_of, steps_of}
use Rattle.percpu_lib.specs.declared.blocks.BlockKind.{BlockKind}
use Rattle.percpu_lib.specs.declared.lines.Line.{Line}
use Rattle.percpu_lib.proofs.blocks.lines_of_kind.Goals as goal

pub returns : goal.returns
returns c =
    let slots = c.args.slots in
    let base = c.args.base in
    let made = c.lines_of_block-in-Frees.result in
    let steps : c.deref-in-Frees.result.now ≡ free_steps slots base =
    c.deref-in-Frees.ensures.value ∙ c.in_ok-steps.ensures
    ∙ ap (λ (k : BlockKind). steps_of (kind_of k) slots base) c.in-Frees.is in
    subst (λ (k : BlockKind). IfOk made (λ lines. lines.items ≡ lines_of (kind_of k) slots base)) (sym c.in-Frees.is)
    (subst (λ (xs : List Line). IfOk made (λ lines. lines.items
    ≡ block_lines slots base 13 (free_first slots) xs (free_aborted slots))) steps c.lines_of_block-in-Frees.ensures)
