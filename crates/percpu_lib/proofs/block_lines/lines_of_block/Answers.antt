use Rattle.std.proofs.Common.{◌≡◌, List, [], ◌∷◌, ◌++◌, ap, ◌∙◌, append_assoc}
use Rattle.percpu_lib.specs.BlockLines.{end_lines, leave_lines, start_lines}
use Rattle.percpu_lib.specs.declared.lines.Line.{Line}
use Rattle.percpu_lib.specs.declared.lines.Line.TheVariants as line
use Rattle.percpu_lib.proofs.block_lines.lines_of_block.Goals as goal

-- seven parts, each appended to those before it
joined : (a b c d e f g two three four five six seven : List Line) → two ≡ a ++ b → three ≡ two ++ c
    → four ≡ three ++ d → five ≡ four ++ e → six ≡ five ++ f → seven ≡ six ++ g
    → seven ≡ a ++ (b ++ (c ++ (d ++ (e ++ (f ++ g)))))
joined a b c d e f g two three four five six seven second third fourth fifth sixth last =
    rw (last, sixth, fifth, fourth, third, second) (simp append_assoc)

pub returns : goal.returns
returns c =
    let base = c.args.base in
    joined (line.Label base ∷ []) c.args.first.now (start_lines c.args.slots base c.args.shift)
    c.args.inside.now (leave_lines base) c.args.aborted.now (end_lines base) _ _ _ _ _ _
    (c.in_ok-extend_from_slice.ensures.items
    ∙ ap (λ (xs : List Line). xs ++ c.args.first.now) c.in_ok-lines.ensures.items)
    (c.in_ok-extend_from_slice-2.ensures.items
    ∙ ap (λ (xs : List Line). c.extend_from_slice.new.self.items ++ xs) c.start_of_block-start.ensures)
    c.in_ok-extend_from_slice-3.ensures.items c.in_ok-extend_from_slice-4.ensures.items
    c.in_ok-extend_from_slice-5.ensures.items c.in_ok-extend_from_slice-6.ensures.items
