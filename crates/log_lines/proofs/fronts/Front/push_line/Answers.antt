use Rattle.std.proofs.Common.{◌∙◌, ◌++◌, List, ℕ, ap, arith}
use Rattle.log_lines.proofs.LineParts.{front_kept, line_behind}
use Rattle.log_lines.specs.LineParts.{front_text, tail_text}
use Rattle.log_lines.proofs.fronts.Front.push_line.Goals as goal

pub returns-clause-line : goal.returns-clause-line
returns-clause-line c =
    let e = c.args.entry.now in
    let text = c.args.text.now.items in
    let f = c.renew.new.self in
    let kept = front_kept text f.bytes c.extend.new.text.items f.len _ c.extend.ensures.items (omega (arith, c.len.ensures, c.args.text.now.ok)) in
    c.end_line.ensures.items ∙ ap (λ (xs : List ℕ). xs ++ tail_text e.pc) (kept ∙ ap (λ xs. text ++ xs) f.text)
    ∙ line_behind e text (front_text f.entry) c.renew.ensures
