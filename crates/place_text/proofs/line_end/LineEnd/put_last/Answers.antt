use Rattle.std.proofs.Common.{◌-◌, ◌∙◌, ap, arith, drop, length, sym}
use Rattle.std.proofs.lemmas.List.{drop-append-le, drop-drop}
use Rattle.place_text.proofs.line_end.LineEnd.put_last.Goals as goal

pub returns-clause-text : goal.returns-clause-text
returns-clause-text c =
    let bytes = c.args.bytes.now in
    let more = length bytes - c.args.count in
    sym (drop-drop more c.self.inside.start c.self.inside.bytes) ∙ ap (drop more) (c.self.view_is ∙ c.put.ensures.text)
    ∙ drop-append-le more bytes c.args.self.now (omega arith)
