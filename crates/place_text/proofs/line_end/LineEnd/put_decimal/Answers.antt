use Rattle.std.proofs.Common.{ℕ, List, ◌++◌, ap, sym, ◌∙◌, arith}
use Rattle.std.specs.Fmt.{decimal}
use Rattle.place_text.proofs.LineEnds.{few_digits, longer, room_before}
use Rattle.place_text.proofs.line_end.LineEnd.put_decimal.Goals as goal

pub write_digits-first-requires : goal.write_digits-first-requires
write_digits-first-requires c =
    let before = room_before c.self.inside.bytes c.args.self.now c.self.inside.start (sym c.self.view_is) c.self.told c.self.invariant in
    (omega (arith, before, few_digits c.args.number c.ranges.number.fits, c.requires), omega (arith, before, c.self.told))

pub returns-clause-text : goal.returns-clause-text
returns-clause-text c =
    c.write_digits-first.ensures.written ∙ ap (λ (tail : List ℕ). decimal c.args.number ++ tail) c.self.view_is

pub returns-clause-length : goal.returns-clause-length
returns-clause-length c = longer c.args.number c.args.self.now _ c.ranges.number.fits (returns-clause-text c)
