use Rattle.std.proofs.Common.{ap, set, sym, ◌∙◌}
use Rattle.kernel_threads.specs.declared.rows.Row.{Row}
use Rattle.kernel_threads.specs.Rows.{changed_by, is_row}
use Rattle.mach_types.proofs.Places.{alone, without, once_if_rising}
use Rattle.kernel_threads.proofs.rows.change_row_in.Goals as goal

pub returns-in-Some : goal.returns-in-Some
returns-in-Some c =
    let there = alone (is_row c.args.number) (changed_by c.args.change) c.args.rows.now c.in-Some.place _
    (sym c.place_of.ensures ∙ c.in-Some.is) (once_if_rising (λ (row : Row). row.number) c.args.number c.args.rows.now c.requires) in
    ap (set c.args.rows.now c.in-Some.place) c.applied.ensures ∙ sym there.changed

pub returns-in_default : goal.returns-in_default
returns-in_default c =
    let none = without (is_row c.args.number) (changed_by c.args.change) c.args.rows.now (sym c.place_of.ensures ∙ c.in_default.is) in
    sym none.changed
