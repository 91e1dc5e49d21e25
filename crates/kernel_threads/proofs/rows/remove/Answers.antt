use Rattle.std.proofs.Common.{sym, ◌∙◌}
use Rattle.kernel_threads.specs.declared.rows.Row.{Row}
use Rattle.kernel_threads.specs.Rows.{is_row}
use Rattle.mach_types.proofs.Places.{alone, without, once_if_rising}
use Rattle.kernel_threads.proofs.FoundPlaces.{found_at}
use Rattle.kernel_threads.proofs.rows.remove.Goals as goal

pub returns-in-Some : goal.returns-in-Some
returns-in-Some c =
    let at = found_at (is_row c.args.number) c.deref.ensures.0 c.place_of.ensures c.in-Some.is in
    let once = once_if_rising (λ (row : Row). row.number) c.args.number c.args.rows.now.items c.requires in
    let there = alone (is_row c.args.number) (λ (row : Row). row) c.args.rows.now.items c.in-Some.place c.remove.result at once in
    c.remove.ensures.items ∙ sym there.kept

pub returns-in_default : goal.returns-in_default
returns-in_default c =
    let at = found_at (is_row c.args.number) c.deref.ensures.0 c.place_of.ensures c.in_default.is in
    sym (without (is_row c.args.number) (λ (row : Row). row) c.args.rows.now.items at).kept
