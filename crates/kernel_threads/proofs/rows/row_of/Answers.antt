use Rattle.std.proofs.Common.{◌≡◌, get_or, List, Some, None, sym, ap, ◌∙◌}
use Rattle.std.specs.List.{position}
use Rattle.kernel_threads.specs.declared.rows.Row.{Row}
use Rattle.kernel_threads.specs.Rows.{is_row}
use Rattle.mach_types.proofs.Places.{found_there, not_found}
use Rattle.kernel_threads.proofs.rows.row_of.Goals as goal

pub returns : goal.returns
returns c =
    let at : position (is_row c.args.number) c.args.rows.now.items ≡ Some c.in_ok-place.place =
    ap (position (is_row c.args.number)) (sym c.deref.ensures.0) ∙ sym c.place_of.ensures ∙ c.in_ok-place.was in
    ap (λ (rows : List Row). Some (get_or rows c.in_ok-place.place _)) c.deref-2.ensures.0
    ∙ sym (found_there (is_row c.args.number) c.args.rows.now.items c.in_ok-place.place _ at)

pub returns-in_err-place : goal.returns-in_err-place
returns-in_err-place c =
    let none : position (is_row c.args.number) c.args.rows.now.items ≡ None =
    ap (position (is_row c.args.number)) (sym c.deref.ensures.0) ∙ sym c.place_of.ensures ∙ c.in_err-place.was in
    c.from_residual.ensures ∙ sym (not_found (is_row c.args.number) c.args.rows.now.items none)
