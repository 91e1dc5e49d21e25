use Rattle.std.proofs.Common.{◌≡◌, ◌∙◌, ap, length, map}
use Rattle.std.proofs.lemmas.List.{length-map}
use Rattle.arrayvec.proofs.ArrayVecLemmas.{items-with_items}
use Rattle.kernel_threads.specs.Rows.{change_if}
use Rattle.kernel_threads.proofs.rows.change_row.Goals as goal

pub returns : goal.returns
returns c =
    let changed : c.change_row_in.new.rows ≡ map (change_if c.args.number c.args.change) c.args.rows.now.items =
    c.change_row_in.ensures ∙ ap (map (change_if c.args.number c.args.change)) c.as_mut_slice.ensures.value in
    items-with_items c.args.rows.now c.change_row_in.new.rows (ap length changed ∙ length-map c.args.rows.now.items (change_if c.args.number c.args.change)) ∙ changed
