use Rattle.std.proofs.Common.{◌∙◌, List, ℕ, ap, get_or}
use Rattle.std.specs.Vec.{vec_len}
use Rattle.page_map.proofs.Rows.{none-at}
use Rattle.page_map.proofs.directory.forget_rows.Goals as goal

pub returns-clause-empty : goal.returns-clause-empty
returns-clause-empty c g =
    ap (λ (names : List ℕ). get_or names g 0) (c.fill.ensures.items (λ y is. is)) ∙ none-at 0 (vec_len c.args.names.now) g
