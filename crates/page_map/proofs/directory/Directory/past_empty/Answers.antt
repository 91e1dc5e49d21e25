use Rattle.std.proofs.Common.{◌≡◌, ◌/◌, ◌∙◌, ℕ, get_or, sym, ap, arith}
use Rattle.std.specs.Vec.{vec_capacity}
use Rattle.page_map.proofs.Directories.{bare-group}
use Rattle.page_map.proofs.Rows.{read-at}
use Rattle.page_map.proofs.directory.Directory.past_empty.Goals as goal

pub returns-then-index-eq-EMPTY_ROW-clause-empty : goal.returns-then-index-eq-EMPTY_ROW-clause-empty
returns-then-index-eq-EMPTY_ROW-clause-empty c d low high =
    let was = c.self.inside in
    let chunks = c.self.invariant.chunks in
    let name = read-at was.names.items (c.args.chunk / 512) c.index.result.now 0 c.index.ensures (omega arith) in
    let group : d / 512 ≡ c.args.chunk / 512 = omega arith in
    let bare : get_or was.names.items (d / 512) 0 ≡ 0 =
    ap (λ (g : ℕ). get_or was.names.items g 0) group ∙ sym name ∙ (omega (arith, c.if-index-eq-EMPTY_ROW.true)) in
    sym (ap (λ l. get_or l d 0) c.self.view_is)
    ∙ bare-group was.names.items was.rows.items (vec_capacity was.rows) d c.self.invariant (omega arith) bare
