use Rattle.std.proofs.Common.{◌/◌, ◌%◌, ◌∙◌, List, [], ℕ, get_or, sym, ap, arith}
use Rattle.page_map.proofs.Directories.{numbers-at}
use Rattle.page_map.proofs.Rows.{read-at}
use Rattle.page_map.proofs.directory.Directory.number.Goals as goal

pub returns : goal.returns
returns c =
    let was = c.self.inside in
    let chunks = c.self.invariant.chunks in
    let named = c.self.invariant.named (c.args.chunk / 512) (omega arith) in
    let is = read-at was.names.items (c.args.chunk / 512) c.index-row.result.now 0 c.index-row.ensures (omega arith) in
    let row = read-at was.rows.items c.index-row.result.now c.index.result.now [] c.index.ensures (omega arith) in
    ap (λ (l : List ℕ). get_or l (c.args.chunk % 512) 0) row
    ∙ ap (λ (i : ℕ). get_or (get_or was.rows.items i []) (c.args.chunk % 512) 0) is
    ∙ sym (numbers-at was.names.items was.rows.items c.args.chunk c.requires)
    ∙ ap (λ (d : List ℕ). get_or d c.args.chunk 0) c.self.view_is
