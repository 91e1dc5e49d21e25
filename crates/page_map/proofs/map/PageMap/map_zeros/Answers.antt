use Rattle.std.proofs.Common.{◌+◌, ℕ, arith, subst, sym}
use Rattle.page_map.specs.Map.{break_in, break_start_in}
use Rattle.page_map.specs.Mapping.{CanLie}
use Rattle.page_map.proofs.map.PageMap.map_zeros.Goals as goal

pub add-requires-clause-number : goal.add-requires-clause-number
add-requires-clause-number c =
    let was = c.loop-k.invariant in
    let lies : CanLie (break_start_in c.args.self.now) (break_in c.args.self.now) (c.args.first + c.loop-k.k) c.args.permission =
    c.requires.numbers (c.args.first + c.loop-k.k) (omega arith) (omega arith) in
    subst (λ (at : ℕ). CanLie (break_start_in c.loop-k.self) at (c.args.first + c.loop-k.k) c.args.permission) (sym was.break_at)
    (subst (λ (at : ℕ). CanLie at (break_in c.args.self.now) (c.args.first + c.loop-k.k) c.args.permission) (sym was.break_start) lies)
