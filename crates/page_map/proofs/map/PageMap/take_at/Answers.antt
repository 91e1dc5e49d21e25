use Rattle.std.proofs.Common.{◌∙◌, Some}
use Rattle.std.proofs.lemmas.Bool.{OnTrue_at}
use Rattle.frame_pool.specs.Pool.{fresh}
use Rattle.page_map.specs.Map.{page_in}
use Rattle.page_map.proofs.TakenPages.{one-taken}
use Rattle.page_map.proofs.map.PageMap.take_at.Goals as goal

pub returns-then-is_fresh_at-clause-pages : goal.returns-then-is_fresh_at-clause-pages
returns-then-is_fresh_at-clause-pages c n number permission at there =
    c.zero_at.ensures.pages n number permission at
    ∙ one-taken n number (Some (record { permission = permission; bytes = fresh })) (page_in c.args.self.now n) (page_in c.args.other.now)
    (OnTrue_at c.if-is_fresh_at.true c.is_fresh_at.ensures number permission there)

pub returns-else-is_fresh_at-clause-pages : goal.returns-else-is_fresh_at-clause-pages
returns-else-is_fresh_at-clause-pages c n number permission at there =
    c.fill_at.ensures.pages n number permission at
    ∙ one-taken n number (Some (record { permission = permission; bytes = c.bytes_at.result.now })) (page_in c.args.self.now n) (page_in c.args.other.now)
    (c.bytes_at.ensures.page number permission there)
