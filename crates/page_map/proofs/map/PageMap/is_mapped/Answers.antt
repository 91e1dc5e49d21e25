use Rattle.std.proofs.Common.{◌+◌, arith, is_some, sym}
use Rattle.mach_types.proofs.Laws.{each_page-fails, each_page-of}
use Rattle.page_map.specs.Map.{permission_in}
use Rattle.page_map.proofs.map.PageMap.is_mapped.Goals as goal

pub returns-then-not-is_page : goal.returns-then-not-is_page
returns-then-not-is_page c =
    sym (each_page-fails (λ n. is_some (permission_in c.args.self.now n)) c.args.first c.args.count (c.args.first + c.loop-k.k) (omega arith) (omega arith)
    (let is = c.is_page.ensures in let missing = c.if-not-is_page.true in cc))

pub returns : goal.returns
returns c =
    sym (each_page-of (λ n. is_some (permission_in c.args.self.now n)) c.args.first c.args.count (λ n from to. c.loop-k.invariant n from (omega arith)))
