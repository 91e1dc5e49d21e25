use Rattle.std.proofs.Common.{◌∙◌, ap, arith}
use Rattle.std.specs.Vec.{vec_capacity}
use Rattle.page_map.specs.Map.{Map, page_in}
use Rattle.page_map.proofs.Keeping.{moved-break}
use Rattle.page_map.proofs.Maps.{page-break, shown}
use Rattle.page_map.proofs.map.PageMap.set_break.Goals as goal

pub invariant_of-self : goal.invariant_of-self
invariant_of-self c =
    moved-break (shown c.self.inside) (vec_capacity c.self.inside.mapped) c.self.invariant c.args.at
    (omega (arith, c.requires.from, ap (λ (m : Map). m.break_start) c.self.view_is)) c.requires.to
    (λ n from to. ap (λ (m : Map). page_in m n) c.self.view_is ∙ c.requires.past n from to)

pub returns-clause-pages : goal.returns-clause-pages
returns-clause-pages c n = page-break (shown c.self.inside) c.args.at n ∙ ap (λ (m : Map). page_in m n) c.self.view_is
