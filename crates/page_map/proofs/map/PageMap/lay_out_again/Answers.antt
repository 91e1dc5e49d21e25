use Rattle.page_map.specs.Map.{break_in, break_start_in}
use Rattle.std.proofs.Common.{◌≡◌}
use Rattle.page_map.specs.Starting.{AreLaidOut}
use Rattle.page_map.proofs.Starts.{on-true}
use Rattle.page_map.proofs.map.PageMap.lay_out_again.Goals as goal

pub refill-requires-clause-laid : goal.refill-requires-clause-laid
refill-requires-clause-laid c =
    on-true c.stands.result (AreLaidOut c.args.image.now.pages.items c.args.self.now.mapped) c.if-stands.true c.stands.ensures.pages

pub refill-requires-clause-break_at : goal.refill-requires-clause-break_at
refill-requires-clause-break_at c =
    on-true c.stands.result (break_in c.args.self.now ≡ c.args.image.now.break_at) c.if-stands.true c.stands.ensures.break_at

pub refill-requires-clause-break_start : goal.refill-requires-clause-break_start
refill-requires-clause-break_start c =
    on-true c.stands.result (break_start_in c.args.self.now ≡ c.args.image.now.break_at) c.if-stands.true c.stands.ensures.break_start
