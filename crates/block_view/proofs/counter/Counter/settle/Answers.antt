use Rattle.std.proofs.Common.{sym, ap, ◌∙◌, arith}
use Rattle.mach_types.specs.declared.events.Hart.{Hart}
use Rattle.block_view.specs.Counters.{kept_counts}
use Rattle.block_view.proofs.CountedActs.{hung_on}
use Rattle.block_view.proofs.counter.Counter.settle.Goals as goal

pub index_mut-requires : goal.index_mut-requires
index_mut-requires c =
    let t = kept_counts c.args.self.now in
    let x = hung_on t c.args.passed.now.entry.tid c.in-Some.hart (sym c.hart_of_hung.ensures ∙ c.in-Some.is) in
    let lt = (c.requires x.hung x.at).0 in
    omega (arith, lt, ap (λ (h : Hart). h.0) x.own, c.from.ensures)
