-- One hart more holds nothing.
use Rattle.shared_procs.proofs.Common.{◌≡◌, ◌+◌, suc, length, arith, sym, ◌∙◌, subst, AreEmptied}
use Rattle.shared_procs.proofs.ending.empty_all.Goals as goal

pub loop-hart-preserved : goal.loop-hart-preserved
loop-hart-preserved c =
    let next : c.loop-hart.hart + 1 ≡ suc c.loop-hart.hart = omega arith in
    record {
      emptied = λ s p x y shared so.
          subst (λ n. AreEmptied s p n x y shared c.empty.new.mine c.empty.new.other c.empty.new.segment) (sym next)
          (c.empty.ensures.emptied s p x y shared (c.loop-hart.invariant.emptied s p x y shared so));
      may = c.empty.ensures.may;
      harts = c.empty.ensures.harts ∙ c.loop-hart.invariant.harts;
    }

pub returns : goal.returns
returns c s p x y shared so =
    let all : c.loop-hart.hart ≡ length c.args.mine.now.harts.items = omega (arith, c.len-hart-end.ensures, c.args.mine.now.harts.ok.0) in
    subst (λ n. AreEmptied s p n x y shared c.loop-hart.mine c.loop-hart.other c.loop-hart.segment) all (c.loop-hart.invariant.emptied s p x y shared so)
