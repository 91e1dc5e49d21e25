-- A pc that stands at a place is in the set.
use Rattle.std.proofs.Common.{◌≡◌, ◌∙◌, ◌<◌, Bool, true, false, arith, length, nat_eq, refl, sym}
use Rattle.std.proofs.lemmas.Bool.{eqb-true}
use Rattle.std.specs.Bool.{OnTrue}
use Rattle.drawn_machine.specs.PcSets.{with_pc}
use Rattle.drawn_machine.proofs.PcSets.{present}
use Rattle.drawn_machine.proofs.pc_set.PcSet.has_at.Goals as goal

pub returns-then-place-len : goal.returns-then-place-len
returns-then-place-len c = go (nat_eq c.index.result.now c.args.pc) refl
  where
    go : (b : Bool) → nat_eq c.index.result.now c.args.pc ≡ b → OnTrue b (with_pc c.args.pc c.args.self.now ≡ c.args.self.now)
    go true is =
        let items = c.self.inside.pcs.items in
        let within : c.args.place < length items = omega (arith, c.if-place-len.true, c.len.ensures) in
        let stands : with_pc c.args.pc items ≡ items =
        present items c.args.pc c.args.place c.index.result.now c.self.invariant within
        (sym c.index.ensures ∙ eqb-true c.index.result.now c.args.pc is) in
        let view = c.self.view_is in cc
    go false is = tt
