use Rattle.std.proofs.Common.{◌≡◌, ◌<◌, ◌≤◌, Option, length, subst, sym, arith, inl, inr}
use Rattle.std.specs.Prelude.{IfSome}
use Rattle.std.proofs.lemmas.Bool.{cases_eq}
use Rattle.std.proofs.lemmas.Option.{slice_get_within}
use Rattle.frame_pool.specs.Pool.{fresh}
use Rattle.page_map.specs.Map.{Page, page_in}
use Rattle.page_map.specs.Starting.{StandsWith}
use Rattle.page_map.proofs.map.PageMap.next_written.Goals as goal

pub loop-place-init : goal.loop-place-init
loop-place-init c = record {
  from = λ le. le;
  within = omega arith;
  zero = λ i n permission before at low high. absurd (omega arith);
}

pub loop-place-preserved : goal.loop-place-preserved
loop-place-preserved c =
    let was = c.loop-place.invariant in
    let now = c.first_written-first.ensures in
    let least = now.within in
    let most = was.within in
    record {
      from = λ le. now.from (was.from le);
      within = omega arith;
      zero = λ i n permission before at low high. elim (cases_eq i c.loop-place.place) [
        | inl here ↦ now.zero n permission (subst (λ j. StandsWith c.args.self.now.mapped j n permission) here at) low high
        | inr past ↦ was.zero i n permission (omega arith) at low (omega arith)
      ];
    }

pub returns-clause-from : goal.returns-clause-from
returns-clause-from c = c.loop-place.invariant.from

pub returns-clause-within : goal.returns-clause-within
returns-clause-within c = c.loop-place.invariant.within

pub returns-clause-zero : goal.returns-clause-zero
returns-clause-zero c n low high = elim (c.has_places.ensures.placed n) [
  | inl none ↦ subst (λ (o : Option Page). IfSome o (λ p. p.bytes ≡ fresh)) (sym none) tt
  | inr there ↦
      let within = slice_get_within c.args.self.now.mapped there.0 there.2.page there.2.there in
      c.loop-place.invariant.zero there.0 n there.1 (omega (arith, c.count-place-end.ensures)) there.2 low high
]
