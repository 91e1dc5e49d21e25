-- A number that stands at a place of rising numbers stands at no other.
use Rattle.process.proofs.Lookups.{position-at}
use Rattle.process.proofs.search.place_without_gaps.Goals as goal

pub returns-then-numbers-place : goal.returns-then-numbers-place
returns-then-numbers-place c = position-at c.args.numbers.now c.args.number _ c.requires c.if-place-numbers.true c.if-numbers-place.true
