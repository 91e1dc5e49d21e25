use Rattle.std.proofs.Common.{◌≡◌, ℕ, ◌<◌, ◌≤◌}
use Rattle.std.specs.Prelude.{IfSome}
use Rattle.frame_pool.specs.Pool.{fresh}
use Rattle.page_map.specs.Map.{page_in}
use Rattle.page_map.specs.Starting.{StandsWith}
use Rattle.page_map.specs.declared.listing.TheConstants.{ALL_PAGES}
use Rattle.page_map.proofs.map.PageMap.next_written.Given as goal

-- no page of the places so far that was written comes before the first one
abbrev pub invariant-loop-place : goal.invariant-loop-place
invariant-loop-place l = record {
  from : l.fn.from ≤ ALL_PAGES → l.fn.from ≤ l.first;
  within : l.first ≤ ALL_PAGES;
  zero : (i n permission : ℕ) → i < l.place → StandsWith l.fn.self.mapped i n permission → l.fn.from ≤ n → n < l.first → IfSome (page_in l.fn.self n) (λ p. p.bytes ≡ fresh);
}
