use Rattle.std.proofs.Common.{◌≡◌, ◌+◌, ◌≤◌, length, vec_capacity}
use Rattle.frame_pool.specs.Layout.{with_zeros}
use Rattle.frame_pool.proofs.pool.reach.Given as goal

-- so many frames have bytes
abbrev pub invariant-loop : goal.invariant-loop
invariant-loop l = record {
  items : l.region.items ≡ with_zeros l.counter l.initial.region.items;
  none : l.place + 1 ≤ length l.initial.region.items → l.counter ≡ length l.initial.region.items;
  capacity : vec_capacity l.initial.region ≤ vec_capacity l.region;
}
