use Rattle.std.proofs.Common.{◌≡◌, ◌≤◌, true, Some, slice_get, refl, arith}
use Rattle.frame_pool.proofs.pool.FramePool.new.Goals as goal

pub invariant_of-result : goal.invariant_of-result
invariant_of-result c =
    let region = c.in_ok-with_capacity.ensures in
    let written = c.in_ok-with_capacity-2.ensures in
    let taken = c.in_ok-with_capacity-3.ensures in
    let free = c.in_ok-with_capacity-4.ensures in (
      rw (region.items, written.items, taken.items, free.items)
          (record { marks = refl; within = omega arith; numbers = omega arith; stack = tt }),
      record {
        bytes = omega (arith, region.capacity);
        written = omega (arith, written.capacity);
        marks = omega (arith, taken.capacity);
        stack = omega (arith, free.capacity);
      },
      λ n mark. let none = rw written.items at mark in absurd (cc),
    )
