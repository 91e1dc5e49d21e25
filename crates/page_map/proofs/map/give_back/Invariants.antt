use Rattle.std.proofs.Common.{◌≡◌, ◌+◌, length}
use Rattle.std.specs.Vec.{vec_capacity, vec_len}
use Rattle.frame_pool.specs.Held.{AreHeld}
use Rattle.frame_pool.specs.Pool.{free_count}
use Rattle.page_map.specs.Mapping.{frames_of}
use Rattle.page_map.proofs.map.give_back.Given as goal

-- the frames of the pages that are left are held, and those of the others are free
abbrev pub invariant-loop-page : goal.invariant-loop-page
invariant-loop-page l = record {
  held : AreHeld l.pool (frames_of l.mapped.items);
  capacity : vec_capacity l.mapped ≡ vec_capacity l.fn.mapped;
  free : free_count l.pool + length l.mapped.items ≡ free_count l.fn.pool + length l.fn.mapped.items;
}

abbrev pub decreases-loop-page : goal.decreases-loop-page
decreases-loop-page l = vec_len l.mapped
