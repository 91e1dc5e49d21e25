-- What a pool ends as once the bytes of a frame were written.
use Rattle.std.specs.Prelude.{ℕ, List, Option, Some, slice_set}
use Rattle.std.specs.Borrow.{Lends, MutBor, Fml, Array, u8}
use Rattle.frame_pool.specs.contracts.pool.FramePool.{the_row}

-- the pool ends with the last bytes behind r as those of the frame
abbrev pub LendsFrame : MutBor (List (Option (List ℕ))) → ℕ → MutBor (List ℕ) → Fml
LendsFrame pool n r = Lends the_row (Array u8 0) pool r (λ bytes. slice_set pool.now n (Some bytes))
