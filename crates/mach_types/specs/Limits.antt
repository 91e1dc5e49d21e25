-- The limits of a run (own).
use Rattle.std.specs.Prelude.{◌≤◌}
use Rattle.mach_types.specs.declared.limits.Limits.{Limits}

-- each limit is in its range
pub record InRange (limits : Limits) : Type 0 where
  pub some_hart : 1 ≤ limits.harts
  pub eight_harts : limits.harts ≤ 8
  pub least_frames : 128 ≤ limits.frames
  pub most_frames : limits.frames ≤ 16384
  pub some_step : 1 ≤ limits.steps
  pub most_steps : limits.steps ≤ 1000000
