-- Which runs an exploration makes (own): those of a first seed and of the seeds behind it, each drawn as `draw` draws it.
use Rattle.std.specs.Prelude.{ℕ, ◌+◌, ◌%◌, ◌^◌}
use Rattle.block_model.specs.Setting.{Setting}
use Rattle.drawn_runs.specs.Manners.{manner_for}
use Rattle.drawn_runs.specs.declared.manner.Manner.{Manner}
use Rattle.explored_runs.specs.declared.exploration.Exploration.{Exploration}

-- the seed of a place, from 0 on: each is one more than the one before, modulo 2^64
abbrev pub seed_at : ℕ → ℕ → ℕ
seed_at first place = (first + place) % 2 ^ 64

-- in which manner the run of a place is drawn
abbrev pub manner_at : Setting → Exploration → ℕ → Manner
manner_at s x place = manner_for x.policies x.calm (seed_at x.first place) s.limits.steps
