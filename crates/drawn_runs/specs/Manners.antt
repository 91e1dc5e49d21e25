-- In which manner the events of a run are drawn by its seed alone (own).
use Rattle.std.specs.Prelude.{ℕ, ◌/◌, Option, Some, None}
use Rattle.draw_policies.specs.Policies.{policy_for}
use Rattle.draw_policies.specs.declared.policies.Policies.{Policies}
use Rattle.drawn_runs.specs.declared.manner.Manner.{Manner}

-- after how many events a run goes on fairly: so many, or half of the steps that it may make
abbrev pub calm_of : Option ℕ → ℕ → ℕ
calm_of (Some events) steps = events
calm_of None steps = steps / 2

-- in a run of at most so many steps, without a script: by these policies
abbrev pub manner_for : Policies → Option ℕ → ℕ → ℕ → Manner
manner_for policies calm seed steps =
    record { seed = seed; policy = policy_for policies seed; scripted = 0; calm = calm_of calm steps }

-- the same behind a script that made so many entries: these aren't drawn, and the first event behind them is the first that is
abbrev pub manner_behind : ℕ → Manner → Manner
manner_behind scripted m = record m { scripted = scripted }
