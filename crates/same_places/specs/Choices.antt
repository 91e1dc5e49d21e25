-- The choices that have to be tried at a place, as a list (own).
use Rattle.std.specs.Prelude.{ℕ, List, [], ◌∷◌, ◌++◌, map}
use Rattle.mach_types.specs.declared.events.Choice.{Choice}
use Rattle.mach_types.specs.declared.events.Choice.TheVariants as asked

abbrev pub run_of : ℕ → Choice
run_of t = asked.Run (record { 0 = t })

-- each choice that names no thread
abbrev pub fixed_choices : List Choice
fixed_choices = asked.Exec ∷ asked.Drain ∷ asked.Take ∷ asked.Done ∷ asked.Preempt ∷ asked.Signal ∷ []

-- these, and for each of some threads that it begins to run
abbrev pub all_choices : List ℕ → List Choice
all_choices order = fixed_choices ++ map run_of order
