-- Runs in which each signal that a hart owes its thread comes at once, and all runs (own, as Linux:
-- signal(7)).
use Rattle.std.specs.Prelude.{ℕ, ◌≡◌, Bool, true, List, [], ◌∷◌, None}
use Rattle.mach_types.specs.Events.{choice_of}
use Rattle.mach_types.specs.declared.events.Choice.{Choice}
use Rattle.mach_types.specs.declared.events.Choice.TheVariants as asked
use Rattle.mach_types.specs.declared.events.Entry.{Entry}
use Rattle.mach_types.specs.declared.user_memory.Store.{Store}
use Rattle.block_model.specs.Plain.{Plain, plain_next, plain_start}
use Rattle.block_model.specs.Setting.{Setting}
use Rattle.prompt_runs.specs.Owed.{none_owed, owed_next}
use Rattle.search_reductions.specs.declared.signals.Signals.{Signals}
use Rattle.search_reductions.specs.declared.signals.Signals.TheVariants.{Any, Prompt}

-- what is due at a hart that owes a signal, where these stores of it wait: the oldest of them enters memory,
-- and once none waits the signal is delivered
abbrev pub due : List Store → Choice
due [] = asked.Signal
due (w ∷ ws) = asked.Drain

-- a choice of hart h comes in time: where the hart owes its thread a signal, and the thread waits in no
-- barrier, it is what is due
abbrev pub IsInTime : Plain → (ℕ → Bool) → ℕ → Choice → Type 0
IsInTime m owed h c = owed h ≡ true → m.awaits h ≡ None → c ≡ due (m.waiting h)

-- each entry of a log does, from a place on where so much is owed
abbrev pub AreInTime : Signals → Setting → Plain → (ℕ → Bool) → List Entry → Type 0
AreInTime signals s m owed [] = Unit {0}
AreInTime signals s m owed (e ∷ log) =
    IsInTime m owed e.hart.0 (choice_of e)
    × AreInTime signals s (plain_next s m e) (owed_next signals s m owed e.hart.0 (choice_of e)) log

-- the log is one of those that are spoken of: each of its entries comes in time
abbrev pub IsSpokenOf : Signals → Setting → List Entry → Type 0
IsSpokenOf signals s log = AreInTime signals s (plain_start s) none_owed log

-- a prompt run: each signal that a hart owes its thread comes before anything else is done there
abbrev pub IsPrompt : Setting → List Entry → Type 0
IsPrompt s log = IsSpokenOf Prompt s log
