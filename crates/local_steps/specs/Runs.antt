-- Runs of the plain machine from any of its states, by choices alone. No step limit ends them (own).
use Rattle.std.specs.Prelude.{ℕ, ◌≡◌, ◌<◌, ◌≤◌, ◌+◌, map, List, [], ◌∷◌, Some, None}
use Rattle.mach_types.specs.Events.{choice_of}
use Rattle.mach_types.specs.declared.events.Choice.{Choice}
use Rattle.mach_types.specs.declared.events.Choice.TheVariants as asked
use Rattle.mach_types.specs.declared.limits.End.{End}
use Rattle.block_model.specs.Events.{done_of, refusal_of}
use Rattle.block_model.specs.Plain.{Plain, apply, here_in_plain, plain_after, plain_over}
use Rattle.block_model.specs.Run.{IsBlockRun}
use Rattle.mach_types.specs.declared.events.Entry.{Entry}
use Rattle.block_model.specs.Setting.{Setting, with_steps}

-- a choice of a hart may come, whatever the step limit is
pub record MayCome (s : Setting) (m : Plain) (a : ℕ × Choice) : Type 0 where
  pub goes : plain_over m ≡ None
  pub lt : a.0 < s.limits.harts
  pub free : refusal_of a.1 (here_in_plain s m a.0) ≡ None

-- the machine after it
abbrev pub next_of : Setting → Plain → ℕ × Choice → Plain
next_of s m a = apply a.0 (done_of a.1 (here_in_plain s m a.0)) m

-- the machine without what counts its events. No rule of an event reads these counts
abbrev pub uncounted : Plain → Plain
uncounted m = record m { made = 0; events = λ h. 0; ran = λ h. 0 }

-- two machines differ in counts alone
abbrev pub AreAlike : Plain → Plain → Type 0
AreAlike m n = uncounted m ≡ uncounted n

-- what choices cost, all told
abbrev pub total : (Choice → ℕ) → List (ℕ × Choice) → ℕ
total cost [] = 0
total cost (a ∷ log) = cost a.1 + total cost log

-- how many instructions the event of a choice executes
abbrev pub instructions_by : Choice → ℕ
instructions_by asked.Exec = 1
instructions_by asked.Drain = 0
instructions_by asked.Take = 0
instructions_by asked.Done = 0
instructions_by asked.Preempt = 0
instructions_by (asked.Run t) = 0
instructions_by asked.Signal = 0

-- the choices of a log
abbrev pub choices : List Entry → List (ℕ × Choice)
choices log = map (λ (e : Entry). (e.hart.0, choice_of e)) log

-- the machine is where a block run under some step limit comes to
pub record IsReached (s : Setting) (m : Plain) : Type 0 where
  pub steps : ℕ
  pub log : List Entry
  pub run : IsBlockRun (with_steps steps s) log
  pub is : plain_after (with_steps steps s) log ≡ m

-- a block run under some step limit, whose choices cost no more than k, ends so, with these bytes on the
-- console
pub record RunEndsSo (s : Setting) (cost : Choice → ℕ) (k : ℕ) (e : End) (console : List ℕ) : Type 0 where
  pub steps : ℕ
  pub log : List Entry
  pub run : IsBlockRun (with_steps steps s) log
  pub cheap : total cost (choices log) ≤ k
  pub over : plain_over (plain_after (with_steps steps s) log) ≡ Some e
  pub prints : (plain_after (with_steps steps s) log).kernel.console ≡ console
