-- Stretches of a log in which a thread runs on a hart and executes instructions one after another, whether or
-- not inside a sequence.
use Rattle.std.specs.Prelude.{ℕ, suc, ◌≡◌, ◌≢◌, ◌∷◌, Bool, None}
use Rattle.mach_types.specs.Events.{choice_of}
use Rattle.mach_types.specs.declared.events.Choice.TheVariants as asked
use Rattle.block_model.specs.History.{Event, History}
use Rattle.block_model.specs.Setting.{Setting}
use Rattle.alone_laws.specs.Spans.{IsUsable, Leaves}

-- from a place on so many instructions of hart h were executed: its other events are stores that enter memory
-- and requests that are taken and interrupt nothing, and no event of another hart writes some bytes
pub data Walks (s : Setting) (words : ℕ → Bool) (h : ℕ) (begun : History) : History → ℕ → Type 0 where
  begins : Walks s words h begun begun 0
  other : (e : Event) (before : History) (n : ℕ) → e.entry.hart.0 ≢ h → Leaves words e.done.entered
      → Walks s words h begun before n
      → Walks s words h begun (e ∷ before) n
  drains : (e : Event) (before : History) (n : ℕ) → e.entry.hart.0 ≡ h → choice_of e.entry ≡ asked.Drain
      → Walks s words h begun before n
      → Walks s words h begun (e ∷ before) n
  takes : (e : Event) (before : History) (n : ℕ) → e.entry.hart.0 ≡ h → choice_of e.entry ≡ asked.Take
      → e.done.interrupted ≡ None → Walks s words h begun before n
      → Walks s words h begun (e ∷ before) n
  executes : (e : Event) (before : History) (n : ℕ) → e.entry.hart.0 ≡ h → choice_of e.entry ≡ asked.Exec
      → IsUsable s words before → Walks s words h begun before n
      → Walks s words h begun (e ∷ before) (suc n)
