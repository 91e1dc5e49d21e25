-- How a thread comes into the range of a block: at its start alone.
use Rattle.std.specs.Prelude.{ℕ, ◌≡◌, ◌≢◌, true, [], ◌∷◌, Some, None}
use Rattle.mach_types.specs.Kernel.Areas.{is_inside}
use Rattle.mach_types.specs.declared.sequences.Named.TheVariants as names
use Rattle.mach_types.specs.declared.sequences.Seq.{Seq}
use Rattle.block_model.specs.Acts.{is_taken_in, named_at}
use Rattle.block_model.specs.History.{Event, History, file, running}
use Rattle.block_model.specs.Setting.{Setting}

-- the pc of a thread is in a range
abbrev pub IsIn : Setting → Seq → ℕ → History → Type 0
IsIn s range t before = is_inside range (file s t before).pc ≡ true

-- an event after which the thread runs on the event's hart inside the range, but not at its start, and the
-- process goes on, is one that a sequence takes in, and the thread was inside before it; and where it is
-- inside its area names the range
pub record IsEntered (s : Setting) (range : Seq) (t : ℕ) (e : Event) (before : History) : Type 0 where
  pub names : (h : ℕ) → running s h before ≡ Some t → IsIn s range t before
      → named_at s h before ≡ names.Good range
  pub enters : running s e.entry.hart.0 (e ∷ before) ≡ Some t → IsIn s range t (e ∷ before)
      → (file s t (e ∷ before)).pc ≢ range.start → e.done.ended ≡ None
      → (running s e.entry.hart.0 before ≡ Some t) × IsIn s range t before
      × (is_taken_in e.entry.kind e.done.interrupted ≡ true)

abbrev pub AreEntered : Setting → Seq → ℕ → History → Type 0
AreEntered s range t [] = Unit {0}
AreEntered s range t (e ∷ before) = AreEntered s range t before × IsEntered s range t e before
