-- Where a thread may rest, once its local steps were made before the events of others. An event of another
-- can reach its registers and its pc only by an interruption: the kernel looks at its area (rseq(2)), or a
-- handler of a signal is entered (own).
use Rattle.std.specs.Prelude.{ℕ, ◌≡◌, ◌≢◌, ◌⊎◌, Bool, false, true, Option, Some}
use Rattle.mach_types.specs.Kernel.Areas.{area_of, can_read_descriptor, descriptor_at, is_inside, pointer_of, sequence_of}
use Rattle.mach_types.specs.Kernel.Threads.{running_on}
use Rattle.mach_types.specs.declared.sequences.Area.{Area}
use Rattle.mach_types.specs.declared.sequences.Descriptor.{Descriptor}
use Rattle.mach_types.specs.Kernel.Signals.{action_of, is_handler, next_for}
use Rattle.mach_types.specs.declared.events.Choice.{Choice}
use Rattle.mach_types.specs.declared.events.Choice.TheVariants as asked
use Rattle.mach_types.specs.declared.threads.Saved.{Saved}
use Rattle.block_model.specs.Here.{Here, runs}
use Rattle.block_model.specs.Plain.{Plain, here_in_plain}
use Rattle.block_model.specs.Setting.{Setting}
use Rattle.local_steps.specs.LocalSteps.{seen_by}
use Rattle.local_steps.specs.Runs.{next_of}

-- what an area looks at, with these bytes: its pointer, and the descriptor there, where that can be read
pub record Looked : Type 0 where
  pub pointer : ℕ
  pub is_readable : Bool
  pub descriptor : Descriptor

abbrev pub looked : (ℕ → Option ℕ) → Area → Looked
looked byte area = record {
  pointer = pointer_of byte area;
  is_readable = can_read_descriptor byte (pointer_of byte area);
  descriptor = descriptor_at byte (pointer_of byte area);
}

-- a pc is outside what is looked at: there is no descriptor, or it can't be read, or the pc isn't in its
-- sequence
abbrev pub IsPast : Looked → ℕ → Type 0
IsPast l pc = (l.pointer ≡ 0) ⊎ ((l.is_readable ≡ false) ⊎ (is_inside (sequence_of l.descriptor) pc ≡ false))

-- thread t is one of those that may rest, and is outside what its area looks at, both where it is and with
-- this file
pub record RestsOutside (threads : ℕ → Type 0) (t : ℕ) (g : Saved) (m : Plain) : Type 0 where
  pub may : threads t
  pub before : (area : Area) → area_of t m.kernel.areas ≡ Some area
      → IsPast (looked (seen_by t m) area) (m.file t).pc
  pub after : (area : Area) → area_of t m.kernel.areas ≡ Some area → IsPast (looked (seen_by t m) area) g.pc

-- the event of a choice isn't an instruction of thread t
abbrev pub IsOther : Choice → Here → ℕ → Type 0
IsOther c here t = c ≡ asked.Exec → runs here ≢ Some t

-- where a signal is delivered to one of these threads, that signal has no handler
abbrev pub HandlesNone : Setting → (ℕ → Type 0) → Plain → ℕ × Choice → Type 0
HandlesNone s threads m a =
    a.1 ≡ asked.Signal → (t signal : ℕ) → threads t → running_on a.0 m.kernel.threads ≡ Some t
    → next_for t m.kernel.signals ≡ Some signal → is_handler (action_of signal m.kernel.signals) ≡ false

-- what the area of each of these threads looks at stays so in an event that isn't an instruction of the
-- thread, or else its pointer is null after it
abbrev pub KeepsLooked : Setting → (ℕ → Type 0) → Plain → ℕ × Choice → Type 0
KeepsLooked s threads m a =
    (t : ℕ) (area : Area) → threads t → area_of t m.kernel.areas ≡ Some area
    → IsOther a.1 (here_in_plain s m a.0) t
    → (looked (seen_by t (next_of s m a)) area ≡ looked (seen_by t m) area)
    ⊎ (pointer_of (seen_by t (next_of s m a)) area ≡ 0)

-- each byte that is private to one of these threads stays so, as the thread sees it, in an event that isn't
-- an instruction of the thread
abbrev pub KeepsPrivate : Setting → (ℕ → Type 0) → (ℕ → ℕ → Bool) → Plain → ℕ × Choice → Type 0
KeepsPrivate s threads private m a =
    (t b : ℕ) → threads t → private t b ≡ true → IsOther a.1 (here_in_plain s m a.0) t
    → seen_by t (next_of s m a) b ≡ seen_by t m b

-- an event reaches none of these threads where they may rest
abbrev pub LeavesAreas : Setting → (ℕ → Type 0) → (ℕ → ℕ → Bool) → Plain → ℕ × Choice → Type 0
LeavesAreas s threads private m a =
    HandlesNone s threads m a × KeepsLooked s threads m a × KeepsPrivate s threads private m a
