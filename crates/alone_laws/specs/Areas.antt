-- The words that the kernel keeps in the area of a thread (rseq(2)), and who else may touch them.
use Rattle.std.specs.Prelude.{ℕ, ◌≡◌, ◌≢◌, true, [], ◌∷◌, Some}
use Rattle.mach_types.specs.Bytes.{overlay}
use Rattle.mach_types.specs.Kernel.Areas.{area_of}
use Rattle.mach_types.specs.declared.events.Kind.TheVariants as kind
use Rattle.mach_types.specs.declared.sequences.Area.{Area}
use Rattle.block_model.specs.History.{Event, History, kernel, running}
use Rattle.block_model.specs.Setting.{Setting}
use Rattle.alone_laws.specs.Blocks.{among}
use Rattle.alone_laws.specs.Spans.{Leaves}

-- from its registration on, an event leaves the processor's words of an area of thread t, but for what the
-- kernel writes there as that of thread t: it is of another hart, and isn't the thread's beginning to run; or
-- of its own, and the thread had the area before it and has it after it
pub record LeavesProcessor (s : Setting) (t : ℕ) (area : Area) (e : Event) (before : History) : Type 0 where
  pub others : area_of t (kernel s before).areas ≡ Some area → running s e.entry.hart.0 before ≢ Some t
      → (e.entry.kind ≡ kind.Run → e.entry.tid.0 ≢ t) → Leaves (among area.at 8) e.done.entered
  pub own : running s e.entry.hart.0 before ≡ Some t → area_of t (kernel s before).areas ≡ Some area
      → area_of t e.done.kernel.areas ≡ Some area
      → e.entry.kind ≢ kind.Drain → Leaves (among area.at 8) e.done.entered
  pub stores : running s e.entry.hart.0 before ≡ Some t → area_of t (kernel s before).areas ≡ Some area
      → (a b : ℕ) → among area.at 8 a ≡ true → overlay e.done.executed a b ≡ b

abbrev pub ProcessorKept : Setting → ℕ → Area → History → Type 0
ProcessorKept s t area [] = Unit {0}
ProcessorKept s t area (e ∷ before) = ProcessorKept s t area before × LeavesProcessor s t area e before
