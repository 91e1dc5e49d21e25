-- The lines of the live threads: the state of each, its mask, and the signals that are pending for it; and of one that runs nowhere the
-- pc at which it goes on, and the area that it registered (rseq(2)).
use Rattle.std.specs.Prelude.{ℕ, List, [], ◌∷◌, ◌++◌, map, Option, Some, None, codes}
use Rattle.std.specs.Fmt.{decimal}
use Rattle.std.specs.List.{flat_map}
use Rattle.mach_types.specs.declared.sequences.Area.{Area}
use Rattle.mach_types.specs.declared.threads.Saved.{Saved}
use Rattle.mach_types.specs.declared.threads.ThreadState.{ThreadState}
use Rattle.mach_types.specs.declared.threads.ThreadState.TheVariants.{Ready, Running, Waiting}
use Rattle.mach_types.specs.Kernel.Areas.{area_of}
use Rattle.mach_types.specs.Kernel.Signals.{Signalling, mask_of, pending_of}
use Rattle.mach_types.specs.Kernel.Threads.{Thread}
use Rattle.block_model.specs.Record.{Kernel}
use Rattle.place_text.specs.Fields.{line, value_text}
use Rattle.place_text.specs.Sequences.{area_fields}

-- a line of thread t
abbrev pub line_of_thread : ℕ → List (List ℕ) → List ℕ
line_of_thread t fields = line (codes "thread") (decimal t ∷ fields)

-- `thread T running H`, `thread T ready`, or `thread T waiting AT`
abbrev pub state_fields : ThreadState → List (List ℕ)
state_fields Ready = codes "ready" ∷ []
state_fields (Running hart) = codes "running" ∷ decimal hart.0 ∷ []
state_fields (Waiting at) = codes "waiting" ∷ value_text at ∷ []

abbrev pub state_line : ℕ → ThreadState → List ℕ
state_line t state = line_of_thread t (state_fields state)

-- `thread T mask M pending P`: bit s - 1 of each stands for signal s
abbrev pub signals_line : ℕ → ℕ → ℕ → List ℕ
signals_line t mask pending =
    line_of_thread t (codes "mask" ∷ value_text mask ∷ codes "pending" ∷ value_text pending ∷ [])

-- where a thread goes on that runs nowhere; the pc of one that runs is told with its hart
abbrev pub resting_pc : ThreadState → ℕ → Option ℕ
resting_pc Ready pc = Some pc
resting_pc (Running hart) pc = None
resting_pc (Waiting at) pc = Some pc

-- `thread T pc PC`, and `thread T area AT signature SIG`, or `none`
unfoldable pub resting_lines : ℕ → ℕ → Option Area → List ℕ
resting_lines t pc area =
    line_of_thread t (codes "pc" ∷ value_text pc ∷ []) ++ line_of_thread t (codes "area" ∷ area_fields area)

-- those of a thread that runs nowhere
abbrev pub resting_text : ℕ → Option ℕ → Option Area → List ℕ
resting_text t None area = []
resting_text t (Some pc) area = resting_lines t pc area

-- what is told of a thread: its number, its state, and where it goes on if it runs nowhere
pub record Told : Type 0 where
  pub tid : ℕ
  pub state : ThreadState
  pub pc : Option ℕ

-- the lines of a thread
abbrev pub thread_text : Signalling → List (ℕ × Area) → Told → List ℕ
thread_text signals areas thread =
    state_line thread.tid thread.state
    ++ signals_line thread.tid (mask_of thread.tid signals) (pending_of thread.tid signals)
    ++ resting_text thread.tid thread.pc (area_of thread.tid areas)

-- those of threads
abbrev pub told_text : Signalling → List (ℕ × Area) → List Told → List ℕ
told_text signals areas threads = flat_map (thread_text signals areas) threads

-- what is told of a live thread, where these are the files of threads
abbrev pub told_at : (ℕ → Saved) → Thread → Told
told_at file th = record { tid = th.tid; state = th.state; pc = resting_pc th.state (file th.tid).pc }

-- the lines of each live thread of this record, in their order
unfoldable pub threads_text : Kernel → (ℕ → Saved) → List ℕ
threads_text k file = told_text k.signals k.areas (map (told_at file) k.threads.live)
