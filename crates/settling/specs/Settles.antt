-- A hart whose thread's next instruction may be made at once (own).
use Rattle.std.specs.Prelude.{ℕ, ◌≡◌, ◌&&◌, Bool, true, false, Option, Some, None}
use Rattle.std.specs.Option.{option_map_or}
use Rattle.mach_types.specs.declared.sequences.Area.{Area}
use Rattle.mach_types.specs.declared.threads.Saved.{Saved}
use Rattle.mach_types.specs.Kernel.Threads.{running_on}
use Rattle.block_model.specs.Here.{Here, runs, view}
use Rattle.block_model.specs.Plain.{Plain}
use Rattle.block_model.specs.Sequences.{area_here}
use Rattle.block_model.specs.Setting.{Setting}
use Rattle.local_steps.specs.LocalSteps.{IsLocalStep}
use Rattle.local_steps.specs.Resting.{RestsOutside}
use Rattle.settling.specs.Glances.{glance_in, is_past}
use Rattle.settling.specs.LocalFiles.{local_file}

-- both pcs are outside what an area looks at, with these bytes
abbrev pub are_past : (ℕ → Option ℕ) → Area → ℕ → ℕ → Bool
are_past byte area from to = is_past (glance_in byte area) from && is_past (glance_in byte area) to

-- the thread that runs on the hart makes a local step next, which reads no memory, and is outside what its
-- area looks at, as the hart sees memory, both before it and after it. Not so where no thread runs
abbrev pub is_settling_by : Here → Option ℕ → Bool
is_settling_by here None = false
is_settling_by here (Some t) =
    option_map_or
    (λ g. option_map_or (λ area. are_past (view here) area (here.file t).pc g.pc) (area_here here t) true)
    (local_file here.setting.program.pages (here.file t)) false

abbrev pub is_settling_here : Here → Bool
is_settling_here here = is_settling_by here (runs here)

-- the next instruction of the thread on hart h is a local step, and where the thread may rest at all, it
-- rests outside what its area looks at
pub record MaySettle (s : Setting) (p : Plain) (h : ℕ) : Type 0 where
  pub thread : ℕ
  pub file : Saved
  pub runs : running_on h p.kernel.threads ≡ Some thread
  pub local : IsLocalStep s (p.file thread) file
  pub rests : (threads : ℕ → Bool) → threads thread ≡ true
      → RestsOutside (λ t. threads t ≡ true) thread file p
