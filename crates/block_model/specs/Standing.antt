-- What holds where a process stands, and is enough for an event of one of its harts. It says nothing of how
-- the process came there.
use Rattle.std.specs.Prelude.{ℕ, ◌+◌, ◌≡◌, ◌≢◌, ◌<◌, ◌≤◌, true, [], length, Option, Some, None}
use Rattle.std.specs.List.{AllByRecursion}
use Rattle.mach_types.specs.Bytes.{each_byte}
use Rattle.mach_types.specs.Kernel.Pages.{Pages, permission_at, can_write}
use Rattle.mach_types.specs.Kernel.Threads.{running_on}
use Rattle.mach_types.specs.declared.kernel_words.TheConstants.{CONSOLE_ROOM}
use Rattle.mach_types.specs.declared.user_memory.Store.{Store}
use Rattle.mach_types.specs.declared.user_memory.TheConstants.{STORE_BUFFER_CAPACITY}
use Rattle.block_model.specs.Beside.{Neighbour, or_in_segment}
use Rattle.block_model.specs.Here.{Here, runs, waiting_here}
use Rattle.block_model.specs.Record.{Kernel}
use Rattle.block_model.specs.Setting.{Setting}
use Rattle.block_model.specs.Stands.{Stand, here_at}
use Rattle.block_model.specs.Tables.{AllAllowed, IsHeld, IsTables}

-- a store whose bytes can all be written, on pages or in the segment
abbrev pub MayEnter : Option Neighbour → Pages → Store → Type 0
MayEnter beside p w = each_byte (or_in_segment beside (λ a. can_write (permission_at p a))) w.at w.size ≡ true

-- the kernel's record, by concern: its tables; the affinities; the console
pub record IsSound (s : Setting) (k : Kernel) : Type 0 where
  pub tables : IsTables s.limits.harts k.threads k.scheduling
  pub allowed : AllAllowed s.limits.harts k.threads k.scheduling
  pub console : length k.console ≤ CONSOLE_ROOM

-- at a hart of the machine: what waits may enter memory, and as many stores wait as a buffer holds; an idle
-- hart has no waiting store; a hart whose thread waits in a barrier runs a thread, and has no waiting store;
-- and the record is sound
pub record IsGoodHere (here : Here) : Type 0 where
  pub lt : here.hart < here.setting.limits.harts
  pub within : (k : ℕ) → AllByRecursion (MayEnter here.beside here.kernel.pages) (here.waiting k)
  pub few : length (waiting_here here) ≤ STORE_BUFFER_CAPACITY
  pub idle : (k : ℕ) → running_on k here.kernel.threads ≡ None → here.waiting k ≡ []
  pub busy : (left : ℕ) → here.awaits ≡ Some left → runs here ≢ None
  pub empty : (left : ℕ) → here.awaits ≡ Some left → waiting_here here ≡ []
  pub kernel : IsSound here.setting here.kernel

-- each hart is good, the record is sound and holds what it holds for threads, and no count is past the number
-- of events
pub record IsStanding (v : Stand) : Type 0 where
  pub good : (h : ℕ) → h < v.setting.limits.harts → IsGoodHere (here_at v h)
  pub sound : IsSound v.setting v.plain.kernel
  pub held : IsHeld v.setting.limits.harts v.plain.kernel
  pub events : (h : ℕ) → v.plain.events h ≤ v.plain.made
  pub ran : (h : ℕ) → v.plain.ran h ≤ v.plain.made
  pub given : v.plain.kernel.threads.given ≤ v.plain.made + 1
