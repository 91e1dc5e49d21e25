-- What workers share: a machine, by its setting, its seed and its log; which entry a hart makes next, and whether the run has ended; and the
-- code by which they work beside it.
use Rattle.std.specs.Prelude.{ℕ, ◌≡◌, Bool, List, Option, map}
use Rattle.std.specs.List.Sorted.{IsStrictlyIncreasing}
use Rattle.mach_types.specs.declared.events.Entry.{Entry}
use Rattle.mach_types.specs.declared.events.Hart.{Hart}
use Rattle.elf_load.specs.declared.image.ImagePage.{ImagePage}
use Rattle.block_model.specs.Choosing.{has_ended, next_entry}
use Rattle.block_model.specs.Deciding.{history}
use Rattle.block_model.specs.Setting.{Setting}
use Rattle.block_model.specs.Stretches.{IsStretchOf}
use Rattle.machine_core.specs.Stretches.{stretch_of}
use Rattle.machine_core.specs.declared.stretches.Stretch.{Stretch}
use Rattle.process.specs.Pages.{code_of}
use Rattle.rule_runs.specs.declared.shared.Shared.{Shared}

-- what a run by workers starts from: its setting, and the seed by which its harts choose
pub record Start : Type 0 where
  pub setting : Setting
  pub seed : ℕ

abbrev pub start_in : Shared → Start
start_in shared = record { setting = shared.machine.value.setting; seed = shared.machine.value.seed }

abbrev pub log_in : Shared → List Entry
log_in shared = shared.machine.value.log

-- the entry of the hart's choice, if it has one
abbrev pub next_in : Start → List Entry → Hart → Option Entry
next_in start log hart = next_entry start.setting start.seed hart.0 (history start.setting log)

-- the run has ended, or its log is full
abbrev pub ended_in : Start → List Entry → Bool
ended_in start log = has_ended start.setting (history start.setting log)

-- a stretch that may be appended to this log for this hart
abbrev pub IsStretchIn : Start → Hart → List Entry → Stretch → Type 0
IsStretchIn start hart log stretch = IsStretchOf start.setting start.seed hart.0 log (stretch_of stretch)

-- the code of a setting: the pages of its program that may be executed, where the program's pages stand in rising order
pub record IsCodeOf (s : Setting) (code : List ImagePage) : Type 0 where
  pub pages : code ≡ code_of s.program.pages
  pub rising : IsStrictlyIncreasing (map (λ (p : ImagePage). p.number) s.program.pages)
