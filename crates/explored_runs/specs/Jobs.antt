-- What the host threads of an exploration make (own).
use Rattle.std.specs.Prelude.{◌≡◌, ◌≤◌, ◌<◌, ◌+◌, All, IfSome, length}
use Rattle.mach_types.specs.Limits.{InRange}
use Rattle.mach_types.specs.declared.limits.Limits.{Limits}
use Rattle.elf_load.specs.Images.{IsBootable}
use Rattle.elf_load.specs.declared.image.Image.{Image}
use Rattle.block_model.specs.Setting.{Setting}
use Rattle.drawn_machine.specs.declared.drawn_run.DrawnRun.{DrawnRun}
use Rattle.explored_runs.specs.declared.exploration.Exploration.{Exploration}
use Rattle.explored_runs.specs.declared.jobs.Batch.{Batch}
use Rattle.explored_runs.specs.declared.jobs.Job.{Job}
use Rattle.explored_runs.specs.Explored.{AreMadeFrom}

-- what can be explored: an image that can be booted, within limits that are in range, by 1,000,000,000 runs at most
pub record IsExplorable (image : Image) (limits : Limits) (x : Exploration) : Type 0 where
  pub bootable : IsBootable limits.frames image
  pub in_range : InRange limits
  pub few : x.runs ≤ 1000000000

-- the runs of a batch were made of the places from its own on, and these are places of the exploration; one may be absent
pub record IsBatch (s : Setting) (x : Exploration) (b : Batch) : Type 0 where
  pub made : AreMadeFrom s x b.from b.made.items
  pub some : 0 < length b.made.items
  pub few : b.from + length b.made.items ≤ x.runs

-- the machine of a job is one of the setting, and so are its batches
pub record IsJob (s : Setting) (x : Exploration) (j : Job) : Type 0 where
  pub setting : IfSome j.run (λ (run : DrawnRun). run.machine.setting ≡ s)
  pub batches : All (IsBatch s x) j.batches.items
