-- The end of sched_setaffinity(2): what is done with the set of harts that a thread gives itself.
use Rattle.std.specs.Prelude.{ℕ, ◌==◌, if◌then◌else◌}
use Rattle.mach_types.specs.declared.errors.TheConstants.{EINVAL}
use Rattle.mach_types.specs.Kernel.Scheduling.{harts_in}
use Rattle.block_model.specs.Here.{Here}
use Rattle.block_model.specs.Calls.Affinity.{moved_off}
use Rattle.block_model.specs.Calls.Answers.{CallDone, refused, said}

-- where the machine has none of the harts the call is refused; else the thread's harts are those of the set
abbrev pub setaffinity_with : Here → ℕ → ℕ → CallDone
setaffinity_with here t asked =
    let set = harts_in asked here.setting.limits.harts in
    if set == 0 then refused here t EINVAL else record (said here t 0) { kernel = moved_off here t set }
