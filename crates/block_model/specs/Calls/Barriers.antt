-- membarrier(2): what a command answers, and the barrier that it begins, is said with the commands; here are its arguments, and what
-- the call does. The caller's thread keeps its hart, and waits there until its barrier returns.
use Rattle.std.specs.Prelude.{ℕ, Bool, [], ◌∷◌, Some, is_some}
use Rattle.mach_types.specs.Kernel.Barriers.{command, harts_that, registered_after}
use Rattle.mach_types.specs.Kernel.Threads.{Threads, running_on}
use Rattle.mach_types.specs.declared.barriers.Answer.{Answer}
use Rattle.mach_types.specs.declared.barriers.Answer.TheVariants.{Value, Begin}
use Rattle.rv_inst.specs.Words.{signed_32, sum_64, word}
use Rattle.block_model.specs.Here.{Here}
use Rattle.block_model.specs.Kernel.{for_barriers}
use Rattle.block_model.specs.Calls.Answers.{CallDone, argument, int_argument, said}

-- the set of the harts on which threads run
abbrev pub running_harts : Threads → ℕ → ℕ
running_harts ts harts = harts_that (λ h. is_some (running_on h ts)) harts

-- a barrier begins: the pc goes on past the call, and a0 stays until the barrier returns
abbrev pub begins : Here → ℕ → ℕ → Bool → CallDone
begins here t targets restart = record (said here t 0) {
  files = (t, record (here.file t) { pc = sum_64 (here.file t).pc 4 }) ∷ [];
  barrier = Some (record { targets = targets; restart = restart });
}

-- an answer at once leaves the process registered as the command says
abbrev pub answers : Here → ℕ → Answer → CallDone
answers here t (Value n) = record (said here t (word n)) {
  kernel = for_barriers (registered_after here.kernel.barriers (signed_32 (argument here t 0)) (int_argument here t 1)) here.kernel;
}
answers here t (Begin targets restart) = begins here t targets restart

-- membarrier(cmd, flags, cpu), number 283
abbrev pub membarrier : Here → ℕ → CallDone
membarrier here t =
    let harts = here.setting.limits.harts in
    answers here t (command
    here.kernel.barriers
    (signed_32 (argument here t 0))
    (int_argument here t 1)
    (signed_32 (argument here t 2))
    here.hart
    (running_harts here.kernel.threads harts)
    harts)
