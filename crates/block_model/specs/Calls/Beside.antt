-- The two calls that another process on the machine changes: membarrier(2), whose barriers may be about its
-- harts too, and rseq(2), which isn't there then (own).
use Rattle.std.specs.Prelude.{ℕ, Option, Some, None}
use Rattle.mach_types.specs.declared.errors.TheConstants.{ENOSYS}
use Rattle.rv_inst.specs.Words.{signed_32}
use Rattle.block_model.specs.Beside.{Neighbour}
use Rattle.block_model.specs.Here.{Here}
use Rattle.block_model.specs.Calls.Answers.{CallDone, argument, int_argument, refused}
use Rattle.block_model.specs.Calls.Barriers.{answers, membarrier, running_harts}
use Rattle.block_model.specs.Calls.Sequences.{rseq}
use Rattle.mach_types.specs.Kernel.PairBarriers.{command_two}

-- membarrier(cmd, flags, cpu), number 283, beside another process
abbrev pub membarrier_beside : Neighbour → Here → ℕ → CallDone
membarrier_beside other here t =
    let harts = here.setting.limits.harts in
    answers here t (command_two
    here.kernel.barriers
    other.registered
    (signed_32 (argument here t 0))
    (int_argument here t 1)
    (signed_32 (argument here t 2))
    here.hart
    (running_harts here.kernel.threads harts)
    other.running
    harts)

-- number 283 and number 293 of a process that is alone, or beside another one
abbrev pub barrier_call : Option Neighbour → Here → ℕ → CallDone
barrier_call None here t = membarrier here t
barrier_call (Some other) here t = membarrier_beside other here t

abbrev pub sequence_call : Option Neighbour → Here → ℕ → CallDone
sequence_call None here t = rseq here t
sequence_call (Some other) here t = refused here t ENOSYS
