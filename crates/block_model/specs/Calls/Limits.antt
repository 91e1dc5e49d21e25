-- prlimit(2): the limits of the process. That the stack has 262,144 bytes and nothing else has a limit is own, and that no limit can be
-- changed.
use Rattle.std.specs.Prelude.{ℕ, ◌+◌, ◌-◌, ◌*◌, ◌^◌, ◌==◌, ◌&&◌, Bool, not, nat_lt, List, [], ◌∷◌, if◌then◌else◌}
use Rattle.mach_types.specs.declared.address_space.TheConstants.{PAGE_SIZE, STACK_PAGES}
use Rattle.mach_types.specs.declared.errors.TheConstants.{EFAULT, EINVAL, EPERM, ESRCH}
use Rattle.mach_types.specs.declared.user_memory.Write.{Write}
use Rattle.block_model.specs.Here.{Here}
use Rattle.block_model.specs.Calls.Affinity.{names_nobody}
use Rattle.block_model.specs.Calls.Answers.{CallDone, Errors, argument, int_argument, double_written, said, unless}
use Rattle.block_model.specs.Calls.Signals.{may_read, may_write}

-- whether a number names neither the process, which has number 1, nor a thread of it; 0 names the caller's
abbrev pub names_no_process : Here → ℕ → Bool
names_no_process here pid = not (pid == 1) && names_nobody here pid

-- the resources are 0 to 15 (uapi asm-generic/resource.h), and RLIMIT_STACK is 3; no limit is RLIM_INFINITY, the largest number
abbrev pub is_resource : ℕ → Bool
is_resource n = nat_lt n 16

abbrev pub limit_of : ℕ → ℕ
limit_of resource = if resource == 3 then STACK_PAGES * PAGE_SIZE else 2 ^ 64 - 1

-- a `struct rlimit64`: the soft limit and the hard one, which is the same
abbrev pub limit_size : ℕ
limit_size = 16

abbrev pub limit_written : ℕ → ℕ → List Write
limit_written at limit = double_written at limit ∷ double_written (at + 8) limit ∷ []

-- prlimit64(pid, resource, new, old), number 261
abbrev pub prlimit_errors : Here → ℕ → Errors
prlimit_errors here t =
    let new = argument here t 2 in
    (not (may_read here new limit_size), EFAULT)
    ∷ (names_no_process here (int_argument here t 0), ESRCH)
    ∷ (not (is_resource (int_argument here t 1)), EINVAL)
    ∷ (not (new == 0), EPERM)
    ∷ (not (may_write here (argument here t 3) limit_size), EFAULT)
    ∷ []

abbrev pub prlimit64 : Here → ℕ → CallDone
prlimit64 here t =
    let old = argument here t 3 in
    unless here t (prlimit_errors here t)
    (record (said here t 0) { entered = if old == 0 then [] else limit_written old (limit_of (int_argument here t 1)) })
