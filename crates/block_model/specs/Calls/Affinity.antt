-- sched_setaffinity(2), sched_getaffinity(2), sched_yield(2) and getcpu(2). A set of harts is a mask whose bit h stands for hart h.
-- That a thread may set its own affinity alone is own.
use Rattle.std.specs.Prelude.{ℕ, ◌%◌, ◌==◌, ◌||◌, ◌&&◌, Bool, not, min, nat_lt, List, [], ◌∷◌, ◌++◌, if◌then◌else◌}
use Rattle.mach_types.specs.declared.errors.TheConstants.{EFAULT, EINVAL, EPERM, ESRCH}
use Rattle.mach_types.specs.declared.user_memory.Write.{Write}
use Rattle.block_model.specs.Record.{Kernel}
use Rattle.mach_types.specs.Kernel.Scheduling.{affinity_of, has_hart, harts_in}
use Rattle.mach_types.specs.Kernel.Threads.{is_live}
use Rattle.block_model.specs.Here.{Here}
use Rattle.block_model.specs.Kernel.{left, restricted}
use Rattle.block_model.specs.Calls.Answers.{CallDone, Errors, argument, int_argument, are_readable, are_writable, double_written, number_at, said, unless, word_written}

-- whether the thread that a call names is no live one; 0 names the caller
abbrev pub names_nobody : Here → ℕ → Bool
names_nobody here tid = not ((tid == 0) || is_live tid here.kernel.threads)

-- the set of harts in memory: its first byte, where it has one
abbrev pub set_at : Here → ℕ → ℕ → ℕ
set_at here at len = if len == 0 then 0 else number_at here at 1

-- the thread's harts are these; where its own isn't among them it leaves and is ready
abbrev pub moved_off : Here → ℕ → ℕ → Kernel
moved_off here t set =
    if has_hart set here.hart then restricted t set here.kernel else left t (restricted t set here.kernel)

-- sched_setaffinity(tid, len, p), number 122
abbrev pub set_given : Here → ℕ → ℕ
set_given here t =
    harts_in (set_at here (argument here t 2) (int_argument here t 1)) here.setting.limits.harts

abbrev pub setaffinity_errors : Here → ℕ → Errors
setaffinity_errors here t =
    let tid = int_argument here t 0 in
    (not (are_readable here (argument here t 2) (min (int_argument here t 1) 8)), EFAULT)
    ∷ (names_nobody here tid, ESRCH)
    ∷ (not ((tid == 0) || (tid == t)), EPERM)
    ∷ (set_given here t == 0, EINVAL)
    ∷ []

abbrev pub sched_setaffinity : Here → ℕ → CallDone
sched_setaffinity here t =
    unless here t (setaffinity_errors here t)
    (record (said here t 0) { kernel = moved_off here t (set_given here t) })

-- sched_getaffinity(tid, len, p), number 123: 8 bytes
abbrev pub getaffinity_errors : Here → ℕ → Errors
getaffinity_errors here t =
    let len = int_argument here t 1 in
    (nat_lt len 8 || not (len % 8 == 0), EINVAL)
    ∷ (names_nobody here (int_argument here t 0), ESRCH)
    ∷ (not (are_writable here (argument here t 2) 8), EFAULT)
    ∷ []

abbrev pub sched_getaffinity : Here → ℕ → CallDone
sched_getaffinity here t =
    let tid = int_argument here t 0 in
    let set = affinity_of (if tid == 0 then t else tid) here.kernel.scheduling in
    unless here t (getaffinity_errors here t)
    (record (said here t 8) { entered = double_written (argument here t 2) set ∷ [] })

-- sched_yield(), number 124: the thread leaves and is ready
abbrev pub sched_yield : Here → ℕ → CallDone
sched_yield here t = record (said here t 0) { kernel = left t here.kernel }

-- a pointer is 0, or its word can be written; and the write of a word there, where it isn't 0
abbrev pub is_usable : Here → ℕ → Bool
is_usable here p = (p == 0) || are_writable here p 4

abbrev pub written_unless_zero : ℕ → ℕ → List Write
written_unless_zero p value = if p == 0 then [] else word_written p value ∷ []

-- getcpu(cpu, node), number 168: the hart, and node 0
abbrev pub getcpu_errors : Here → ℕ → Errors
getcpu_errors here t =
    (not (is_usable here (argument here t 0) && is_usable here (argument here t 1)), EFAULT)
    ∷ []

abbrev pub getcpu : Here → ℕ → CallDone
getcpu here t =
    let cpu = argument here t 0 in
    let node = argument here t 1 in
    unless here t (getcpu_errors here t)
    (record (said here t 0) { entered = written_unless_zero cpu here.hart ++ written_unless_zero node 0 })
