-- The table of calls (Linux for RISC-V): which call a number is. Refusals are tested in the order given, and a refused call
-- changes nothing but a0 and the pc.
use Rattle.std.specs.Prelude.{ℕ, ◌==◌, if◌then◌else◌}
use Rattle.mach_types.specs.declared.errors.TheConstants.{ENOSYS}
use Rattle.block_model.specs.Here.{Here}
use Rattle.block_model.specs.Calls.Answers.{CallDone, call_number, refused}
use Rattle.block_model.specs.Calls.Affinity.{getcpu, sched_getaffinity, sched_setaffinity, sched_yield}
use Rattle.block_model.specs.Calls.Beside.{barrier_call, sequence_call}
use Rattle.block_model.specs.Calls.Cloning.{clone}
use Rattle.block_model.specs.Calls.Console.{write, writev}
use Rattle.block_model.specs.Calls.Ending.{exit, exit_group}
use Rattle.block_model.specs.Calls.Futexes.{futex}
use Rattle.block_model.specs.Calls.Limits.{prlimit64}
use Rattle.block_model.specs.Calls.Memory.{brk, madvise, mmap, mprotect, munmap}
use Rattle.block_model.specs.Calls.Numbers.{getegid, geteuid, getgid, getpid, getppid, gettid, getuid, set_tid_address}
use Rattle.block_model.specs.Calls.Policies.{sched_get_priority_max, sched_get_priority_min, sched_getparam, sched_getscheduler}
use Rattle.block_model.specs.Calls.Random.{getrandom}
use Rattle.block_model.specs.Calls.Signals.{rt_sigaction, rt_sigpending, rt_sigprocmask, rt_sigreturn, tgkill, tkill}
use Rattle.block_model.specs.Calls.System.{uname}
use Rattle.block_model.specs.Calls.Terminal.{fstat, ioctl}
pub mod Affinity
pub mod Answers
pub mod Barriers
pub mod Beside
pub mod Cloning
pub mod Console
pub mod Ending
pub mod Futexes
pub mod Limits
pub mod Memory
pub mod Numbers
pub mod Policies
pub mod Random
pub mod Sequences
pub mod Signals
pub mod System
pub mod Terminal

-- the call of this number, of those that only ask: they answer, perhaps write to memory, and change nothing else; one that isn't there
-- answers ENOSYS
abbrev pub asking_call_of : ℕ → Here → ℕ → CallDone
asking_call_of number here t =
    if number == 29 then ioctl here t
    else if number == 80 then fstat here t
    else if number == 120 then sched_getscheduler here t
    else if number == 121 then sched_getparam here t
    else if number == 125 then sched_get_priority_max here t
    else if number == 126 then sched_get_priority_min here t
    else if number == 136 then rt_sigpending here t
    else if number == 160 then uname here t
    else if number == 173 then getppid here t
    else if number == 174 then getuid here t
    else if number == 175 then geteuid here t
    else if number == 176 then getgid here t
    else if number == 177 then getegid here t
    else if number == 261 then prlimit64 here t
    else refused here t ENOSYS

-- the call of this number, of those that hang on the state of no other process
abbrev pub own_call_of : ℕ → Here → ℕ → CallDone
own_call_of number here t =
    if number == 64 then write here t
    else if number == 66 then writev here t
    else if number == 93 then exit here t
    else if number == 94 then exit_group here t
    else if number == 96 then set_tid_address here t
    else if number == 98 then futex here t
    else if number == 122 then sched_setaffinity here t
    else if number == 123 then sched_getaffinity here t
    else if number == 124 then sched_yield here t
    else if number == 130 then tkill here t
    else if number == 131 then tgkill here t
    else if number == 134 then rt_sigaction here t
    else if number == 135 then rt_sigprocmask here t
    else if number == 139 then rt_sigreturn here t
    else if number == 168 then getcpu here t
    else if number == 172 then getpid here t
    else if number == 178 then gettid here t
    else if number == 214 then brk here t
    else if number == 215 then munmap here t
    else if number == 220 then clone here t
    else if number == 222 then mmap here t
    else if number == 226 then mprotect here t
    else if number == 233 then madvise here t
    else if number == 278 then getrandom here t
    else asking_call_of number here t

-- the call of this number; membarrier(2) and rseq(2) are others where a process is beside their own
abbrev pub call_of : ℕ → Here → ℕ → CallDone
call_of number here t =
    if number == 283 then barrier_call here.beside here t
    else if number == 293 then sequence_call here.beside here t
    else own_call_of number here t

-- what the call of thread t does
abbrev pub called : Here → ℕ → CallDone
called here t = call_of (call_number here t) here t
