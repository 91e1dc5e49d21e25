-- The system calls of Linux for RISC-V by name (uapi asm-generic/unistd.h; section 2 of the manual), how many arguments each has that
-- counts here, and the error numbers by name (errno(3)).
use Rattle.std.specs.Prelude.{ℕ, ◌%◌, ◌==◌, ◌&&◌, ◌||◌, Bool, List, [], if◌then◌else◌, codes}

-- the name of a call; no characters where there is no call of this number
unfoldable pub call_name : ℕ → List ℕ
call_name number =
    if number == 29 then codes "ioctl"
    else if number == 64 then codes "write"
    else if number == 66 then codes "writev"
    else if number == 80 then codes "fstat"
    else if number == 93 then codes "exit"
    else if number == 94 then codes "exit_group"
    else if number == 96 then codes "set_tid_address"
    else if number == 98 then codes "futex"
    else if number == 120 then codes "sched_getscheduler"
    else if number == 121 then codes "sched_getparam"
    else if number == 122 then codes "sched_setaffinity"
    else if number == 123 then codes "sched_getaffinity"
    else if number == 124 then codes "sched_yield"
    else if number == 125 then codes "sched_get_priority_max"
    else if number == 126 then codes "sched_get_priority_min"
    else if number == 130 then codes "tkill"
    else if number == 131 then codes "tgkill"
    else if number == 134 then codes "rt_sigaction"
    else if number == 135 then codes "rt_sigprocmask"
    else if number == 136 then codes "rt_sigpending"
    else if number == 139 then codes "rt_sigreturn"
    else if number == 160 then codes "uname"
    else if number == 168 then codes "getcpu"
    else if number == 172 then codes "getpid"
    else if number == 173 then codes "getppid"
    else if number == 174 then codes "getuid"
    else if number == 175 then codes "geteuid"
    else if number == 176 then codes "getgid"
    else if number == 177 then codes "getegid"
    else if number == 178 then codes "gettid"
    else if number == 214 then codes "brk"
    else if number == 215 then codes "munmap"
    else if number == 220 then codes "clone"
    else if number == 222 then codes "mmap"
    else if number == 226 then codes "mprotect"
    else if number == 233 then codes "madvise"
    else if number == 261 then codes "prlimit64"
    else if number == 278 then codes "getrandom"
    else if number == 283 then codes "membarrier"
    else if number == 293 then codes "rseq"
    else []

-- how many arguments it has; none are told of a call that isn't there
unfoldable pub argument_count : ℕ → ℕ
argument_count number =
    if number == 29 then 3
    else if number == 64 then 3
    else if number == 66 then 3
    else if number == 80 then 2
    else if number == 93 then 1
    else if number == 94 then 1
    else if number == 96 then 1
    else if number == 98 then 4
    else if number == 120 then 1
    else if number == 121 then 2
    else if number == 122 then 3
    else if number == 123 then 3
    else if number == 125 then 1
    else if number == 126 then 1
    else if number == 130 then 2
    else if number == 131 then 3
    else if number == 134 then 4
    else if number == 135 then 4
    else if number == 136 then 2
    else if number == 160 then 1
    else if number == 168 then 2
    else if number == 214 then 1
    else if number == 215 then 2
    else if number == 220 then 5
    else if number == 222 then 6
    else if number == 226 then 3
    else if number == 233 then 3
    else if number == 261 then 4
    else if number == 278 then 3
    else if number == 283 then 3
    else if number == 293 then 4
    else 0

-- an operation of futex(2) that moves waiters or has a mask, by its low bits: REQUEUE 3, CMP_REQUEUE 4, WAIT_BITSET 9, WAKE_BITSET 10
abbrev pub has_two_more : ℕ → Bool
has_two_more operation =
    let op = operation % 128 in
    op == 3 || op == 4 || op == 9 || op == 10

-- how many arguments count in a call of this number with this second argument
abbrev pub told_count : ℕ → ℕ → ℕ
told_count number second = if number == 98 && has_two_more second then 6 else argument_count number

-- the name of an error number; no characters where no call here gives it
unfoldable pub errno_name : ℕ → List ℕ
errno_name errno =
    if errno == 1 then codes "EPERM"
    else if errno == 3 then codes "ESRCH"
    else if errno == 4 then codes "EINTR"
    else if errno == 9 then codes "EBADF"
    else if errno == 11 then codes "EAGAIN"
    else if errno == 12 then codes "ENOMEM"
    else if errno == 13 then codes "EACCES"
    else if errno == 14 then codes "EFAULT"
    else if errno == 16 then codes "EBUSY"
    else if errno == 22 then codes "EINVAL"
    else if errno == 25 then codes "ENOTTY"
    else if errno == 28 then codes "ENOSPC"
    else if errno == 38 then codes "ENOSYS"
    else []
