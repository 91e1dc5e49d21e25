-- getpid(2), getppid(2), getuid(2), getgid(2), gettid(2) and set_tid_address(2): the numbers of the process, of its parent,
-- of its user and group and of the thread, and the address that the thread's exit clears.
use Rattle.std.specs.Prelude.{ℕ}
use Rattle.block_model.specs.Here.{Here}
use Rattle.block_model.specs.Kernel.{cleared}
use Rattle.block_model.specs.Calls.Answers.{CallDone, argument, said}

-- getpid(), number 172: the process has number 1
abbrev pub getpid : Here → ℕ → CallDone
getpid here t = said here t 1

-- getppid(), number 173: the parent has number 1, as that of an orphan has (own)
abbrev pub getppid : Here → ℕ → CallDone
getppid here t = said here t 1

-- getuid(), geteuid(), getgid() and getegid(), numbers 174 to 177: the user and the group have number 0 (own)
abbrev pub getuid : Here → ℕ → CallDone
getuid here t = said here t 0

abbrev pub geteuid : Here → ℕ → CallDone
geteuid here t = said here t 0

abbrev pub getgid : Here → ℕ → CallDone
getgid here t = said here t 0

abbrev pub getegid : Here → ℕ → CallDone
getegid here t = said here t 0

-- gettid(), number 178
abbrev pub gettid : Here → ℕ → CallDone
gettid here t = said here t t

-- set_tid_address(p), number 96
abbrev pub set_tid_address : Here → ℕ → CallDone
set_tid_address here t = record (said here t t) { kernel = cleared t (argument here t 0) here.kernel }
