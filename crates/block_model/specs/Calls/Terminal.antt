-- ioctl(2) and fstat(2) on the console. That it is a terminal of 25 rows and 80 columns, of which TIOCGWINSZ alone can be asked, is own.
use Rattle.std.specs.Prelude.{ℕ, ◌+◌, ◌*◌, ◌^◌, ◌==◌, Bool, not, nat_lt, List, [], ◌∷◌}
use Rattle.mach_types.specs.declared.errors.Errno.{Errno}
use Rattle.mach_types.specs.declared.errors.TheConstants.{EBADF, EFAULT}
use Rattle.mach_types.specs.declared.user_memory.Write.{Write}
use Rattle.block_model.specs.Here.{Here}
use Rattle.block_model.specs.Calls.Answers.{CallDone, Errors, argument, int_argument, are_writable, double_written, said, unless, word_written, zeros_written}

-- not a terminal, or no request that it knows (errno(3))
abbrev pub ENOTTY : Errno
ENOTTY = record { 0 = 25 }

-- the standard input, the standard output and the standard error; each is the console
abbrev pub is_open : ℕ → Bool
is_open fd = nat_lt fd 3

-- the request TIOCGWINSZ (uapi asm-generic/ioctls.h), and its answer, a `struct winsize` (ioctl_tty(2)): the rows, the columns, and
-- two numbers that are 0, of 2 bytes each, as one number of 8 bytes
abbrev pub get_window_size : ℕ
get_window_size = 21523

abbrev pub window_size : ℕ
window_size = 25 + 80 * 2 ^ 16

-- ioctl(fd, request, p), number 29
abbrev pub ioctl_errors : Here → ℕ → Errors
ioctl_errors here t =
    (not (is_open (int_argument here t 0)), EBADF)
    ∷ (not (int_argument here t 1 == get_window_size), ENOTTY)
    ∷ (not (are_writable here (argument here t 2) 8), EFAULT)
    ∷ []

abbrev pub ioctl : Here → ℕ → CallDone
ioctl here t =
    unless here t (ioctl_errors here t)
    (record (said here t 0) { entered = double_written (argument here t 2) window_size ∷ [] })

-- a `struct stat` (uapi asm-generic/stat.h): 128 bytes, zeros but for the mode, which is a character device that its owner reads and writes
-- and its group writes (S_IFCHR and 0620, inode(7)), and the number of links, 1, as one number of 8 bytes; the number of the device,
-- 5 and 1; and the size of a block, 1,024 (own)
abbrev pub stat_size : ℕ
stat_size = 128

abbrev pub stat_written : ℕ → List Write
stat_written at =
    zeros_written at stat_size
    ∷ double_written (at + 16) (8592 + 2 ^ 32)
    ∷ double_written (at + 32) 1281
    ∷ word_written (at + 56) 1024
    ∷ []

-- fstat(fd, p), number 80
abbrev pub fstat_errors : Here → ℕ → Errors
fstat_errors here t =
    (not (is_open (int_argument here t 0)), EBADF)
    ∷ (not (are_writable here (argument here t 1) stat_size), EFAULT)
    ∷ []

abbrev pub fstat : Here → ℕ → CallDone
fstat here t =
    unless here t (fstat_errors here t)
    (record (said here t 0) { entered = stat_written (argument here t 1) })
