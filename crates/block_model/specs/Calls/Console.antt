-- write(2) and writev(2): bytes to the console, which is both standard output and standard error. How many bytes it holds is
-- own, and so is that bytes are joined before they are looked at.
use Rattle.std.specs.Prelude.{ℕ, ◌+◌, ◌-◌, ◌*◌, ◌^◌, ◌==◌, ◌||◌, ◌&&◌, Bool, true, not, nat_le, nat_lt, zero, suc, List, [], ◌∷◌, ◌++◌, length, take, if◌then◌else◌, Option, unwrap_or}
use Rattle.mach_types.specs.declared.errors.TheConstants.{EBADF, EFAULT, EINVAL, ENOSPC}
use Rattle.mach_types.specs.declared.kernel_words.TheConstants.{CONSOLE_ROOM}
use Rattle.block_model.specs.Here.{Here, memory}
use Rattle.block_model.specs.Kernel.{printed}
use Rattle.block_model.specs.Calls.Answers.{CallDone, Errors, argument, int_argument, are_readable, number_at, said, unless}

-- bytes of memory: so many from an address on
pub record Span : Type 0 where
  pub at : ℕ
  pub len : ℕ

-- their bytes
abbrev pub bytes_from : (ℕ → Option ℕ) → ℕ → ℕ → List ℕ
bytes_from byte at zero = []
bytes_from byte at (suc n) = unwrap_or (byte at) 0 ∷ bytes_from byte (at + 1) n

abbrev pub bytes_of : (ℕ → Option ℕ) → List Span → List ℕ
bytes_of byte [] = []
bytes_of byte (s ∷ ss) = bytes_from byte s.at s.len ++ bytes_of byte ss

-- how many they are
abbrev pub total : List Span → ℕ
total [] = 0
total (s ∷ ss) = s.len + total ss

-- whether all of them can be read
abbrev pub all_readable : Here → List Span → Bool
all_readable here [] = true
all_readable here (s ∷ ss) = are_readable here s.at s.len && all_readable here ss

-- how many bytes the console still takes
abbrev pub room : Here → ℕ
room here = CONSOLE_ROOM - length here.kernel.console

-- the first bytes that fit come to the console; the answer is how many
abbrev pub wrote : Here → ℕ → List ℕ → CallDone
wrote here t bytes = record (said here t (length bytes)) { kernel = printed bytes here.kernel }

-- bytes of memory, joined
abbrev pub span_errors : Here → List Span → Errors
span_errors here spans =
    (not (all_readable here spans), EFAULT)
    ∷ (nat_le CONSOLE_ROOM (length here.kernel.console), ENOSPC)
    ∷ []

abbrev pub write_spans : Here → ℕ → List Span → CallDone
write_spans here t spans =
    if total spans == 0 then said here t 0
    else unless here t (span_errors here spans)
    (wrote here t (take (room here) (bytes_of (memory here) spans)))

-- whether the call's descriptor isn't of the console
abbrev pub is_elsewhere : Here → ℕ → Bool
is_elsewhere here t = let fd = int_argument here t 0 in not ((fd == 1) || (fd == 2))

-- write(fd, buf, len), number 64
abbrev pub write_errors : Here → ℕ → Errors
write_errors here t = (is_elsewhere here t, EBADF) ∷ []

abbrev pub write : Here → ℕ → CallDone
write here t =
    unless here t (write_errors here t)
    (write_spans here t (record { at = argument here t 1; len = argument here t 2 } ∷ []))

-- the records of an iovec, so many: each has an address and a length, of 8 bytes each
abbrev pub spans_at : Here → ℕ → ℕ → List Span
spans_at here at zero = []
spans_at here at (suc n) = record { at = number_at here at 8; len = number_at here (at + 8) 8 } ∷ spans_at here (at + 16) n

-- writev(fd, iov, n), number 66; how long the joined bytes may be is own
abbrev pub writev_errors : Here → ℕ → Errors
writev_errors here t =
    let iov = argument here t 1 in
    let n = argument here t 2 in
    (is_elsewhere here t, EBADF)
    ∷ (nat_lt 1024 n, EINVAL)
    ∷ (not (are_readable here iov (16 * n)), EFAULT)
    ∷ (nat_le (2 ^ 31) (total (spans_at here iov n)), EINVAL)
    ∷ []

abbrev pub writev : Here → ℕ → CallDone
writev here t =
    unless here t (writev_errors here t)
    (write_spans here t (spans_at here (argument here t 1) (argument here t 2)))
