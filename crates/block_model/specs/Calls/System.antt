-- uname(2): which system it is. What it is called is own, but for the name of Linux and of the machine: the release is one whose rseq(2) has
-- the fields that this machine's has.
use Rattle.std.specs.Prelude.{ℕ, ◌+◌, not, List, [], ◌∷◌}
use Rattle.mach_types.specs.declared.errors.TheConstants.{EFAULT}
use Rattle.mach_types.specs.declared.user_memory.Write.{Write}
use Rattle.block_model.specs.Here.{Here}
use Rattle.block_model.specs.Calls.Answers.{CallDone, Errors, argument, are_writable, double_written, said, unless, zeros_written}

-- a `struct new_utsname` (uapi linux/utsname.h): six names of 65 bytes each, which zeros end: of the system, "Linux"; of the node; the
-- release, "6.3.0"; the version; the machine, "riscv64"; the domain. Those of the node, the version and the domain are empty. Each of
-- the others is a number of 8 bytes, whose lowest byte is the first character
abbrev pub names_size : ℕ
names_size = 390

abbrev pub names_written : ℕ → List Write
names_written at =
    zeros_written at names_size
    ∷ double_written at 0x78756E694C
    ∷ double_written (at + 130) 0x302E332E36
    ∷ double_written (at + 260) 0x34367663736972
    ∷ []

-- uname(p), number 160
abbrev pub uname_errors : Here → ℕ → Errors
uname_errors here t = (not (are_writable here (argument here t 0) names_size), EFAULT) ∷ []

abbrev pub uname : Here → ℕ → CallDone
uname here t =
    unless here t (uname_errors here t)
    (record (said here t 0) { entered = names_written (argument here t 0) })
