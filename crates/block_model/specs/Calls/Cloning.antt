-- clone(2): a child thread, which goes on as its parent does. How many threads may live is own, and so is EFAULT.
use Rattle.std.specs.Prelude.{ℕ, ◌+◌, ◌/◌, ◌%◌, ◌==◌, ◌||◌, ◌&&◌, Bool, not, List, [], ◌∷◌, ◌++◌, if◌then◌else◌, None, bit_and}
use Rattle.mach_types.specs.Registers.{with_register}
use Rattle.mach_types.specs.declared.errors.TheConstants.{EAGAIN, EFAULT, EINVAL}
use Rattle.mach_types.specs.declared.registers.Regs.{Regs}
use Rattle.mach_types.specs.declared.threads.Saved.{Saved}
use Rattle.mach_types.specs.declared.user_memory.Write.{Write}
use Rattle.block_model.specs.Record.{Kernel}
use Rattle.mach_types.specs.Kernel.Threads.{is_full}
use Rattle.rv_inst.specs.Words.{sum_64}
use Rattle.block_model.specs.Here.{Here}
use Rattle.block_model.specs.Kernel.{cleared, had_child, next_number}
use Rattle.block_model.specs.Calls.Answers.{CallDone, Errors, argument, are_writable, returned, unless, word_written}

-- the flags that must be given: CLONE_VM, CLONE_FS, CLONE_FILES, CLONE_SIGHAND, CLONE_THREAD; and those that may be given
abbrev pub required_flags : ℕ
required_flags = 0x10F00

abbrev pub clone_settls : ℕ
clone_settls = 0x80000

abbrev pub clone_parent_settid : ℕ
clone_parent_settid = 0x100000

abbrev pub clone_child_cleartid : ℕ
clone_child_cleartid = 0x200000

abbrev pub clone_child_settid : ℕ
clone_child_settid = 0x1000000

-- those two and CLONE_SYSVSEM 0x40000 and CLONE_DETACHED 0x400000, which change nothing
abbrev pub known_flags : ℕ
known_flags = 0x10F00 + 0x40000 + 0x80000 + 0x100000 + 0x200000 + 0x400000 + 0x1000000

abbrev pub has_flag : ℕ → ℕ → Bool
has_flag flags flag = (flags / flag) % 2 == 1

-- the flags that clone takes here
abbrev pub are_flags : ℕ → Bool
are_flags flags = (bit_and flags required_flags == required_flags) && (bit_and flags known_flags == flags)

-- a word that a flag asks for can be written; and its write
abbrev pub may_write : Here → ℕ → ℕ → ℕ → Bool
may_write here flags flag p = not (has_flag flags flag) || are_writable here p 4

abbrev pub written_if : ℕ → ℕ → ℕ → ℕ → List Write
written_if flags flag p value = if has_flag flags flag then word_written p value ∷ [] else []

-- a register of the child that gets another value, or keeps its parent's
abbrev pub set_if : Bool → ℕ → ℕ → Regs → Regs
set_if b n value regs = if b then with_register regs n value else regs

-- the child's file: its parent's, past the call, with a0 0, sp where a stack is given, and tp (x4) where the flag asks
abbrev pub child_file : Here → ℕ → Saved
child_file here t =
    let stack = argument here t 1 in
    let regs = set_if (not (stack == 0)) 2 stack (here.file t).file in
    let regs = set_if (has_flag (argument here t 0) clone_settls) 4 (argument here t 3) regs in
    record { file = with_register regs 10 0; pc = sum_64 (here.file t).pc 4 }

-- the record with the child, and with the address that its exit clears where the flag asks
abbrev pub with_new_child : Here → ℕ → Kernel
with_new_child here t =
    let after = had_child t here.kernel in
    if has_flag (argument here t 0) clone_child_cleartid then cleared (next_number here.kernel) (argument here t 4) after else after

-- clone(flags, stack, ptid, tls, ctid), number 220
abbrev pub clone_errors : Here → ℕ → Errors
clone_errors here t =
    let flags = argument here t 0 in
    let may_tell_parent = may_write here flags clone_parent_settid (argument here t 2) in
    let may_tell_child = may_write here flags clone_child_settid (argument here t 4) in
    (not (are_flags flags), EINVAL)
    ∷ (is_full here.kernel.threads, EAGAIN)
    ∷ (not (may_tell_parent && may_tell_child), EFAULT)
    ∷ []

abbrev pub cloned : Here → ℕ → CallDone
cloned here t =
    let flags = argument here t 0 in
    let child = next_number here.kernel in
    record {
      files = (t, returned child (here.file t)) ∷ (child, child_file here t) ∷ [];
      entered = written_if flags clone_parent_settid (argument here t 2) child
          ++ written_if flags clone_child_settid (argument here t 4) child;
      kernel = with_new_child here t;
      barrier = None;
      ended = None;
    }

abbrev pub clone : Here → ℕ → CallDone
clone here t = unless here t (clone_errors here t) (cloned here t)
