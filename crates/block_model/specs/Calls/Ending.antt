-- exit(2) and exit_group(2): a thread ends, or the process does. That the last thread's exit ends the process with its code modulo
-- 256 is own.
use Rattle.std.specs.Prelude.{ℕ, ◌%◌, ◌==◌, ◌&&◌, Bool, not, List, [], ◌∷◌, map, length, if◌then◌else◌, nat_le, Some, None}
use Rattle.mach_types.specs.declared.limits.End.{End}
use Rattle.mach_types.specs.declared.limits.End.TheVariants.{Exit}
use Rattle.mach_types.specs.declared.user_memory.Write.{Write}
use Rattle.mach_types.specs.Kernel.Threads.{clear_of}
use Rattle.block_model.specs.Here.{Here}
use Rattle.block_model.specs.Kernel.{gone}
use Rattle.block_model.specs.Calls.Answers.{CallDone, argument, are_writable, word_written}
use Rattle.block_model.specs.Calls.Futexes.{Woken, answered_wait, anyone, wake}

-- the process ends with this code
abbrev pub ended_with : Here → ℕ → End
ended_with here t = Exit (argument here t 0 % 256)

-- the address that the exit of a thread clears, where it is set and can be written
abbrev pub clears : Here → ℕ → Bool
clears here t = let at = clear_of t here.kernel.threads in not (at == 0) && are_writable here at 4

-- the last live thread ends the process
abbrev pub is_last : Here → Bool
is_last here = nat_le (length here.kernel.threads.live) 1

-- at the clear address one waiter is woken
abbrev pub woken_at_exit : Here → ℕ → Woken
woken_at_exit here t = wake (if clears here t then 1 else 0) (clear_of t here.kernel.threads) anyone here.kernel

-- the write of 0 at the clear address
abbrev pub clearing : Here → ℕ → List Write
clearing here t = if clears here t then word_written (clear_of t here.kernel.threads) 0 ∷ [] else []

-- a thread ends that isn't the last: the word at its clear address becomes 0, one waiter there is woken, and it is gone
abbrev pub one_exits : Here → ℕ → CallDone
one_exits here t =
    let done = woken_at_exit here t in
    record { files = map (answered_wait here) done.threads; entered = clearing here t; kernel = gone t done.kernel; barrier = None; ended = None }

-- the last thread ends, and with it the process, which changes nothing else in the record
abbrev pub last_exits : Here → ℕ → CallDone
last_exits here t = record { files = []; entered = clearing here t; kernel = here.kernel; barrier = None; ended = Some (ended_with here t) }

-- exit(code), number 93
abbrev pub exit : Here → ℕ → CallDone
exit here t = if is_last here then last_exits here t else one_exits here t

-- exit_group(code), number 94
abbrev pub exit_group : Here → ℕ → CallDone
exit_group here t = record { files = []; entered = []; kernel = here.kernel; barrier = None; ended = Some (ended_with here t) }
