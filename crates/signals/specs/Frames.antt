-- Files and frames whose words are words (own).
use Rattle.std.specs.Prelude.{ℕ, ◌+◌, ◌^◌, ◌<◌, ◌≡◌, ◌≤◌, length, slice_index, Option, Some, None, IsSome}
use Rattle.std.specs.List.{AllByRecursion}
use Rattle.mach_types.specs.Kernel.SignalFrames.{frame_at, frame_size, stack_pointer}
use Rattle.mach_types.specs.declared.signal_words.Action.{Action}
use Rattle.mach_types.specs.declared.signal_words.Fault.{Fault}
use Rattle.mach_types.specs.declared.threads.Saved.{Saved}

-- a number of 64 bits
abbrev pub IsWord : ℕ → Type 0
IsWord n = n < 2 ^ 64

-- there are 32 registers of 64 bits, of which x0 is 0 (RISC-V Unprivileged ISA, RV64I), and the pc has 64 bits
pub record IsFile (saved : Saved) : Type 0 where
  pub registers : length saved.file.x ≡ 32
  pub zero_register : slice_index saved.file.x 0 ≡ 0
  pub words : AllByRecursion IsWord saved.file.x
  pub pc : IsWord saved.pc

-- the numbers that a siginfo_t has of a signal are words
abbrev pub IsTold : ℕ → Option Fault → Type 0
IsTold s None = IsWord s
IsTold s (Some f) = IsWord s × (IsWord f.code × IsWord f.address)

-- each byte of the frame of an action's handler can be read
abbrev pub CanReadFrame : (ℕ → Option ℕ) → Action → Saved → Type 0
CanReadFrame byte a saved =
    (b : ℕ) → frame_at a (stack_pointer saved) ≤ b → b < frame_at a (stack_pointer saved) + frame_size a → IsSome (byte b)
