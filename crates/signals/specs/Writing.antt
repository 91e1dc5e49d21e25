-- Runs of words in memory, and the words of a frame with SA_SIGINFO (own).
use Rattle.std.specs.Prelude.{ℕ, ◌*◌, Bool, List, [], ◌∷◌, ◌++◌, if◌then◌else◌, Option, Some, None}
use Rattle.mach_types.specs.Bytes.{each_byte}
use Rattle.mach_types.specs.Kernel.SignalFrames.{context_words, info_words, wants_info}
use Rattle.mach_types.specs.declared.signal_words.Action.{Action}
use Rattle.mach_types.specs.declared.signal_words.Fault.{Fault}
use Rattle.mach_types.specs.declared.signals.TheConstants.{SI_TKILL}
use Rattle.mach_types.specs.declared.threads.Saved.{Saved}

-- whether so many words of 8 bytes can be written from an address on, by a test of a byte
unfoldable pub can_write_words : (ℕ → Bool) → ℕ → ℕ → Bool
can_write_words can_write at count = each_byte can_write at (8 * count)

-- how many words the frame of an action's handler has
abbrev pub word_count : Action → ℕ
word_count a = if wants_info a then 136 else 34

-- the words with which a siginfo_t begins
abbrev pub first_words : ℕ → Option Fault → List ℕ
first_words s None = s ∷ SI_TKILL ∷ 1 ∷ []
first_words s (Some f) = s ∷ f.code ∷ f.address ∷ []

-- the words of a frame with SA_SIGINFO
abbrev pub info_frame_words : ℕ → Option Fault → Saved → ℕ → List ℕ
info_frame_words s fault saved mask = info_words s fault ++ context_words saved mask
