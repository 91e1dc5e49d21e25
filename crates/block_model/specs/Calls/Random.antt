-- getrandom(2): bytes of a generator, which begins with the bytes at AT_RANDOM, all zero: so they are the same in each run that makes
-- the same calls in the same order (own).
use Rattle.std.specs.Prelude.{ℕ, zero, suc, ◌+◌, ◌*◌, ◌/◌, ◌%◌, not, nat_lt, List, [], ◌∷◌, ◌++◌, if◌then◌else◌}
use Rattle.rand_xoshiro.specs.SplitMix64.{mix_u64}
use Rattle.mach_types.specs.declared.errors.TheConstants.{EFAULT, EINVAL}
use Rattle.mach_types.specs.declared.user_memory.Write.{Write}
use Rattle.block_model.specs.Here.{Here}
use Rattle.block_model.specs.Kernel.{drawn}
use Rattle.block_model.specs.Calls.Answers.{CallDone, Errors, argument, int_argument, are_writable, byte_written, double_written, said, unless}

-- one call gives at most 256 bytes, which are as many as no signal cuts short on Linux (own)
abbrev pub bytes_given : ℕ → ℕ
bytes_given len = if nat_lt 256 len then 256 else len

-- the generator is SplitMix64 (Steele, Lea and Flood), whose state is a number: its next word of 8 bytes, and the state then
abbrev pub next_word : ℕ → ℕ
next_word state = (mix_u64 state).0

abbrev pub next_state : ℕ → ℕ
next_state state = (mix_u64 state).1

-- the state after so many words
abbrev pub state_after : ℕ → ℕ → ℕ
state_after zero state = state
state_after (suc n) state = state_after n (next_state state)

-- so many words are written from an address on
abbrev pub words_drawn : ℕ → ℕ → ℕ → List Write
words_drawn zero at state = []
words_drawn (suc n) at state = double_written at (next_word state) ∷ words_drawn n (at + 8) (next_state state)

-- so many bytes of a word are, the lowest first
abbrev pub bytes_drawn : ℕ → ℕ → ℕ → List Write
bytes_drawn zero at word = []
bytes_drawn (suc n) at word = byte_written at (word % 256) ∷ bytes_drawn n (at + 1) (word / 256)

-- so many bytes are: words, and where bytes are left the lowest ones of a further word
abbrev pub random_written : ℕ → ℕ → ℕ → List Write
random_written len at state =
    words_drawn (len / 8) at state ++ bytes_drawn (len % 8) (at + 8 * (len / 8)) (next_word (state_after (len / 8) state))

-- how many words so many bytes take
abbrev pub words_for : ℕ → ℕ
words_for len = (len + 7) / 8

-- the flags GRND_NONBLOCK 1, GRND_RANDOM 2 and GRND_INSECURE 4 (uapi linux/random.h) change nothing; the last two don't go together
abbrev pub most_flags : ℕ
most_flags = 5

-- getrandom(p, len, flags), number 278
abbrev pub getrandom_errors : Here → ℕ → Errors
getrandom_errors here t =
    (nat_lt most_flags (int_argument here t 2), EINVAL)
    ∷ (not (are_writable here (argument here t 0) (bytes_given (argument here t 1))), EFAULT)
    ∷ []

abbrev pub getrandom : Here → ℕ → CallDone
getrandom here t =
    let len = bytes_given (argument here t 1) in
    let state = here.kernel.random in
    unless here t (getrandom_errors here t)
    (record (said here t len) {
      entered = random_written len (argument here t 0) state;
      kernel = drawn (state_after (words_for len) state) here.kernel;
    })
