-- What prlimit(2) comes to once nothing refuses it, and a byte that is written.
use Rattle.std.specs.Prelude.{ℕ, ◌==◌, Bool, [], if◌then◌else◌}
use Rattle.mach_types.specs.Bytes.{each_byte}
use Rattle.mach_types.specs.declared.user_memory.Write.{Write}
use Rattle.mach_types.specs.declared.user_memory.Write.TheVariants.{Stored}
use Rattle.block_model.specs.Here.{Here}
use Rattle.block_model.specs.Calls.Answers.{CallDone, argument, int_argument, said}
use Rattle.block_model.specs.Calls.Limits.{limit_of, limit_size, limit_written}

-- the write of a byte, 0
abbrev pub zero_stored : ℕ → Write
zero_stored at = Stored (record { at = at; size = 1; value = 0 })

-- whether the bytes of the limits of a resource pass a test
unfoldable pub pass_limits : (ℕ → Bool) → ℕ → Bool
pass_limits test at = each_byte test at limit_size

-- the limits are written where they are asked for
abbrev pub limits_told : Here → ℕ → CallDone
limits_told h t =
    let old = argument h t 3 in
    record (said h t 0) { entered = if old == 0 then [] else limit_written old (limit_of (int_argument h t 1)) }

-- whether so many bytes pass a test
unfoldable pub pass_bytes : ℕ → (ℕ → Bool) → ℕ → Bool
pass_bytes n test at = each_byte test at n
