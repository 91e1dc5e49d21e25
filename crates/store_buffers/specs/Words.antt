-- Bytes replaced in a word.
use Rattle.std.specs.Prelude.{ℕ, ◌+◌, ◌*◌, ◌/◌, ◌%◌, ◌^◌}

-- the word with `count` of its bytes, from byte `skipped` on, replaced by the lowest ones of `bits`
unfoldable pub with_bytes : ℕ → ℕ → ℕ → ℕ → ℕ
with_bytes word skipped count bits =
    word % 256 ^ skipped + 256 ^ skipped * (bits % 256 ^ count + 256 ^ count * (word / 256 ^ skipped / 256 ^ count))
