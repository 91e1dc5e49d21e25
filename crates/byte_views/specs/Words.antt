-- Numbers in bytes, the lowest byte first, as memory of RISC-V and ELF files of data encoding 1 hold
-- them (RISC-V Unprivileged Specification, "Memory"; System V ABI, "Data Representation").
use Rattle.std.specs.Prelude.{◌≡◌, ℕ, zero, suc, ◌+◌, ◌*◌, ◌⊎◌, ◌++◌, List, take, drop, slice_index}
use Rattle.std.specs.Int.{bytes_low_first}

-- a word has 1, 2, 4 or 8 bytes
abbrev pub IsWordSize : ℕ → Type 0
IsWordSize size = (size ≡ 1) ⊎ (size ≡ 2) ⊎ (size ≡ 4) ⊎ (size ≡ 8)

-- the number in `size` bytes from place `at`; a byte past the end counts as 0
unfoldable pub word_at : List ℕ → ℕ → ℕ → ℕ
word_at bytes at zero = 0
word_at bytes at (suc size) = slice_index bytes at + 256 * word_at bytes (suc at) size

-- the bytes, with the low `size` bytes of the value from place `at` on in place of those that stood there
unfoldable pub with_word : List ℕ → ℕ → ℕ → ℕ → List ℕ
with_word bytes at size value = take at bytes ++ bytes_low_first 0 size value ++ drop (at + size) bytes
