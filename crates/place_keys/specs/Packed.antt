-- Words as bytes, seven bits of a number to a byte, the lowest first: each byte but the last has 128 added
-- (DWARF Debugging Information Format Version 5, 7.6: "LEB128", unsigned).
use Rattle.std.specs.Prelude.{ℕ, ◌+◌, ◌/◌, ◌%◌, List, [], ◌∷◌, if◌then◌else◌, nat_lt, zero, suc}
use Rattle.place_keys.specs.Words.{of_each}

-- the bytes of a number, of which there are no more than one and so many
unfoldable pub packed_within : ℕ → ℕ → List ℕ
packed_within zero n = n ∷ []
packed_within (suc more) n =
    if nat_lt n 128 then n ∷ [] else (n % 128 + 128) ∷ packed_within more (n / 128)

-- the bytes of a number, which has fewer of them than its own value
abbrev pub packed_word : ℕ → List ℕ
packed_word n = packed_within n n

-- the bytes of words, one word after the other
abbrev pub packed : List ℕ → List ℕ
packed words = of_each packed_word words
