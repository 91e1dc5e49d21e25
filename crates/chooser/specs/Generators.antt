-- The generators of the harts: xoshiro256++, seeded from one number by SplitMix64 (Blackman and Vigna). A generator is its
-- state.
use Rattle.std.specs.Prelude.{ℕ, zero, suc, ◌+◌, ◌%◌, ◌^◌, List, [], ◌∷◌, if◌then◌else◌, slice_index_or, slice_set}
use Rattle.rand_xoshiro.specs.SplitMix64.{splitmix_seed}
use Rattle.rand_xoshiro.specs.Xoshiro256.{of_seed, plus_plus}
use Rattle.mach_types.specs.declared.events.Sight.{Sight}
use Rattle.chooser.specs.Cases.{draws}

-- a generator
abbrev pub Generator : Type 0
Generator = List ℕ

-- the next word of a generator, and the generator after it
unfoldable pub word : Generator → ℕ
word g = (plus_plus g).0

unfoldable pub next_generator : Generator → Generator
next_generator g = (plus_plus g).1

-- a generator after so many words
abbrev pub after_words : ℕ → Generator → Generator
after_words zero g = g
after_words (suc n) g = next_generator (after_words n g)

-- the generator of hart h at the start: its seed is the seed plus the hart's number, modulo 2^64
unfoldable pub first_generator : ℕ → ℕ → Generator
first_generator seed h = of_seed (splitmix_seed 32 ((seed + h) % 2 ^ 64))

-- those of 8 harts
abbrev pub first_generators : ℕ → List Generator
first_generators seed =
    first_generator seed 0 ∷ first_generator seed 1 ∷ first_generator seed 2 ∷ first_generator seed 3
    ∷ first_generator seed 4 ∷ first_generator seed 5 ∷ first_generator seed 6 ∷ first_generator seed 7 ∷ []

-- that of hart h among them
abbrev pub generator_in : List Generator → ℕ → Generator
generator_in generators h = slice_index_or generators h []

-- the generators after a pick of hart h: where it drew a word, the hart's own is one word further
abbrev pub after_pick : Sight → ℕ → List Generator → List Generator
after_pick seen h generators =
    if draws seen then slice_set generators h (next_generator (generator_in generators h)) else generators
