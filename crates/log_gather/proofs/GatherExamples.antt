-- Worked examples: three logs, proved by computation. They compute `gathered_by_spans`, which is `gathered`
-- (proofs/GatheredByActs.antt).
use Rattle.std.proofs.Common.{◌≡◌, ℕ, zero, suc, ◌+◌, List, [], ◌∷◌, ◌++◌, refl}
use Rattle.mach_types.specs.declared.events.Entry.{Entry}
use Rattle.mach_types.specs.declared.events.Kind.TheVariants as kind
use Rattle.mach_types.specs.Kernel.Areas.{are_readable, number_at}
use Rattle.rv_inst.specs.Meaning.{meaning}
use Rattle.rv_inst.specs.Table.{row_of, rows}
use Rattle.block_model.specs.Deciding.{decide, done, history}
use Rattle.block_model.specs.Setting.{Setting}
use Rattle.block_model.proofs.ExamplePrograms.{code_and_data, entry_of}
use Rattle.log_gather.specs.Facts.{place_after}
use Rattle.log_gather.specs.Spans.{gather_span, gathered_by_spans, names_of}

abbrev x : ℕ → ℕ → ℕ → Entry
x h t at = entry_of h kind.Exec t at

abbrev d : ℕ → ℕ → ℕ → Entry
d h t at = entry_of h kind.Drain t at

abbrev r : ℕ → ℕ → ℕ → Entry
r h t at = entry_of h kind.Run t at

-- the first thread starts the second, which goes to 0x10114
abbrev starting : List ℕ
starting =
    0x37 ∷ 0x04 ∷ 0x02 ∷ 0x00 ∷ 0x37 ∷ 0x15 ∷ 0x01 ∷ 0x00 ∷ 0x13 ∷ 0x05 ∷ 0x05 ∷ 0xf0 ∷ 0x93 ∷ 0x05 ∷ 0x00
    ∷ 0x00 ∷ 0x93 ∷ 0x08 ∷ 0xc0 ∷ 0x0d ∷ 0x73 ∷ 0x00 ∷ 0x00 ∷ 0x00 ∷ 0x63 ∷ 0x06 ∷ 0x05 ∷ 0x04 ∷ 0x13
    ∷ 0x05 ∷ 0x04 ∷ 0x00 ∷ 0x93 ∷ 0x05 ∷ 0x00 ∷ 0x02 ∷ []

-- it registers an area, and adds 1 to a number in a sequence
abbrev adding : List ℕ
adding =
    0x13 ∷ 0x06 ∷ 0x00 ∷ 0x00 ∷ 0xb7 ∷ 0x16 ∷ 0x40 ∷ 0xf1 ∷ 0x93 ∷ 0x86 ∷ 0x36 ∷ 0x07 ∷ 0x93 ∷ 0x08 ∷ 0x50
    ∷ 0x12 ∷ 0x73 ∷ 0x00 ∷ 0x00 ∷ 0x00 ∷ 0xb7 ∷ 0x04 ∷ 0x01 ∷ 0x00 ∷ 0x93 ∷ 0x84 ∷ 0x04 ∷ 0x12 ∷ 0x23
    ∷ 0x34 ∷ 0x94 ∷ 0x00 ∷ 0x83 ∷ 0x32 ∷ 0x04 ∷ 0x04 ∷ 0x93 ∷ 0x82 ∷ 0x12 ∷ 0x00 ∷ 0x23 ∷ 0x30 ∷ 0x54
    ∷ 0x04 ∷ 0x13 ∷ 0x85 ∷ 0x02 ∷ 0x00 ∷ 0x93 ∷ 0x08 ∷ 0xe0 ∷ 0x05 ∷ 0x73 ∷ 0x00 ∷ 0x00 ∷ 0x00 ∷ 0x73
    ∷ 0x10 ∷ 0x40 ∷ 0xf1 ∷ 0x6f ∷ 0xf0 ∷ 0x1f ∷ 0xfe ∷ []

-- the descriptor of the sequence
abbrev descriptor : List ℕ
descriptor =
    0x00 ∷ 0x00 ∷ 0x00 ∷ 0x00 ∷ 0x00 ∷ 0x00 ∷ 0x00 ∷ 0x00 ∷ 0x00 ∷ 0x00 ∷ 0x00 ∷ 0x00 ∷ 0xf4 ∷ 0x00 ∷ 0x01
    ∷ 0x00 ∷ 0x00 ∷ 0x00 ∷ 0x00 ∷ 0x00 ∷ 0x0c ∷ 0x00 ∷ 0x00 ∷ 0x00 ∷ 0x00 ∷ 0x00 ∷ 0x00 ∷ 0x00 ∷ 0x10
    ∷ 0x01 ∷ 0x01 ∷ 0x00 ∷ 0x00 ∷ 0x00 ∷ 0x00 ∷ 0x00 ∷ []

-- the second thread does nothing, or it reads the number
abbrev counting : Setting
counting =
    code_and_data (starting ++ adding ++ 0x6f ∷ 0x00 ∷ 0x00 ∷ 0x00 ∷ 0x00 ∷ 0x00 ∷ 0x00 ∷ 0x00 ∷ descriptor)

abbrev reading : Setting
reading =
    code_and_data (starting ++ adding ++ 0x03 ∷ 0x33 ∷ 0x04 ∷ 0x04 ∷ 0x6f ∷ 0xf0 ∷ 0xdf ∷ 0xff ∷ descriptor)

-- so many instructions of a thread, one word behind the other
abbrev xs : ℕ → ℕ → ℕ → ℕ → List Entry
xs h t at zero = []
xs h t at (suc n) = x h t at ∷ xs h t (at + 4) n

-- the first thread starts the second, and comes to its sequence
abbrev beginning : List Entry
beginning = r 0 1 0x100b0 ∷ xs 0 1 0x100b0 7 ++ r 1 2 0x100c8 ∷ x 1 2 0x100c8 ∷ xs 0 1 0x100cc 10

-- the first thread leaves its sequence
abbrev end : List Entry
end = xs 0 1 0x10100 2 ++ d 0 1 0x10108 ∷ d 0 1 0x10108 ∷ x 0 1 0x10108 ∷ []

-- the three instructions of the sequence, and an event of the other hart behind each
abbrev by_turns : Entry → Entry → Entry → List Entry
by_turns a b c = beginning ++ x 0 1 0x100f4 ∷ a ∷ x 0 1 0x100f8 ∷ b ∷ x 0 1 0x100fc ∷ c ∷ end

abbrev log : List Entry
log = by_turns (x 1 2 0x10114) (x 1 2 0x10114) (x 1 2 0x10114)

abbrev gathered_log : List Entry
gathered_log = beginning ++ x 1 2 0x10114 ∷ x 1 2 0x10114 ∷ xs 0 1 0x100f4 3 ++ x 1 2 0x10114 ∷ end

abbrev reading_log : List Entry
reading_log = by_turns (x 1 2 0x10114) (x 1 2 0x10118) (x 1 2 0x10114)

-- the first thread reserves the first bytes of its area before its sequence, and the second stores there
abbrev reserving : Setting
reserving =
    code_and_data
    (starting
    ++ 0xb7 ∷ 0x04 ∷ 0x01 ∷ 0x00 ∷ 0xb7 ∷ 0x16 ∷ 0x40 ∷ 0xf1 ∷ 0x93 ∷ 0x86 ∷ 0x36 ∷ 0x07 ∷ 0x93 ∷ 0x08 ∷ 0x50
    ∷ 0x12 ∷ 0x73 ∷ 0x00 ∷ 0x00 ∷ 0x00 ∷ 0x93 ∷ 0x84 ∷ 0x04 ∷ 0x12 ∷ 0x2f ∷ 0x33 ∷ 0x04 ∷ 0x10 ∷ 0x23
    ∷ 0x34 ∷ 0x94 ∷ 0x00 ∷ 0x83 ∷ 0x32 ∷ 0x04 ∷ 0x04 ∷ 0x93 ∷ 0x82 ∷ 0x12 ∷ 0x00 ∷ 0x23 ∷ 0x30 ∷ 0x54
    ∷ 0x04 ∷ 0x13 ∷ 0x85 ∷ 0x02 ∷ 0x00 ∷ 0x93 ∷ 0x08 ∷ 0xe0 ∷ 0x05 ∷ 0x73 ∷ 0x00 ∷ 0x00 ∷ 0x00 ∷ 0x73
    ∷ 0x10 ∷ 0x40 ∷ 0xf1 ∷ 0x6f ∷ 0xf0 ∷ 0x1f ∷ 0xfe
    ∷ 0x23 ∷ 0x20 ∷ 0x04 ∷ 0x00 ∷ 0x6f ∷ 0x00 ∷ 0x00 ∷ 0x00 ∷ descriptor)

abbrev reserving_log : List Entry
reserving_log = by_turns (x 1 2 0x10114) (d 1 2 0x10118) (x 1 2 0x10118)

-- what the proofs open
gathers : ℕ
unfolding place_after gather_span gathered_by_spans decide history done meaning row_of rows are_readable number_at
gathers = zero

one_sequence : names_of counting log ≡ record { hart = 0; number = 18 } ∷ []
unfolding gathers
one_sequence = refl

is_gathered : gathered_by_spans counting log ≡ gathered_log
unfolding gathers
is_gathered = refl

is_left : gathered_by_spans reading reading_log ≡ reading_log
unfolding gathers
is_left = refl

is_left_reserved : gathered_by_spans reserving reserving_log ≡ reserving_log
unfolding gathers
is_left_reserved = refl
