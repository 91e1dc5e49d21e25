-- The blocks that put words into the ring of their processor and get them out of it (own). A ring has a head
-- at byte 0, a tail at byte 8 and 512 slots of 8 bytes from byte 64 on; rings lie 8,192 bytes apart. Head and
-- tail count the words that were ever got and put, modulo 2^64, and word n stands in slot n modulo 512.
use Rattle.std.specs.Prelude.{ℕ, zero, suc, ◌*◌, ◌-◌, ◌+◌, List, [], ◌∷◌, ◌++◌, pos}
use Rattle.rv_inst.specs.declared.instruction.Inst.TheVariants as inst
use Rattle.percpu_lib.specs.BlockLines.{block_lines}
use Rattle.percpu_lib.specs.declared.lines.Line.{Line}
use Rattle.percpu_lib.specs.declared.lines.Line.TheVariants as line
use Rattle.percpu_lib.specs.declared.slots.Slots.{Slots}

-- the address of the words is copied into x28, and brought back from there where the block was aborted. The
-- sequence copies it once more before it sets the value to 0: so what it does follows from its own words,
-- whatever stands before them
abbrev pub ring_first : Slots → List Line
ring_first p = line.Plain (inst.Addi 28 p.value (pos 0)) ∷ []

abbrev pub ring_aborted : Slots → List Line
ring_aborted p = line.Plain (inst.Addi p.value 28 (pos 0)) ∷ []

-- whether there is room for so many more words: where there isn't, the value is 0 and that is all
abbrev pub put_test : Slots → ℕ → ℕ → List Line
put_test p base count =
    -- x28 is the address that came in
    line.Plain (inst.Addi 28 p.value (pos 0))
    -- x6 is the tail
    ∷ line.Plain (inst.Ld 6 5 (pos 8))
    -- x7 is the head
    ∷ line.Plain (inst.Ld 7 5 (pos 0))
    -- x7 is how many words the ring holds
    ∷ line.Plain (inst.Sub 7 6 7)
    -- x7 is 1 where they are at most 512 - count, else 0
    ∷ line.Plain (inst.Sltiu 7 7 (pos (513 - count)))
    -- the value is 0
    ∷ line.Plain (inst.Addi p.value 0 (pos 0))
    -- where x7 is 0 the sequence is over
    ∷ line.Branch (inst.Beq 7 0 (pos 0)) (base + 2)
    -- the value is the address that came in
    ∷ line.Plain (inst.Addi p.value 28 (pos 0))
    ∷ []

-- word k goes into the slot of x6, and x6 grows by 1
abbrev pub put_word : Slots → ℕ → List Line
put_word p k =
    -- x7 is the slot's number, x6 modulo 512
    line.Plain (inst.Andi 7 6 (pos 511))
    -- x7 is where the slot lies among the slots
    ∷ line.Plain (inst.Slli 7 7 3)
    -- x7 is 64 bytes before the slot
    ∷ line.Plain (inst.Add 7 7 5)
    -- x29 is word k
    ∷ line.Plain (inst.Ld 29 p.value (pos (8 * k)))
    -- the slot is word k
    ∷ line.Plain (inst.Sd 7 29 (pos 64))
    -- x6 is the next word's number
    ∷ line.Plain (inst.Addi 6 6 (pos 1))
    ∷ []

-- the first words
abbrev pub put_words : Slots → ℕ → List Line
put_words p zero = []
put_words p (suc k) = put_words p k ++ put_word p k

-- where there is room, the words go into their slots; and then the tail is x6, by the store that commits
abbrev pub put_steps : Slots → ℕ → ℕ → List Line
put_steps p base count =
    put_test p base count ++ (put_words p count ++ line.Plain (inst.Sd 5 6 (pos 8)) ∷ [])

-- the lines of a block that puts so many words
abbrev pub ring_put_lines : Slots → ℕ → ℕ → List Line
ring_put_lines p base count =
    block_lines p base 13 (ring_first p) (put_steps p base count) (ring_aborted p)

-- whether the ring holds so many words: where it doesn't, the value is 0 and that is all
abbrev pub get_test : Slots → ℕ → ℕ → List Line
get_test p base count =
    -- x28 is the address that came in
    line.Plain (inst.Addi 28 p.value (pos 0))
    -- x6 is the head
    ∷ line.Plain (inst.Ld 6 5 (pos 0))
    -- x7 is the tail
    ∷ line.Plain (inst.Ld 7 5 (pos 8))
    -- x7 is how many words the ring holds
    ∷ line.Plain (inst.Sub 7 7 6)
    -- x7 is 1 where they are fewer than the count, else 0
    ∷ line.Plain (inst.Sltiu 7 7 (pos count))
    -- the value is 0
    ∷ line.Plain (inst.Addi p.value 0 (pos 0))
    -- where x7 isn't 0 the sequence is over
    ∷ line.Branch (inst.Bne 7 0 (pos 0)) (base + 2)
    -- the value is the address that came in
    ∷ line.Plain (inst.Addi p.value 28 (pos 0))
    ∷ []

-- word k comes out of the slot of x6, and x6 grows by 1
abbrev pub get_word : Slots → ℕ → List Line
get_word p k =
    -- x7 is the slot's number, x6 modulo 512
    line.Plain (inst.Andi 7 6 (pos 511))
    -- x7 is where the slot lies among the slots
    ∷ line.Plain (inst.Slli 7 7 3)
    -- x7 is 64 bytes before the slot
    ∷ line.Plain (inst.Add 7 7 5)
    -- x29 is what is in the slot
    ∷ line.Plain (inst.Ld 29 7 (pos 64))
    -- word k is that
    ∷ line.Plain (inst.Sd p.value 29 (pos (8 * k)))
    -- x6 is the next word's number
    ∷ line.Plain (inst.Addi 6 6 (pos 1))
    ∷ []

-- the first words
abbrev pub get_words : Slots → ℕ → List Line
get_words p zero = []
get_words p (suc k) = get_words p k ++ get_word p k

-- where the ring holds enough, the words come out of their slots; and then the head is x6, by the store that
-- commits
abbrev pub get_steps : Slots → ℕ → ℕ → List Line
get_steps p base count =
    get_test p base count ++ (get_words p count ++ line.Plain (inst.Sd 5 6 (pos 0)) ∷ [])

-- the lines of a block that gets so many words
abbrev pub ring_get_lines : Slots → ℕ → ℕ → List Line
ring_get_lines p base count =
    block_lines p base 13 (ring_first p) (get_steps p base count) (ring_aborted p)
