-- The words of the lines of each kind of block, and where they are held.
use Rattle.std.proofs.Common.{◌≡◌, ℕ, ◌+◌, ◌*◌, List, [], length, refl, ap, ◌∙◌, arith, Option}
use Rattle.std.proofs.Common.{Some, pos, negsuc, ℤ, ◌-ℤ◌, ◌∷◌, None}
use Rattle.std.specs.Option.{option_map}
use Rattle.std.proofs.lemmas.Int.{ints}
use Rattle.rv_asm.specs.Assembly.{Assembly, aimed, distance, index_of}
use Rattle.rv_inst.specs.declared.instruction.Inst.{Inst}
use Rattle.rv_inst.specs.declared.instruction.Inst.TheVariants as inst
use Rattle.percpu_lib.specs.Adds.{add_block, add_steps}
use Rattle.percpu_lib.specs.Allocs.{alloc_block, alloc_steps}
use Rattle.percpu_lib.specs.BlockLines.{HasNoLabel, block_lines}
use Rattle.percpu_lib.specs.Forms.{committed}
use Rattle.percpu_lib.specs.Frees.{free_aborted, free_block, free_first, free_steps}
use Rattle.percpu_lib.specs.Kinds.{Kind, adds, allocs, form_of, frees, lines_of, pops, pushes}
use Rattle.percpu_lib.specs.Lines.{AreEmitted, HasRoom, IsContinued, instructions}
use Rattle.percpu_lib.specs.Pops.{pop_block, pop_steps}
use Rattle.percpu_lib.specs.Pushes.{push_block, push_steps}
use Rattle.percpu_lib.specs.Words.{asking_words}
use Rattle.percpu_lib.specs.declared.lines.Line.{Line}
use Rattle.percpu_lib.specs.declared.lines.Line.TheVariants as line
use Rattle.percpu_lib.specs.declared.slots.Slots.{Slots}
use Rattle.percpu_lib.proofs.HeldBlocks.{end_at, leave_at, retry_at, words_of}
pub use Rattle.percpu_lib.proofs.KnownWords.{IsHeld}
use Rattle.percpu_lib.proofs.KnownWords.{are_held}

-- BRANCHES

-- so many words back, and so many on
pub back : (n m k j : ℕ) → m ≡ n + k → j + 1 ≡ 4 * k → pos (4 * n) -ℤ pos (4 * m) ≡ negsuc j
back n m k j from far = by_sign (pos (4 * n) -ℤ pos (4 * m)) refl
  where
    by_sign : (z : ℤ) → z ≡ pos (4 * n) -ℤ pos (4 * m) → z ≡ negsuc j
    by_sign (pos i) is = absurd (omega (arith, ints))
    by_sign (negsuc i) is = ap negsuc (omega (arith, ints))

pub forth : (n m k j : ℕ) → n ≡ m + k → j ≡ 4 * k → pos (4 * n) -ℤ pos (4 * m) ≡ pos j
forth n m k j from far = by_sign (pos (4 * n) -ℤ pos (4 * m)) refl
  where
    by_sign : (z : ℤ) → z ≡ pos (4 * n) -ℤ pos (4 * m) → z ≡ pos j
    by_sign (pos i) is = ap pos (omega (arith, ints))
    by_sign (negsuc i) is = absurd (omega (arith, ints))

pub branch_is : (labels : List (Option ℕ)) (j i : Inst) (m l to : ℕ) (z : ℤ) → index_of labels l ≡ Some to
    → distance m to ≡ z → aimed j z ≡ i
    → option_map (λ to. aimed j (distance m to)) (index_of labels l) ≡ Some i
branch_is labels j i m l to z bound far is =
    ap (option_map (λ to. aimed j (distance m to))) bound ∙ ap (λ d. Some (aimed j d)) far ∙ ap Some is

-- THE WORDS OF EACH KIND

-- where its labels are bound so, its lines have the words of its form
abbrev HasWords : Kind → Type 0
HasWords k = (p : Slots) (base n : ℕ) (labels : List (Option ℕ)) → index_of labels base ≡ Some n
    → index_of labels (base + 2) ≡ Some (n + committed (form_of k p))
    → index_of labels (base + 4) ≡ Some (n + length (form_of k p).words)
    → instructions labels n (lines_of k p base) ≡ (form_of k p).words

-- where the labels are bound so: the branch back to the retry label, the one to the post-commit address, and
-- the jump to the end of the block, at word m, so many words away
module _ (base n : ℕ) (labels : List (Option ℕ)) where
  abbrev AimedAt : Inst → Inst → ℕ → ℕ → Type 0
  AimedAt j i m l = option_map (λ to. aimed j (distance m to)) (index_of labels l) ≡ Some i

  to_retry : index_of labels base ≡ Some n → (j i : Inst) (m k d : ℕ) → m ≡ n + k → d + 1 ≡ 4 * k
      → aimed j (negsuc d) ≡ i → AimedAt j i m base
  to_retry retry j i m k d from far is = branch_is labels j i m base n (negsuc d) retry (back n m k d from far) is

  to_label : (l to : ℕ) → index_of labels l ≡ Some to → (j i : Inst) (m k d : ℕ) → to ≡ m + k → d ≡ 4 * k
      → aimed j (pos d) ≡ i → AimedAt j i m l
  to_label l to bound j i m k d from far is = branch_is labels j i m l to (pos d) bound (forth to m k d from far) is

  -- the test of the processor, with so many words before it, the branch that leaves, and the two jumps at the
  -- end of a block
  asks_back : index_of labels base ≡ Some n → (m k d : ℕ) → m ≡ n + k → d + 1 ≡ 4 * k
      → AimedAt (inst.Bne 6 5 (pos 0)) (inst.Bne 6 5 (negsuc d)) m base
  asks_back retry m k d from far =
      to_retry retry (inst.Bne 6 5 (pos 0)) (inst.Bne 6 5 (negsuc d)) m k d from far refl

  jumps_on : (l to : ℕ) → index_of labels l ≡ Some to → (m k d : ℕ) → to ≡ m + k → d ≡ 4 * k
      → AimedAt (inst.Jal 0 (pos 0)) (inst.Jal 0 (pos d)) m l
  jumps_on l to bound m k d from far =
      to_label l to bound (inst.Jal 0 (pos 0)) (inst.Jal 0 (pos d)) m k d from far refl

  jumps_back : index_of labels base ≡ Some n → (m k d : ℕ) → m ≡ n + k → d + 1 ≡ 4 * k
      → AimedAt (inst.Jal 0 (pos 0)) (inst.Jal 0 (negsuc d)) m base
  jumps_back retry m k d from far =
      to_retry retry (inst.Jal 0 (pos 0)) (inst.Jal 0 (negsuc d)) m k d from far refl

-- three plain instructions inside
plain_words : (p : Slots) (base n : ℕ) (labels : List (Option ℕ)) (i j k : Inst) → index_of labels base
    ≡ Some n
    → index_of labels (base + 4) ≡ Some (n + 14)
    → instructions labels n
    (block_lines p base 6 [] (line.Plain i ∷ line.Plain j ∷ line.Plain k ∷ []) [])
    ≡ asking_words p 19 6 (Some i ∷ Some j ∷ Some k ∷ Some (inst.Jal 0 (pos 12)) ∷ None
    ∷ Some (inst.Jal 0 (negsuc 51)) ∷ [])
plain_words p base n labels i j k retry end =
    let five = n + 1 + 1 + 1 + 1 + 1 in
    let eleven = five + 1 + 1 + 1 + 1 + 1 + 1 in
    let one = asks_back base n labels retry five 5 19 (omega arith) refl in
    let two = jumps_on base n labels (base + 4) (n + 14) end eleven 3 12 (omega arith) refl in
    let three = jumps_back base n labels retry (eleven + 1 + 1) 13 51 (omega arith) refl in
    cc

add_words : HasWords adds
add_words p base n labels retry leave end =
    plain_words p base n labels (inst.Ld 6 5 (pos 0)) (inst.Add 6 6 p.value) (inst.Sd 5 6 (pos 0)) retry end

push_words : HasWords pushes
push_words p base n labels retry leave end =
    plain_words p base n labels (inst.Ld 6 5 (pos 0)) (inst.Sd p.value 6 (pos 0)) (inst.Sd 5 p.value (pos 0))
    retry end

pop_words : HasWords pops
pop_words p base n labels retry leave end =
    let five = n + 1 + 1 + 1 + 1 + 1 in
    let nine = five + 1 + 1 + 1 + 1 in
    let one = asks_back base n labels retry five 5 19 (omega arith) refl in
    let two = to_label base n labels (base + 2) (n + 12) leave (inst.Beq p.value 0 (pos 0))
    (inst.Beq p.value 0 (pos 12)) nine 3 12 (omega arith) refl refl in
    let twelve = nine + 1 + 1 + 1 in
    let three = jumps_on base n labels (base + 4) (n + 15) end twelve 3 12 (omega arith) refl in
    let four = jumps_back base n labels retry (twelve + 1 + 1) 14 55 (omega arith) refl in
    cc

alloc_words : HasWords allocs
alloc_words p base n labels retry leave end =
    let five = n + 1 + 1 + 1 + 1 + 1 in
    let one = asks_back base n labels retry five 5 19 (omega arith) refl in
    let ten = five + 1 + 1 + 1 + 1 + 1 in
    let two = to_label base n labels (base + 2) (n + 16) leave (inst.Beq 6 0 (pos 0)) (inst.Beq 6 0 (pos 24)) ten 6
    24 (omega arith) refl refl in
    let sixteen = ten + 1 + 1 + 1 + 1 + 1 + 1 in
    let three = jumps_on base n labels (base + 4) (n + 19) end sixteen 3 12 (omega arith) refl in
    let four = jumps_back base n labels retry (sixteen + 1 + 1) 18 71 (omega arith) refl in
    cc

free_words : HasWords frees
free_words p base n labels retry leave end =
    let six = n + 1 + 1 + 1 + 1 + 1 + 1 in
    let eleven = six + 1 + 1 + 1 + 1 + 1 in
    let eighteen = eleven + 1 + 1 + 1 + 1 + 1 + 1 + 1 in
    let one = asks_back base n labels retry six 6 23 (omega arith) refl in
    let two = to_label base n labels (base + 2) (n + 18) leave (inst.Beq 6 7 (pos 0)) (inst.Beq 6 7 (pos 28)) eleven
    7 28 (omega arith) refl refl in
    let three = jumps_on base n labels (base + 4) (n + 22) end eighteen 4 16 (omega arith) refl in
    let four = jumps_back base n labels retry (eighteen + 1 + 1 + 1) 21 83 (omega arith) refl in
    cc

-- WHERE THEY ARE HELD

-- so they are held where lines with these parts were appended, if with the labels bound they have these words
pub lines_held : (p : Slots) (base shift : ℕ) (first inside aborted : List Line) (block : List (Option Inst))
    (a b c : Assembly) → HasRoom a.labels base
    → AreEmitted (block_lines p base shift first inside aborted) a b
    → HasNoLabel first → HasNoLabel inside → HasNoLabel aborted → IsContinued b c
    → (index_of c.labels base ≡ Some (length a.items)
    → index_of c.labels (base + 2) ≡ Some (length a.items + (words_of first + 8 + words_of inside))
    → index_of c.labels (base + 4) ≡ Some (length a.items
    + words_of (block_lines p base shift first inside aborted))
    → instructions c.labels (length a.items) (block_lines p base shift first inside aborted) ≡ block)
    → IsHeld block a c
lines_held p base shift first inside aborted block a b c room is one two three more words =
    are_held (block_lines p base shift first inside aborted) block a b c is more
    (words (retry_at p base shift first inside aborted a b c room is one two three more)
    (leave_at p base shift first inside aborted a b c room is one two three more)
    (end_at p base shift first inside aborted a b c room is one two three more))

pub kind_held : (k : Kind) (p : Slots) (base : ℕ) (a b c : Assembly) → HasRoom a.labels base
    → AreEmitted (lines_of k p base) a b → IsContinued b c → IsHeld (form_of k p).words a c
kind_held adds p base a b c room is more =
    lines_held p base 6 [] (add_steps p) [] (add_block p) a b c room is tt tt tt more
    (add_words p base (length a.items) c.labels)
kind_held pushes p base a b c room is more =
    lines_held p base 6 [] (push_steps p) [] (push_block p) a b c room is tt tt tt more
    (push_words p base (length a.items) c.labels)
kind_held pops p base a b c room is more =
    lines_held p base 6 [] (pop_steps p base) [] (pop_block p) a b c room is tt tt tt more
    (pop_words p base (length a.items) c.labels)
kind_held allocs p base a b c room is more =
    lines_held p base 13 [] (alloc_steps p base) [] (alloc_block p) a b c room is tt tt tt more
    (alloc_words p base (length a.items) c.labels)
kind_held frees p base a b c room is more =
    lines_held p base 13 (free_first p) (free_steps p base) (free_aborted p) (free_block p) a b c room is tt
    tt tt more
    (free_words p base (length a.items) c.labels)
