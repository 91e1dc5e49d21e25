-- The words of the lines of ring blocks, and where they are held.
use Rattle.std.proofs.Common.{◌≡◌, ℕ, zero, suc, ◌+◌, ◌*◌, List, [], ◌∷◌, ◌++◌, length, refl, ap, ◌∙◌, arith}
use Rattle.std.proofs.Common.{◌-◌, Option, Some, pos, negsuc, append_assoc, subst, sym}
use Rattle.rv_asm.specs.Assembly.{Assembly, aimed, index_of}
use Rattle.rv_inst.specs.declared.instruction.Inst.{Inst}
use Rattle.rv_inst.specs.declared.instruction.Inst.TheVariants as inst
use Rattle.percpu_lib.specs.BlockLines.{block_lines, end_lines, leave_lines}
use Rattle.percpu_lib.specs.Lines.{AreEmitted, HasRoom, IsContinued, instructions}
use Rattle.percpu_lib.specs.RingForms.{front_with, get_insts, put_insts, repeated, ring_end}
use Rattle.percpu_lib.specs.RingKinds.{RingKind, gets, puts, ring_form_of, ring_lines_of, ring_steps_of}
use Rattle.percpu_lib.specs.Rings.{get_word, get_words, put_word, put_words, ring_aborted, ring_first}
use Rattle.percpu_lib.specs.declared.lines.Line.{Line}
use Rattle.percpu_lib.specs.declared.lines.Line.TheVariants as line
use Rattle.percpu_lib.specs.declared.slots.Slots.{Slots}
use Rattle.percpu_lib.proofs.BoundLabels.{HasPlaces, places}
use Rattle.percpu_lib.proofs.HeldBlocks.{words_of}
use Rattle.percpu_lib.proofs.KindWords.{IsHeld, back, branch_is, forth, lines_held}
use Rattle.percpu_lib.proofs.RingFormed.{ring_parts}
use Rattle.percpu_lib.proofs.RingLines.{AreFirst, first_gets, first_puts, ring_none}

-- LINES ONE BEHIND THE OTHER

words_joined : (xs ys : List Line) → words_of (xs ++ ys) ≡ words_of xs + words_of ys
words_joined [] ys = omega arith
words_joined (line.Label n ∷ xs) ys = words_joined xs ys
words_joined (line.Plain i ∷ xs) ys = let more = words_joined xs ys in omega (arith, more)
words_joined (line.Branch i n ∷ xs) ys = let more = words_joined xs ys in omega (arith, more)
words_joined (line.Data w ∷ xs) ys = let more = words_joined xs ys in omega (arith, more)

module _ (labels : List (Option ℕ)) where
  abbrev Joined : ℕ → List Line → List Line → Type 0
  Joined n xs ys =
      instructions labels n (xs ++ ys) ≡ instructions labels n xs ++ instructions labels (n + words_of xs) ys

  -- one word first
  one_first : (n : ℕ) (o : Option Inst) (xs ys : List Line) → Joined (n + 1) xs ys
      → o ∷ instructions labels (n + 1) (xs ++ ys)
      ≡ o ∷ (instructions labels (n + 1) xs ++ instructions labels (n + suc (words_of xs)) ys)
  one_first n o xs ys rest =
      ap (λ (zs : List (Option Inst)). o ∷ zs) rest
      ∙ ap (λ m. o ∷ (instructions labels (n + 1) xs ++ instructions labels m ys)) (omega arith)

  pub joined : (n : ℕ) (xs ys : List Line) → Joined n xs ys
  joined n [] ys = ap (λ m. instructions labels m ys) (omega arith)
  joined n (line.Label l ∷ xs) ys = joined n xs ys
  joined n (line.Plain i ∷ xs) ys = one_first n _ xs ys (joined (n + 1) xs ys)
  joined n (line.Branch i l ∷ xs) ys = one_first n _ xs ys (joined (n + 1) xs ys)
  joined n (line.Data w ∷ xs) ys = one_first n _ xs ys (joined (n + 1) xs ys)

  -- the words of the first lines, where those of each number are known
  first_plain : (word words : ℕ → List Line) (insts : ℕ → List (Option Inst)) → AreFirst word words
      → ((m k : ℕ) → instructions labels m (word k) ≡ insts k) → (n k : ℕ)
      → instructions labels n (words k) ≡ repeated insts k
  first_plain word words insts first each n zero = ap (instructions labels n) first.none
  first_plain word words insts first each n (suc k) =
      ap (instructions labels n) (first.more k) ∙ joined n (words k) (word k)
      ∙ ap (λ (xs : List (Option Inst)). xs ++ instructions labels (n + words_of (words k)) (word k))
      (first_plain word words insts first each n k)
      ∙ ap (λ (xs : List (Option Inst)). repeated insts k ++ xs) (each (n + words_of (words k)) k)

first_count : (word words : ℕ → List Line) → AreFirst word words → ((k : ℕ) → words_of (word k) ≡ 6) → (k : ℕ)
    → words_of (words k) ≡ 6 * k
first_count word words first six zero = ap words_of first.none
first_count word words first six (suc k) =
    let fewer = first_count word words first six k in
    let both = words_joined (words k) (word k) in
    let last = six k in
    ap words_of (first.more k) ∙ omega (arith, fewer, both, last)

put_count : (p : Slots) (k : ℕ) → words_of (put_words p k) ≡ 6 * k
put_count p = first_count (put_word p) (put_words p) (first_puts p) (λ k. refl)

get_count : (p : Slots) (k : ℕ) → words_of (get_words p k) ≡ 6 * k
get_count p = first_count (get_word p) (get_words p) (first_gets p) (λ k. refl)

-- THE WORDS OF A BLOCK

module _ (p : Slots) (base n count : ℕ) (labels : List (Option ℕ)) (retry : index_of labels base ≡ Some n)
    (leave : index_of labels (base + 2) ≡ Some (n + 18 + 6 * count))
    (end : index_of labels (base + 4) ≡ Some (n + 22 + 6 * count)) where
  abbrev six : ℕ
  six = n + 1 + 1 + 1 + 1 + 1 + 1

  abbrev fifteen : ℕ
  fifteen = six + 1 + 1 + 1 + 1 + 1 + 1 + 1 + 1 + 1

  abbrev seventeen : ℕ
  seventeen = fifteen + 1 + 1

  -- from the store that commits on
  abbrev Behind : ℕ → List Line
  Behind offset =
      line.Plain (inst.Sd 5 6 (pos offset)) ∷ (leave_lines base ++ (ring_aborted p ++ end_lines base))

  behind_words : (m offset : ℕ) → m ≡ n + 17 + 6 * count → instructions labels m (Behind offset)
      ≡ ring_end p count offset
  behind_words m offset is =
      let last = m + 1 + 1 + 1 + 1 in
      let three =
      branch_is labels (inst.Jal 0 (pos 0)) (inst.Jal 0 (pos 16)) (m + 1) (base + 4) (n + 22 + 6 * count)
      (pos 16) end (forth (n + 22 + 6 * count) (m + 1) 4 16 (omega (arith, is)) refl) refl in
      let four = branch_is labels (inst.Jal 0 (pos 0)) (inst.Jal 0 (negsuc (83 + 24 * count))) last base n
      (negsuc (83 + 24 * count)) retry (back n last (21 + 6 * count) (83 + 24 * count) (omega (arith, is))
      (omega arith))
      refl in
      cc

  rest_held : (ws : List Line) (is : List (Option Inst)) (offset : ℕ) → instructions labels seventeen ws ≡ is
      → words_of ws ≡ 6 * count
      → instructions labels seventeen ((ws ++ line.Plain (inst.Sd 5 6 (pos offset)) ∷ [])
      ++ (leave_lines base ++ (ring_aborted p ++ end_lines base))) ≡ is ++ ring_end p count offset
  rest_held ws is offset plain many =
      ap (instructions labels seventeen) (append_assoc ws (line.Plain (inst.Sd 5 6 (pos offset)) ∷ [])
      (leave_lines base ++ (ring_aborted p ++ end_lines base)))
      ∙ joined labels seventeen ws (Behind offset)
      ∙ ap (λ (xs : List (Option Inst)). xs ++ instructions labels (seventeen + words_of ws) (Behind offset))
      plain
      ∙ ap (λ (xs : List (Option Inst)). is ++ xs)
      (behind_words (seventeen + words_of ws) offset (omega (arith, many)))

  -- and those before, where the test loads by i and j, subtracts by d, compares by c and branches by b
  abbrev test_lines : Inst → Inst → Inst → Inst → Inst → List Line
  test_lines i j d c b =
      line.Plain (inst.Addi 28 p.value (pos 0)) ∷ line.Plain i ∷ line.Plain j ∷ line.Plain d ∷ line.Plain c
      ∷ line.Plain (inst.Addi p.value 0 (pos 0)) ∷ line.Branch b (base + 2)
      ∷ line.Plain (inst.Addi p.value 28 (pos 0)) ∷ []

  block_held : (i j d c b to : Inst) (ws : List Line) (is : List (Option Inst)) (offset : ℕ)
      → aimed b (pos (12 + 24 * count)) ≡ to → instructions labels seventeen ws ≡ is → words_of ws ≡ 6 * count
      → instructions labels n (block_lines p base 13 (ring_first p)
      (test_lines i j d c b ++ (ws ++ line.Plain (inst.Sd 5 6 (pos offset)) ∷ [])) (ring_aborted p))
      ≡ front_with p i j d c to ++ (is ++ ring_end p count offset)
  block_held i j d c b to ws is offset aim plain many =
      let one =
      branch_is labels (inst.Bne 6 5 (pos 0)) (inst.Bne 6 5 (negsuc 23)) six base n (negsuc 23) retry
      (back n six 6 23 (omega arith) refl) refl in
      let two =
      branch_is labels b to fifteen (base + 2) (n + 18 + 6 * count) (pos (12 + 24 * count)) leave
      (forth (n + 18 + 6 * count) fifteen (3 + 6 * count) (12 + 24 * count) (omega arith) (omega arith)) aim in
      let rest = rest_held ws is offset plain many in
      cc

  pub kind_words : (k : RingKind)
      → instructions labels n (ring_lines_of k count p base) ≡ (ring_form_of k count p).words
  kind_words puts =
      block_held (inst.Ld 6 5 (pos 8)) (inst.Ld 7 5 (pos 0)) (inst.Sub 7 6 7) (inst.Sltiu 7 7 (pos (513 - count)))
      (inst.Beq 7 0 (pos 0)) (inst.Beq 7 0 (pos (12 + 24 * count))) (put_words p count)
      (repeated (put_insts p) count) 8 refl
      (first_plain labels (put_word p) (put_words p) (put_insts p) (first_puts p) (λ m k. refl) seventeen count)
      (put_count p count)
  kind_words gets =
      block_held (inst.Ld 6 5 (pos 0)) (inst.Ld 7 5 (pos 8)) (inst.Sub 7 7 6) (inst.Sltiu 7 7 (pos count))
      (inst.Bne 7 0 (pos 0)) (inst.Bne 7 0 (pos (12 + 24 * count))) (get_words p count)
      (repeated (get_insts p) count) 0 refl
      (first_plain labels (get_word p) (get_words p) (get_insts p) (first_gets p) (λ m k. refl) seventeen count)
      (get_count p count)

-- WHERE THEY ARE HELD

ring_inside : (k : RingKind) (p : Slots) (base count : ℕ) → words_of (ring_steps_of k p base count) ≡ 9 + 6 * count
ring_inside puts p base count =
    let many = put_count p count in
    let both = words_joined (put_words p count) (line.Plain (inst.Sd 5 6 (pos 8)) ∷ []) in
    omega (arith, many, both)
ring_inside gets p base count =
    let many = get_count p count in
    let both = words_joined (get_words p count) (line.Plain (inst.Sd 5 6 (pos 0)) ∷ []) in
    omega (arith, many, both)

-- its lines are those of a block with these inside
ring_made : (k : RingKind) (count : ℕ) (p : Slots) (base : ℕ) → ring_lines_of k count p base
    ≡ block_lines p base 13 (ring_first p) (ring_steps_of k p base count) (ring_aborted p)
ring_made puts count p base = refl
ring_made gets count p base = refl

-- so many words stand before the post-commit address, and so many in the block
behind_steps : (p : Slots) (base : ℕ) (inside : List Line) → words_of (inside ++ (leave_lines base
    ++ (ring_aborted p ++ end_lines base))) ≡ words_of inside + 4
behind_steps p base inside = words_joined inside (leave_lines base ++ (ring_aborted p ++ end_lines base))

-- their labels are bound so, and their signature stands there
pub ring_places : (k : RingKind) (count : ℕ) (p : Slots) (base : ℕ) (a b c : Assembly) → HasRoom a.labels base
    → AreEmitted (ring_lines_of k count p base) a b → IsContinued b c
    → HasPlaces (ring_form_of k count p) base a c
ring_places k count p base a b c room is more =
    let inside = ring_steps_of k p base count in
    let many = ring_inside k p base count in
    let all = behind_steps p base inside in
    let its = ring_parts k count p in
    let long = its.long in
    let commits = its.commits in
    places p base 13 (ring_first p) inside (ring_aborted p) a b c room
    (subst (λ (xs : List Line). AreEmitted xs a b) (ring_made k count p base) is) tt (ring_none k p base count) tt
    more (ring_form_of k count p) (sym its.first) (omega (arith, many, commits))
    (omega (arith, many, all, long))

pub ring_held : (k : RingKind) (count : ℕ) (p : Slots) (base : ℕ) (a b c : Assembly) → HasRoom a.labels base
    → AreEmitted (ring_lines_of k count p base) a b → IsContinued b c
    → IsHeld (ring_form_of k count p).words a c
ring_held k count p base a b c room is more =
    let inside = ring_steps_of k p base count in
    let many = ring_inside k p base count in
    let all = behind_steps p base inside in
    lines_held p base 13 (ring_first p) inside (ring_aborted p) (ring_form_of k count p).words a b c room
    (subst (λ (xs : List Line). AreEmitted xs a b) (ring_made k count p base) is) tt (ring_none k p base count) tt
    more
    (λ retry leave end.
    ap (instructions c.labels (length a.items)) (sym (ring_made k count p base))
    ∙ kind_words p base (length a.items) count c.labels retry (leave ∙ ap Some (omega (arith, many)))
    (end ∙ ap Some (omega (arith, many, all))) k)
