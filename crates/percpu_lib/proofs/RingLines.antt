-- Each line of a ring block has a word or is aimed at a label that is there, and none of them inside is a label.
use Rattle.std.proofs.Common.{◌≡◌, ℕ, zero, suc, ◌+◌, ◌-◌, ◌*◌, ◌<◌, ◌≤◌, List, [], ◌∷◌, ◌++◌, refl, ap, ◌∙◌, arith}
use Rattle.std.proofs.Common.{true, ◌&&◌, ltb, All, pos, subst, sym}
use Rattle.std.proofs.lemmas.Bool.{lt-ltb}
use Rattle.rv_asm.specs.Assembly.{Assembly}
use Rattle.rv_asm.specs.Fields.{has_signed_bits}
use Rattle.rv_inst.specs.declared.instruction.Inst.TheVariants as inst
use Rattle.percpu_lib.specs.BlockLines.{HasNoLabel, IsLabelled, block_lines}
use Rattle.percpu_lib.specs.Lines.{AreEmitted, HasRoom, IsEmittable}
use Rattle.percpu_lib.specs.RingKinds.{RingKind, gets, puts, ring_lines_of, ring_steps_of}
use Rattle.percpu_lib.specs.Rings.{get_steps, get_test, get_word, get_words, put_steps, put_test, put_word}
use Rattle.percpu_lib.specs.Rings.{put_words, ring_aborted, ring_first}
use Rattle.percpu_lib.specs.Words.{AreSlots}
use Rattle.percpu_lib.specs.declared.lines.Line.{Line}
use Rattle.percpu_lib.specs.declared.lines.Line.TheVariants as line
use Rattle.percpu_lib.specs.declared.slots.Slots.{Slots}
use Rattle.percpu_lib.proofs.Emittable.{AreEmittable, all_joined, block_emittable, both_true, second, written}
use Rattle.percpu_lib.proofs.Labels.{labelled}

-- LABELS

none_joined : (xs ys : List Line) → HasNoLabel xs → HasNoLabel ys → HasNoLabel (xs ++ ys)
none_joined [] ys first rest = rest
none_joined (line.Label n ∷ xs) ys first rest = first
none_joined (line.Plain i ∷ xs) ys first rest = none_joined xs ys first rest
none_joined (line.Branch i n ∷ xs) ys first rest = none_joined xs ys first rest
none_joined (line.Data w ∷ xs) ys first rest = none_joined xs ys first rest

-- for each of the first numbers, the lines of that number
pub record AreFirst (word words : ℕ → List Line) : Type 0 where
  pub none : words 0 ≡ []
  pub more : (k : ℕ) → words (suc k) ≡ words k ++ word k

pub first_puts : (p : Slots) → AreFirst (put_word p) (put_words p)
first_puts p = record { none = refl; more = λ k. refl }

pub first_gets : (p : Slots) → AreFirst (get_word p) (get_words p)
first_gets p = record { none = refl; more = λ k. refl }

-- what holds of the lines of each number, and of lines one behind the other, holds of the first ones
pub of_first : (P : List Line → Type 0) (word words : ℕ → List Line) → AreFirst word words → P []
    → ((xs ys : List Line) → P xs → P ys → P (xs ++ ys)) → (n : ℕ) → ((k : ℕ) → k < n → P (word k))
    → (k : ℕ) → k ≤ n → P (words k)
of_first P word words first none joined n each zero few = subst P (sym first.none) none
of_first P word words first none joined n each (suc k) few =
    subst P (sym (first.more k))
    (joined (words k) (word k) (of_first P word words first none joined n each k (omega arith))
    (each k (omega arith)))

words_none : (word words : ℕ → List Line) → AreFirst word words → ((k : ℕ) → HasNoLabel (word k)) → (count : ℕ)
    → HasNoLabel (words count)
words_none word words first each count =
    of_first HasNoLabel word words first tt none_joined count (λ k lt. each k) count (omega arith)

-- no line inside a ring block is a label
pub ring_none : (k : RingKind) (p : Slots) (base count : ℕ) → HasNoLabel (ring_steps_of k p base count)
ring_none puts p base count =
    none_joined (put_words p count) _ (words_none (put_word p) (put_words p) (first_puts p) (λ k. tt) count) tt
ring_none gets p base count =
    none_joined (get_words p count) _ (words_none (get_word p) (get_words p) (first_gets p) (λ k. tt) count) tt

-- WORDS

-- immediates that are small enough
room_fits : (count : ℕ) → has_signed_bits 12 (pos (513 - count)) ≡ true
room_fits count = lt-ltb (513 - count) 2048 (omega arith)

count_fits : (count : ℕ) → count ≤ 4 → has_signed_bits 12 (pos count) ≡ true
count_fits count few = lt-ltb count 2048 (omega arith)

place_fits : (k : ℕ) → k < 4 → has_signed_bits 12 (pos (8 * k)) ≡ true
place_fits k few = lt-ltb (8 * k) 2048 (omega arith)

module _ (p : Slots) (base labels : ℕ) (slots : AreSlots p) (low : p.table < 0x7FFFF800)
    (room : base + 8 ≤ labels) where
  abbrev Emittable : List Line → Type 0
  Emittable xs = AreEmittable p base labels slots low room xs

  value : ltb p.value 32 ≡ true
  value = lt-ltb p.value 32 slots.low_value

  -- the value comes first, then another register
  is_written : (ltb p.value 32 && true && true) ≡ true
  is_written = written p base labels slots low room

  put_word_emittable : (k : ℕ) → k < 4 → Emittable (put_word p k)
  put_word_emittable k few =
      let load = both_true (ltb p.value 32) (has_signed_bits 12 (pos (8 * k))) value (place_fits k few) in
      (refl, (refl, (refl, (load, (refl, (refl, tt))))))

  words_emittable : (word words : ℕ → List Line) → AreFirst word words
      → ((k : ℕ) → k < 4 → Emittable (word k)) → (count : ℕ) → count ≤ 4 → Emittable (words count)
  words_emittable word words first = of_first Emittable word words first tt (all_joined (IsEmittable labels)) 4

  get_word_emittable : (k : ℕ) → k < 4 → Emittable (get_word p k)
  get_word_emittable k few =
      let store = both_true (ltb p.value 32 && true) (has_signed_bits 12 (pos (8 * k)))
      (second p base labels slots low room) (place_fits k few) in
      (refl, (refl, (refl, (refl, (store, (refl, tt))))))

  first_emittable : Emittable (ring_first p)
  first_emittable = (second p base labels slots low room, tt)

  aborted_emittable : Emittable (ring_aborted p)
  aborted_emittable = (is_written, tt)

  put_test_emittable : (count : ℕ) → Emittable (put_test p base count)
  put_test_emittable count =
      let copy = second p base labels slots low room in
      (copy, (refl, (refl, (refl, (room_fits count, (is_written, ((refl, omega arith), (is_written, tt))))))))

  get_test_emittable : (count : ℕ) → count ≤ 4 → Emittable (get_test p base count)
  get_test_emittable count few =
      let copy = second p base labels slots low room in
      (copy, (refl, (refl, (refl, (count_fits count few, (is_written, ((refl, omega arith), (is_written, tt))))))))

  -- a block by its test and its words
  block_of_words : (test : List Line) (word words : ℕ → List Line) (last : Line) (count : ℕ) → count ≤ 4
      → AreFirst word words → Emittable test → ((k : ℕ) → k < 4 → Emittable (word k)) → Emittable (last ∷ [])
      → All (IsEmittable labels)
      (block_lines p base 13 (ring_first p) (test ++ (words count ++ last ∷ [])) (ring_aborted p))
  block_of_words test word words last count few first fit each stored =
      block_emittable p base labels slots low room 13 (ring_first p) (test ++ (words count ++ last ∷ []))
      (ring_aborted p) refl first_emittable
      (all_joined (IsEmittable labels) test (words count ++ last ∷ []) fit
      (all_joined (IsEmittable labels) (words count) (last ∷ []) (words_emittable word words first each count few)
      stored))
      aborted_emittable

  pub block_of_kind : (k : RingKind) (count : ℕ) → count ≤ 4
      → All (IsEmittable labels) (ring_lines_of k count p base)
  block_of_kind puts count few =
      block_of_words (put_test p base count) (put_word p) (put_words p) (line.Plain (inst.Sd 5 6 (pos 8))) count
      few (first_puts p) (put_test_emittable count) put_word_emittable (refl, tt)
  block_of_kind gets count few =
      block_of_words (get_test p base count) (get_word p) (get_words p) (line.Plain (inst.Sd 5 6 (pos 0))) count
      few (first_gets p) (get_test_emittable count few) get_word_emittable (refl, tt)

-- the lines of a block that does this inside
pub lines_made : (p : Slots) (base : ℕ) (lines inside steps : List Line)
    → lines ≡ block_lines p base 13 (ring_first p) inside (ring_aborted p) → inside ≡ steps
    → lines ≡ block_lines p base 13 (ring_first p) steps (ring_aborted p)
lines_made p base lines inside steps made same =
    made ∙ ap (λ (xs : List Line). block_lines p base 13 (ring_first p) xs (ring_aborted p)) same

-- THE SAME BY KIND

pub way_made : (k : RingKind) (count : ℕ) (p : Slots) (base : ℕ) (lines inside : List Line)
    → lines ≡ block_lines p base 13 (ring_first p) inside (ring_aborted p)
    → inside ≡ ring_steps_of k p base count → lines ≡ ring_lines_of k count p base
way_made puts count p base lines inside made same =
    lines_made p base lines inside (put_steps p base count) made same
way_made gets count p base lines inside made same =
    lines_made p base lines inside (get_steps p base count) made same

pub ring_emittable : (k : RingKind) (p : Slots) (base labels : ℕ) → AreSlots p → p.table < 0x7FFFF800
    → base + 8 ≤ labels → (count : ℕ) → count ≤ 4 → All (IsEmittable labels) (ring_lines_of k count p base)
ring_emittable k p base labels slots low room count few = block_of_kind p base labels slots low room k count few

pub ring_labelled : (k : RingKind) (count : ℕ) (p : Slots) (base : ℕ) (a b : Assembly)
    → AreEmitted (ring_lines_of k count p base) a b → HasRoom a.labels base → IsLabelled base b
ring_labelled puts count p base a b is room =
    labelled p base 13 (ring_first p) (put_steps p base count) (ring_aborted p) a b is room tt
    (ring_none puts p base count) tt
ring_labelled gets count p base a b is room =
    labelled p base 13 (ring_first p) (get_steps p base count) (ring_aborted p) a b is room tt
    (ring_none gets p base count) tt
