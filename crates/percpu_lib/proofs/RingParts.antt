-- In what a put into a ring and a get out of it differ, by the kind of block: the number that is counted on, which
-- is the tail or the head; the words of the test; and what becomes of each word.
use Rattle.std.proofs.Common.{◌≡◌, ℕ, suc, ◌+◌, ◌*◌, ◌-◌, ◌%◌, ◌^◌, ◌<◌, ◌≤◌, List, ◌++◌, Bool, true}
use Rattle.std.proofs.Common.{false, not, ltb, Option, Some, pos, length, refl, ap, ◌∙◌, arith, slice_get}
use Rattle.std.proofs.lemmas.Bool.{ltb-false, ltb-true}
use Rattle.std.proofs.lemmas.Int.{ints}
use Rattle.mach_types.specs.Bytes.{each_byte, word_at}
use Rattle.mach_types.specs.Registers.{register}
use Rattle.mach_types.specs.declared.registers.Regs.{Regs}
use Rattle.mach_types.specs.declared.user_memory.Store.{Store}
use Rattle.rv_inst.specs.Execution.{seen_byte}
use Rattle.rv_inst.specs.Meaning.{meaning}
use Rattle.rv_inst.specs.Words.{one_if, sum_64, word}
use Rattle.rv_inst.specs.declared.effects.Effect.TheVariants as effect
use Rattle.rv_inst.specs.declared.instruction.Inst.{Inst}
use Rattle.rv_inst.specs.declared.instruction.Inst.TheVariants as inst
use Rattle.alone.proofs.Means.{means_bne_not, means_bne_taken, means_ld, means_sd}
use Rattle.alone_laws.specs.Spans.{seen_at, sees}
use Rattle.block_model.specs.History.{History}
use Rattle.block_model.specs.Setting.{Setting}
use Rattle.percpu_lib.specs.Forms.{Form}
use Rattle.percpu_lib.specs.Pushes.{LieBeside, word_seen}
use Rattle.percpu_lib.specs.RingForms.{IsNoGet, IsNoPut, IsRingApart, IsWholeGet, IsWholePut, first_stores}
use Rattle.percpu_lib.specs.RingForms.{front_with, get_insts, held, put_insts, repeated, ring_bytes, ring_end}
use Rattle.percpu_lib.specs.RingForms.{ring_form, slot_of, word_of, word_store}
use Rattle.percpu_lib.specs.RingKinds.{RingKind, gets, puts}
use Rattle.percpu_lib.specs.declared.slots.Slots.{Slots}
use Rattle.percpu_lib.proofs.BlockCode.{IsFormed}
use Rattle.percpu_lib.proofs.Changes.{means_beq_not, means_beq_taken}
use Rattle.percpu_lib.proofs.RingData.{in_slot, in_words, ring_pointer, ring_word, word_pointer, word_ring}
use Rattle.percpu_lib.proofs.RingFormed.{get_formed, put_formed}
use Rattle.percpu_lib.proofs.RingMeans.{means_sltiu, means_sub, word_small}
use Rattle.percpu_lib.proofs.RingPlaces.{AreOfRing, head_in, slot_in, tail_in}
use Rattle.percpu_lib.proofs.RingStores.{beside_first}

-- THE WORDS

-- where in the ring the number lies that is counted on, and where the other
abbrev pub offset_of : RingKind → ℕ
offset_of puts = 8
offset_of gets = 0

abbrev pub other_of : RingKind → ℕ
other_of puts = 0
other_of gets = 8

-- the subtraction, the comparison and the branch of the test
abbrev pub sub_of : RingKind → Inst
sub_of puts = inst.Sub 7 6 7
sub_of gets = inst.Sub 7 7 6

abbrev pub compare_of : RingKind → ℕ → Inst
compare_of puts count = inst.Sltiu 7 7 (pos (513 - count))
compare_of gets count = inst.Sltiu 7 7 (pos count)

abbrev pub test_of : RingKind → ℕ → Inst
test_of puts count = inst.Beq 7 0 (pos (12 + 24 * count))
test_of gets count = inst.Bne 7 0 (pos (12 + 24 * count))

-- those that move word j: it is loaded into x29 and stored
abbrev pub insts_of : RingKind → Slots → ℕ → List (Option Inst)
insts_of puts p = put_insts p
insts_of gets p = get_insts p

abbrev pub load_of : RingKind → Slots → ℕ → Inst
load_of puts p j = inst.Ld 29 p.value (pos (8 * j))
load_of gets p j = inst.Ld 29 7 (pos 64)

abbrev pub save_of : RingKind → Slots → ℕ → Inst
save_of puts p j = inst.Sd 7 29 (pos 64)
save_of gets p j = inst.Sd p.value 29 (pos (8 * j))

abbrev pub front_of : RingKind → Slots → ℕ → List (Option Inst)
front_of k p count =
    front_with p (inst.Ld 6 5 (pos (offset_of k))) (inst.Ld 7 5 (pos (other_of k))) (sub_of k)
    (compare_of k count) (test_of k count)

abbrev pub words_by : RingKind → Slots → ℕ → List (Option Inst)
words_by k p count = front_of k p count ++ (repeated (insts_of k p) count ++ ring_end p count (offset_of k))

-- WHAT IS DONE

abbrev pub whole_of : RingKind → Slots → ℕ → Setting → ℕ → ℕ → ℕ → History → History → Type 0
whole_of puts p count s ring h t = IsWholePut s p ring h t count
whole_of gets p count s ring h t = IsWholeGet s p ring h t count

abbrev pub partial_of : RingKind → Slots → ℕ → Setting → ℕ → ℕ → ℕ → History → History → Type 0
partial_of puts p count s ring h t = IsNoPut s p ring h t count
partial_of gets p count s ring h t = IsNoGet s p ring h t count

-- the same form as that of its kind
abbrev pub form_by : RingKind → ℕ → Slots → Form
form_by k count p = ring_form p (words_by k p count) count (whole_of k p count) (partial_of k p count)

-- where the number lies, and the other
abbrev pub number_at : RingKind → ℕ → ℕ
number_at puts ring = ring + 8
number_at gets ring = ring

abbrev pub other_at : RingKind → ℕ → ℕ
other_at puts ring = ring
other_at gets ring = ring + 8

-- where word j comes from, and where it is stored
abbrev pub from_by : RingKind → ℕ → ℕ → ℕ → ℕ → ℕ
from_by puts ring value number j = value + 8 * j
from_by gets ring value number j = slot_of ring (number + j)

abbrev pub into_by : RingKind → ℕ → ℕ → ℕ → ℕ → ℕ
into_by puts ring value number j = slot_of ring (number + j)
into_by gets ring value number j = value + 8 * j

-- whether the ring has room for so many words, or holds them; and that it doesn't
abbrev pub IsEnough : RingKind → ℕ → ℕ → Type 0
IsEnough puts holds count = holds + count ≤ 512
IsEnough gets holds count = count ≤ holds

abbrev pub IsShort : RingKind → ℕ → ℕ → Type 0
IsShort puts holds count = 512 < holds + count
IsShort gets holds count = holds < count

-- what the comparison gives, and what it gives where it is enough
abbrev pub flag_of : RingKind → ℕ → ℕ → Bool
flag_of puts holds count = ltb holds (513 - count)
flag_of gets holds count = ltb holds count

abbrev pub good_of : RingKind → Bool
good_of puts = true
good_of gets = false

-- WHAT HOLDS OF THEM

pub formed_by : (k : RingKind) (count : ℕ) → count ≤ 4 → (p : Slots) → IsFormed (form_by k count p)
formed_by puts count few p = put_formed count few p
formed_by gets count few p = get_formed count few p

pub insts_six : (k : RingKind) (p : Slots) (j : ℕ) → length (insts_of k p j) ≡ 6
insts_six puts p j = refl
insts_six gets p j = refl

-- the words that move word j, by their number
pub record MovesBy (k : RingKind) (p : Slots) (j : ℕ) : Type 0 where
  pub andi : slice_get (insts_of k p j) 0 ≡ Some (Some (inst.Andi 7 6 (pos 511)))
  pub slli : slice_get (insts_of k p j) 1 ≡ Some (Some (inst.Slli 7 7 3))
  pub add : slice_get (insts_of k p j) 2 ≡ Some (Some (inst.Add 7 7 5))
  pub load : slice_get (insts_of k p j) 3 ≡ Some (Some (load_of k p j))
  pub save : slice_get (insts_of k p j) 4 ≡ Some (Some (save_of k p j))
  pub addi : slice_get (insts_of k p j) 5 ≡ Some (Some (inst.Addi 6 6 (pos 1)))

pub moves_by : (k : RingKind) (p : Slots) (j : ℕ) → MovesBy k p j
moves_by puts p j = record { andi = refl; slli = refl; add = refl; load = refl; save = refl; addi = refl }
moves_by gets p j = record { andi = refl; slli = refl; add = refl; load = refl; save = refl; addi = refl }

-- where the two numbers lie
pub record LiesSo (offset at ring : ℕ) : Type 0 where
  pub is : at ≡ ring + offset
  pub low : offset ≤ 8
  pub its : AreOfRing ring at 8

pub number_lies : (k : RingKind) (ring : ℕ) → LiesSo (offset_of k) (number_at k ring) ring
number_lies puts ring = record { is = refl; low = omega arith; its = tail_in ring }
number_lies gets ring = record { is = omega arith; low = omega arith; its = head_in ring }

pub other_lies : (k : RingKind) (ring : ℕ) → LiesSo (other_of k) (other_at k ring) ring
other_lies puts ring = record { is = omega arith; low = omega arith; its = head_in ring }
other_lies gets ring = record { is = refl; low = omega arith; its = tail_in ring }

-- the test
pub is_enough : (k : RingKind) (holds count : ℕ) → count ≤ 4 → flag_of k holds count ≡ good_of k
    → IsEnough k holds count
is_enough puts holds count few is = let less = ltb-true holds (513 - count) is in omega arith
is_enough gets holds count few is = ltb-false holds count is

pub is_short : (k : RingKind) (holds count : ℕ) → count ≤ 4 → flag_of k holds count ≡ not (good_of k)
    → IsShort k holds count
is_short puts holds count few is = let beyond = ltb-false holds (513 - count) is in omega arith
is_short gets holds count few is = ltb-true holds count is

pub subtracts : (k : RingKind) (s : Setting) (h ring : ℕ) (begun : History) (f : Regs) (at to : ℕ) → sum_64 at 4 ≡ to
    → register f 6 ≡ word_of s h (number_at k ring) begun → register f 7 ≡ word_of s h (other_at k ring) begun
    → meaning (sub_of k) f at ≡ effect.Next 7 (held s h ring begun) to
subtracts puts s h ring begun f at to on six seven =
    means_sub f at to on 7 6 7 (word_of s h (ring + 8) begun) (word_of s h ring begun) (held s h ring begun) six seven
    refl
subtracts gets s h ring begun f at to on six seven =
    means_sub f at to on 7 7 6 (word_of s h (ring + 8) begun) (word_of s h ring begun) (held s h ring begun) seven six
    refl

pub compares : (k : RingKind) (count holds : ℕ) → count ≤ 4 → (f : Regs) (at to : ℕ) → sum_64 at 4 ≡ to
    → register f 7 ≡ holds → meaning (compare_of k count) f at ≡ effect.Next 7 (one_if (flag_of k holds count)) to
compares puts count holds few f at to on seven =
    means_sltiu f at to on 7 7 (pos (513 - count)) holds (one_if (ltb holds (513 - count))) seven
    (ap (λ n. one_if (ltb holds n)) (word_small (513 - count) (omega arith)))
compares gets count holds few f at to on seven =
    means_sltiu f at to on 7 7 (pos count) holds (one_if (ltb holds count)) seven
    (ap (λ n. one_if (ltb holds n)) (word_small count (omega arith)))

pub stays : (k : RingKind) (count : ℕ) (flag : Bool) → flag ≡ good_of k → (f : Regs) (at to : ℕ) → sum_64 at 4 ≡ to
    → register f 7 ≡ one_if flag → meaning (test_of k count) f at ≡ effect.Next 0 0 to
stays puts count flag is f at to on seven =
    means_beq_not f at to on 7 0 (pos (12 + 24 * count)) 1 0 (seven ∙ ap one_if is) refl refl
stays gets count flag is f at to on seven =
    means_bne_not f at to on 7 0 (pos (12 + 24 * count)) 0 0 (seven ∙ ap one_if is) refl refl

pub exits : (k : RingKind) (count : ℕ) (flag : Bool) → flag ≡ not (good_of k) → (f : Regs) (at to : ℕ)
    → sum_64 at (word (pos (12 + 24 * count))) ≡ to → to % 4 ≡ 0 → register f 7 ≡ one_if flag
    → meaning (test_of k count) f at ≡ effect.Next 0 0 to
exits puts count flag is f at to target even seven =
    means_beq_taken f at 7 0 (pos (12 + 24 * count)) 0 0 to (seven ∙ ap one_if is) refl refl target even
exits gets count flag is f at to target even seven =
    means_bne_taken f at 7 0 (pos (12 + 24 * count)) 1 0 to (seven ∙ ap one_if is) refl refl target even

-- the move of a word: x7 is 64 bytes before its slot
pub loads : (k : RingKind) (p : Slots) (f : Regs) (at ring value number j : ℕ) → ring + 4160 ≤ 2 ^ 64
    → value + 8 * suc j ≤ 2 ^ 64 → register f 7 ≡ ring + 8 * ((number + j) % 512) → register f p.value ≡ value
    → meaning (load_of k p j) f at ≡ effect.Load (from_by k ring value number j) 8 true 29
loads puts p f at ring value number j low_ring low_words seven its =
    means_ld f at 29 p.value (pos (8 * j)) value (value + 8 * j) its (omega (arith, ints))
loads gets p f at ring value number j low_ring low_words seven its =
    means_ld f at 29 7 (pos 64) (ring + 8 * ((number + j) % 512)) (slot_of ring (number + j)) seven (omega arith)

pub saves : (k : RingKind) (p : Slots) (f : Regs) (at ring value number j n : ℕ) → ring + 4160 ≤ 2 ^ 64
    → value + 8 * suc j ≤ 2 ^ 64 → n < 2 ^ 64 → register f 7 ≡ ring + 8 * ((number + j) % 512)
    → register f p.value ≡ value → register f 29 ≡ n
    → meaning (save_of k p j) f at ≡ effect.Store (into_by k ring value number j) 8 n
saves puts p f at ring value number j n low_ring low_words small seven its last =
    means_sd f at 7 29 (pos 64) (ring + 8 * ((number + j) % 512)) (slot_of ring (number + j)) n n seven (omega arith)
    last (omega arith)
saves gets p f at ring value number j n low_ring low_words small seven its last =
    means_sd f at p.value 29 (pos (8 * j)) value (value + 8 * j) n n its (omega (arith, ints)) last (omega arith)

-- the bytes of a word that is moved, and that it is as it was while those before it are stored
module _ (s : Setting) (h : ℕ) (begun : History) (area ring value count : ℕ)
    (apart : IsRingApart s area ring value count h begun) where
  pub from_used : (k : RingKind) (number j : ℕ) → j < count
      → each_byte (ring_bytes area ring value count) (from_by k ring value number j) 8 ≡ true
  from_used puts number j lt =
      in_words s h begun area ring value count apart (value + 8 * j) (omega arith) (omega arith)
  from_used gets number j lt = in_slot s h begun area ring value count apart (number + j)

  pub into_used : (k : RingKind) (number j : ℕ) → j < count
      → each_byte (ring_bytes area ring value count) (into_by k ring value number j) 8 ≡ true
  into_used puts number j lt = in_slot s h begun area ring value count apart (number + j)
  into_used gets number j lt =
      in_words s h begun area ring value count apart (value + 8 * j) (omega arith) (omega arith)

  pub from_stays : (k : RingKind) (number : ℕ) (word : ℕ → ℕ) (j : ℕ) → j < count
      → word_at (seen_byte (first_stores (λ i. word_store (into_by k ring value number i) (word i)) j)
      (seen_at s h begun)) (from_by k ring value number j) 8
      ≡ word_seen s h (from_by k ring value number j) begun
  from_stays puts number word j lt =
      beside_first (sees s h begun) (λ i. word_store (slot_of ring (number + i)) (word i)) j (value + 8 * j) 8
      (λ i less. ring_word s h begun area ring value count apart j (slot_of ring (number + i)) 8 lt
      (slot_in ring (number + i)))
  from_stays gets number word j lt =
      beside_first (sees s h begun) (λ i. word_store (value + 8 * i) (word i)) j (slot_of ring (number + j)) 8
      (λ i less. word_ring s h begun area ring value count apart i (slot_of ring (number + j)) 8 (omega arith)
      (slot_in ring (number + j)))

  pub into_pointer : (k : RingKind) (number j : ℕ) → j < count
      → LieBeside (into_by k ring value number j) 8 (area + 8) 8
  into_pointer puts number j lt =
      ring_pointer s h begun area ring value count apart (slot_of ring (number + j)) (slot_in ring (number + j))
  into_pointer gets number j lt = word_pointer s h begun area ring value count apart j lt
