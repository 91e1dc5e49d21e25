-- The data of a ring block at a place where its sequence begins: the words of the ring and those at the
-- value.
use Rattle.std.proofs.Common.{◌≡◌, ◌≢◌, ℕ, ◌+◌, ◌*◌, ◌%◌, ◌^◌, ◌<◌, ◌≤◌, List, refl, sym, ap, ◌∙◌, arith}
use Rattle.std.proofs.Common.{Bool, true, ◌||◌, Option, Some, inl, inr, unwrap_or}
use Rattle.mach_types.specs.Bytes.{each_byte, word_at}
use Rattle.mach_types.specs.declared.user_memory.Store.{Store}
use Rattle.rv_inst.specs.Execution.{seen_byte}
use Rattle.rv_inst.specs.Memory.{loaded}
use Rattle.alone.proofs.Laws.{loaded_word}
use Rattle.alone_laws.specs.Blocks.{among}
use Rattle.alone_laws.specs.Spans.{seen_at, sees}
use Rattle.alone_laws.proofs.Sequences.{each_among}
use Rattle.alone_laws.proofs.Steps.{each_implies}
use Rattle.alone_laws.proofs.StoredWords.{some_word}
use Rattle.block_model.specs.History.{History}
use Rattle.block_model.specs.Setting.{Setting}
use Rattle.percpu_lib.specs.Pushes.{LieBeside, word_seen}
use Rattle.percpu_lib.specs.RingForms.{IsRingApart, IsRingKept, content, head_seen, ring_bytes, slot_of}
use Rattle.percpu_lib.specs.RingForms.{word_of}
use Rattle.percpu_lib.proofs.Beginnings.{ring_seen}
use Rattle.percpu_lib.proofs.BlockWords.{or_true}
use Rattle.percpu_lib.proofs.RingPlaces.{AreOfRing, behind_tail, beside_back, beside_parts, head_in, near_slots}
use Rattle.percpu_lib.proofs.RingPlaces.{other_slot, slot_in, tail_in}

module _ (s : Setting) (h : ℕ) (begun : History) (area ring value count : ℕ)
    (apart : IsRingApart s area ring value count h begun) where
  abbrev seen : ℕ → Option ℕ
  seen = seen_at s h begun

  abbrev bytes : ℕ → Bool
  bytes = ring_bytes area ring value count

  open (ring_seen s h ring begun) use {head, tail, holds}

  -- THE BYTES THAT A SEQUENCE USES

  pub area_bytes : (a : ℕ) → among area 32 a ≡ true → bytes a ≡ true
  area_bytes a is = ap (λ b. b || (among ring 16 a || (among (ring + 64) 4096 a || among value
      (8 * count) a))) is

  pub in_ring : (from : ℕ) → AreOfRing ring from 8 → each_byte bytes from 8 ≡ true
  in_ring from (inl ends) =
      each_implies (among ring 16) bytes
      (λ a is. ap (λ b. among area 32 a || (b || (among (ring + 64) 4096 a || among value (8 * count) a))) is
      ∙ or_true (among area 32 a))
      from 8 (each_among ring 16 from 8 ends.0 ends.1)
  in_ring from (inr slots) =
      each_implies (among (ring + 64) 4096) bytes
      (λ a is. ap (λ b. among area 32 a || (among ring 16 a || (b || among value (8 * count) a))) is
      ∙ ap (λ b. among area 32 a || b) (or_true (among ring 16 a)) ∙ or_true (among area 32 a))
      from 8 (each_among (ring + 64) 4096 from 8 slots.0 (omega arith))

  pub in_words : (from : ℕ) → value ≤ from → from + 8 ≤ value + 8 * count → each_byte bytes from 8 ≡ true
  in_words from low high =
      each_implies (among value (8 * count)) bytes
      (λ a is. ap (λ b. among area 32 a || (among ring 16 a || (among (ring + 64) 4096 a || b))) is
      ∙ ap (λ b. among area 32 a || (among ring 16 a || b)) (or_true (among (ring + 64) 4096 a))
      ∙ ap (λ b. among area 32 a || b) (or_true (among ring 16 a)) ∙ or_true (among area 32 a))
      from 8 (each_among value (8 * count) from 8 low high)

  pub in_slot : (n : ℕ) → each_byte bytes (slot_of ring n) 8 ≡ true
  in_slot n = in_ring (slot_of ring n) (slot_in ring n)

  -- WORDS

  -- a word as it is seen, and as it is loaded
  pub raw : (a : ℕ) → (w : ℕ) × (word_seen s h a begun ≡ Some w)
  raw a = some_word (sees s h begun) a 8

  pub loaded_is : (a : ℕ) → loaded (raw a).0 8 true ≡ word_of s h a begun
  loaded_is a = loaded_word (raw a).0 ∙ sym (ap (λ (o : Option ℕ). unwrap_or o 0 % 2 ^ 64) (raw a).1)

  pub word_low : (a : ℕ) → word_of s h a begun < 2 ^ 64
  word_low a = omega arith

  -- WHAT LIES BESIDE WHAT

  -- the words at the value and the ring
  pub word_ring : (k at n : ℕ) → k < count → AreOfRing ring at n → LieBeside (value + 8 * k) 8 at n
  word_ring k at n lt (inl ends) =
      beside_parts value (8 * count) ring 16 (value + 8 * k) 8 at n apart.words_ring.ends (omega arith)
      (omega arith)
      ends.0 ends.1
  word_ring k at n lt (inr slots) =
      beside_parts value (8 * count) (ring + 64) 4096 (value + 8 * k) 8 at n apart.words_ring.slots
      (omega arith)
      (omega arith) slots.0 (omega arith)

  pub ring_word : (k at n : ℕ) → k < count → AreOfRing ring at n → LieBeside at n (value + 8 * k) 8
  ring_word k at n lt its = beside_back (value + 8 * k) 8 at n (word_ring k at n lt its)

  -- the pointer of the area
  pub ring_pointer : (at : ℕ) → AreOfRing ring at 8 → LieBeside at 8 (area + 8) 8
  ring_pointer at (inl ends) =
      beside_back (area + 8) 8 at 8
      (beside_parts area 32 ring 16 (area + 8) 8 at 8 apart.area_ring.ends (omega arith)
      (omega arith) ends.0 ends.1)
  ring_pointer at (inr slots) =
      beside_back (area + 8) 8 at 8
      (beside_parts area 32 (ring + 64) 4096 (area + 8) 8 at 8 apart.area_ring.slots (omega arith)
      (omega arith) slots.0
      (omega arith))

  pub word_pointer : (k : ℕ) → k < count → LieBeside (value + 8 * k) 8 (area + 8) 8
  word_pointer k lt =
      beside_parts value (8 * count) area 32 (value + 8 * k) 8 (area + 8) 8 apart.words_area (omega arith)
      (omega arith)
      (omega arith) (omega arith)

  -- the slots behind the tail are no contents
  pub behind_contents : (i j : ℕ) → holds + count ≤ 512 → i < count → j < holds
      → LieBeside (slot_of ring (tail + i)) 8 (slot_of ring (head + j)) 8
  behind_contents i j room lt within =
      other_slot ring (tail + i) (head + j)
      (behind_tail head tail holds count i j (word_low ring) refl (word_low (ring + 8)) room lt within)

  pub apart_behind : (i j : ℕ) → holds + count ≤ 512 → i < count → j < count → i ≢ j
      → LieBeside (slot_of ring (tail + i)) 8 (slot_of ring (tail + j)) 8
  apart_behind i j room lt less other =
      other_slot ring (tail + i) (tail + j) (near_slots tail i j (omega arith) (omega arith) other)

  -- A LATER PLACE

  -- where these stores were executed since then, and nobody else wrote these bytes
  abbrev pub Sees : History → List Store → Type 0
  Sees last es = (from : ℕ) → each_byte bytes from 8 ≡ true
      → word_at (seen_at s h last) from 8 ≡ word_at (seen_byte es seen) from 8

  abbrev pub Leaves : List Store → ℕ → Type 0
  Leaves es from = word_at (seen_byte es seen) from 8 ≡ word_at seen from 8

  module _ (last : History) (es : List Store) (its : Sees last es) where
    pub same_there : (from : ℕ) → each_byte bytes from 8 ≡ true → Leaves es from
        → word_seen s h from last ≡ word_seen s h from begun
    same_there from in_it leaves = its from in_it ∙ leaves

    pub head_there : Leaves es ring → word_seen s h ring last ≡ word_seen s h ring begun
    head_there leaves = same_there ring (in_ring ring (head_in ring)) leaves

    pub tail_there : Leaves es (ring + 8) → word_seen s h (ring + 8) last ≡ word_seen s h (ring + 8) begun
    tail_there leaves = same_there (ring + 8) (in_ring (ring + 8) (tail_in ring)) leaves

    -- word j of the contents, where the head is as it was
    pub content_there : (j : ℕ) → Leaves es ring → Leaves es (slot_of ring (head + j))
        → content s h ring j last ≡ content s h ring j begun
    content_there j of_head of_slot =
        let same : head_seen s h ring last ≡ head =
        ap (λ (o : Option ℕ). unwrap_or o 0 % 2 ^ 64) (head_there of_head) in
        ap (λ n. word_of s h (slot_of ring (n + j)) last) same
        ∙ ap (λ (o : Option ℕ). unwrap_or o 0 % 2 ^ 64)
        (same_there (slot_of ring (head + j)) (in_slot (head + j)) of_slot)

    pub ring_there : Leaves es ring → Leaves es (ring + 8)
        → ((j : ℕ) → j < holds → Leaves es (slot_of ring (head + j))) → IsRingKept s ring h begun last
    ring_there of_head of_tail of_slots = record {
      head = head_there of_head;
      tail = tail_there of_tail;
      contents = λ j lt. content_there j of_head (of_slots j lt);
    }
