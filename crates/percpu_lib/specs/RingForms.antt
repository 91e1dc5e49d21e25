-- The ring blocks as data (own): their words, and the table of what they do.
use Rattle.std.specs.Prelude.{ℕ, zero, suc, ◌≡◌, ◌≢◌, ◌+◌, ◌-◌, ◌*◌, ◌%◌, ◌^◌, ◌<◌, ◌≤◌, ◌||◌, Bool, List, [], ◌∷◌, ◌++◌}
use Rattle.std.specs.Prelude.{Option, Some, None, pos, negsuc, unwrap_or}
use Rattle.mach_types.specs.declared.user_memory.Store.{Store}
use Rattle.rv_inst.specs.declared.instruction.Inst.{Inst}
use Rattle.rv_inst.specs.declared.instruction.Inst.TheVariants as inst
use Rattle.alone_laws.specs.Blocks.{among}
use Rattle.block_model.specs.History.{History, stores}
use Rattle.block_model.specs.Setting.{Setting}
use Rattle.percpu_lib.specs.Forms.{AreKept, Form}
use Rattle.percpu_lib.specs.Frees.{value_of}
use Rattle.percpu_lib.specs.Pushes.{LieBeside, word_seen}
use Rattle.percpu_lib.specs.Uses.{form_on_cells}
use Rattle.percpu_lib.specs.Words.{asking_words, is_changed}
use Rattle.percpu_lib.specs.declared.slots.Slots.{Slots}

-- WORDS

-- for each of the first numbers, the words of that number
abbrev pub repeated : (ℕ → List (Option Inst)) → ℕ → List (Option Inst)
repeated words zero = []
repeated words (suc k) = repeated words k ++ words k

-- word k goes into the slot of x6, and x6 grows by 1
abbrev pub put_insts : Slots → ℕ → List (Option Inst)
put_insts p k =
    Some (inst.Andi 7 6 (pos 511))
    ∷ Some (inst.Slli 7 7 3)
    ∷ Some (inst.Add 7 7 5)
    ∷ Some (inst.Ld 29 p.value (pos (8 * k)))
    ∷ Some (inst.Sd 7 29 (pos 64))
    ∷ Some (inst.Addi 6 6 (pos 1))
    ∷ []

-- word k comes out of the slot of x6, and x6 grows by 1
abbrev pub get_insts : Slots → ℕ → List (Option Inst)
get_insts p k =
    Some (inst.Andi 7 6 (pos 511))
    ∷ Some (inst.Slli 7 7 3)
    ∷ Some (inst.Add 7 7 5)
    ∷ Some (inst.Ld 29 7 (pos 64))
    ∷ Some (inst.Sd p.value 29 (pos (8 * k)))
    ∷ Some (inst.Addi 6 6 (pos 1))
    ∷ []

-- what stands from the store that commits on: it stores x6 to the tail or the head
abbrev pub ring_end : Slots → ℕ → ℕ → List (Option Inst)
ring_end p count offset =
    Some (inst.Sd 5 6 (pos offset))
    ∷ Some (inst.Jal 0 (pos 16))
    ∷ None
    ∷ Some (inst.Addi p.value 28 (pos 0))
    ∷ Some (inst.Jal 0 (negsuc (83 + 24 * count)))
    ∷ []

-- what stands before the words are moved, where the test loads by i and j, subtracts by d, compares by c and branches
-- by b; before they are put, and before they are got
abbrev pub front_with : Slots → Inst → Inst → Inst → Inst → Inst → List (Option Inst)
front_with p i j d c b =
    Some (inst.Addi 28 p.value (pos 0))
    ∷ asking_words p 23 13 (Some (inst.Addi 28 p.value (pos 0)) ∷ Some i ∷ Some j ∷ Some d ∷ Some c
    ∷ Some (inst.Addi p.value 0 (pos 0)) ∷ Some b ∷ Some (inst.Addi p.value 28 (pos 0)) ∷ [])

abbrev pub put_front : Slots → ℕ → List (Option Inst)
put_front p count =
    front_with p (inst.Ld 6 5 (pos 8)) (inst.Ld 7 5 (pos 0)) (inst.Sub 7 6 7) (inst.Sltiu 7 7 (pos (513 - count)))
    (inst.Beq 7 0 (pos (12 + 24 * count)))

abbrev pub get_front : Slots → ℕ → List (Option Inst)
get_front p count =
    front_with p (inst.Ld 6 5 (pos 0)) (inst.Ld 7 5 (pos 8)) (inst.Sub 7 7 6) (inst.Sltiu 7 7 (pos count))
    (inst.Bne 7 0 (pos (12 + 24 * count)))

-- the words of a block from the retry label on
abbrev pub put_block : Slots → ℕ → List (Option Inst)
put_block p count = put_front p count ++ (repeated (put_insts p) count ++ ring_end p count 8)

abbrev pub get_block : Slots → ℕ → List (Option Inst)
get_block p count = get_front p count ++ (repeated (get_insts p) count ++ ring_end p count 0)

-- A RING

-- the ring of a processor, and the slot of word n
abbrev pub ring_at : ℕ → ℕ → ℕ
ring_at rings cpu = rings + 8192 * cpu

abbrev pub slot_of : ℕ → ℕ → ℕ
slot_of ring n = ring + 64 + 8 * (n % 512)

-- a word as hart h sees it: each byte has a number, so that there always is one
abbrev pub word_of : Setting → ℕ → ℕ → History → ℕ
word_of s h at before = unwrap_or (word_seen s h at before) 0 % 2 ^ 64

-- head and tail of a ring, how many words it holds, and word k of its contents
abbrev pub head_seen : Setting → ℕ → ℕ → History → ℕ
head_seen s h ring before = word_of s h ring before

abbrev pub tail_seen : Setting → ℕ → ℕ → History → ℕ
tail_seen s h ring before = word_of s h (ring + 8) before

abbrev pub held : Setting → ℕ → ℕ → History → ℕ
held s h ring before = (tail_seen s h ring before + (2 ^ 64 - head_seen s h ring before)) % 2 ^ 64

abbrev pub content : Setting → ℕ → ℕ → ℕ → History → ℕ
content s h ring k before = word_of s h (slot_of ring (head_seen s h ring before + k)) before

-- a store of a word
abbrev pub word_store : ℕ → ℕ → Store
word_store at value = record { at = at; size = 8; value = value }

-- so many bytes lie beside a ring: beside its head and tail, and beside its slots. The 48 bytes between them
-- are none of the ring's
pub record LieBesideRing (at n ring : ℕ) : Type 0 where
  pub ends : LieBeside at n ring 16
  pub slots : LieBeside at n (ring + 64) 4096

-- what is asked of the data at a place: the ring doesn't pass 2^64 and holds at most 512 words; nor do the
-- words at the value; and ring, words and area lie beside one another
pub record IsRingApart (s : Setting) (area ring value count h : ℕ) (before : History) : Type 0 where
  pub low_ring : ring + 4160 ≤ 2 ^ 64
  pub at_most : held s h ring before ≤ 512
  pub low_words : value + 8 * count ≤ 2 ^ 64
  pub area_ring : LieBesideRing area 32 ring
  pub words_area : LieBeside value (8 * count) area 32
  pub words_ring : LieBesideRing value (8 * count) ring

-- the bytes that a sequence uses: those of the area, head and tail, the slots, and the words at the value
abbrev pub ring_bytes : ℕ → ℕ → ℕ → ℕ → ℕ → Bool
ring_bytes area ring value count a =
    among area 32 a || (among ring 16 a || (among (ring + 64) 4096 a || among value (8 * count) a))

-- WHAT THEY DO

-- the first of these stores
abbrev pub first_stores : (ℕ → Store) → ℕ → List Store
first_stores store zero = []
first_stores store (suc k) = first_stores store k ++ store k ∷ []

-- the stores by which word k goes into its slot, and by which it comes out
abbrev pub put_store : Setting → ℕ → ℕ → ℕ → History → ℕ → Store
put_store s h ring value begun k =
    word_store (slot_of ring (tail_seen s h ring begun + k)) (word_of s h (value + 8 * k) begun)

abbrev pub get_store : Setting → ℕ → ℕ → ℕ → History → ℕ → Store
get_store s h ring value begun k = word_store (value + 8 * k) (content s h ring k begun)

-- a ring as it was: head, tail and contents
pub record IsRingKept (s : Setting) (ring h : ℕ) (begun reached : History) : Type 0 where
  pub head : word_seen s h ring reached ≡ word_seen s h ring begun
  pub tail : word_seen s h (ring + 8) reached ≡ word_seen s h (ring + 8) begun
  pub contents : (k : ℕ) → k < held s h ring begun → content s h ring k reached ≡ content s h ring k begun

-- the words at the value stand in the slots at the tail, and the tail grew by so many, by these stores; the
-- head and what the ring held before are as they were
pub record ArePut (s : Setting) (ring h value count : ℕ) (begun reached : History) : Type 0 where
  pub words : (k : ℕ) → k < count → word_seen s h (slot_of ring (tail_seen s h ring begun + k)) reached
      ≡ Some (word_of s h (value + 8 * k) begun)
  pub tail : word_seen s h (ring + 8) reached ≡ Some ((tail_seen s h ring begun + count) % 2 ^ 64)
  pub head : word_seen s h ring reached ≡ word_seen s h ring begun
  pub contents : (k : ℕ) → k < held s h ring begun → content s h ring k reached ≡ content s h ring k begun
  pub stored : stores h reached ≡ stores h begun ++ (first_stores (put_store s h ring value begun) count
      ++ word_store (ring + 8) ((tail_seen s h ring begun + count) % 2 ^ 64) ∷ [])

-- the words at the value are the first of the contents, and the head grew by so many, by these stores; the
-- tail and the rest of the contents are as they were
pub record AreGot (s : Setting) (ring h value count : ℕ) (begun reached : History) : Type 0 where
  pub words : (k : ℕ) → k < count → word_seen s h (value + 8 * k) reached ≡ Some (content s h ring k begun)
  pub head : word_seen s h ring reached ≡ Some ((head_seen s h ring begun + count) % 2 ^ 64)
  pub tail : word_seen s h (ring + 8) reached ≡ word_seen s h (ring + 8) begun
  pub contents : (k : ℕ) → count + k < held s h ring begun
      → content s h ring k reached ≡ content s h ring (count + k) begun
  pub stored : stores h reached ≡ stores h begun ++ (first_stores (get_store s h ring value begun) count
      ++ word_store ring ((head_seen s h ring begun + count) % 2 ^ 64) ∷ [])

-- where the ring has no room for so many words, the value became 0 and nothing else changed; else the words
-- at the value, which is as it was, were put
pub data Puts (s : Setting) (p : Slots) (ring h t count : ℕ) (begun reached : History) : Type 0 where
  puts_none : 512 < held s h ring begun + count → value_of s p t reached ≡ 0
      → IsRingKept s ring h begun reached → stores h reached ≡ stores h begun
      → Puts s p ring h t count begun reached
  puts_words : held s h ring begun + count ≤ 512 → value_of s p t reached ≡ value_of s p t begun
      → ArePut s ring h (value_of s p t begun) count begun reached → Puts s p ring h t count begun reached

-- where the ring holds fewer words, the value became 0 and nothing else changed; else they were got
pub data Gets (s : Setting) (p : Slots) (ring h t count : ℕ) (begun reached : History) : Type 0 where
  gets_none : held s h ring begun < count → value_of s p t reached ≡ 0
      → IsRingKept s ring h begun reached → stores h reached ≡ stores h begun
      → Gets s p ring h t count begun reached
  gets_words : count ≤ held s h ring begun → value_of s p t reached ≡ value_of s p t begun
      → AreGot s ring h (value_of s p t begun) count begun reached → Gets s p ring h t count begun reached

-- a put that isn't whole executed the first of its stores, and none where there was no room; a get the
-- first of its, and none where there were fewer words
pub record PutsNoMore (s : Setting) (p : Slots) (ring h t count : ℕ) (begun reached : History) : Type 0 where
  pub some : ℕ
  pub few : some ≤ count
  pub room : some ≢ 0 → held s h ring begun + count ≤ 512
  pub stored : stores h reached
      ≡ stores h begun ++ first_stores (put_store s h ring (value_of s p t begun) begun) some

pub record GetsNoMore (s : Setting) (p : Slots) (ring h t count : ℕ) (begun reached : History) : Type 0 where
  pub some : ℕ
  pub few : some ≤ count
  pub enough : some ≢ 0 → count ≤ held s h ring begun
  pub stored : stores h reached
      ≡ stores h begun ++ first_stores (get_store s h ring (value_of s p t begun) begun) some

-- whole, and not whole: so it became of the words, and no other register changed but those that every block may change
pub record IsWholeMove (s : Setting) (p : Slots) (t : ℕ) (Moves : Type 0) (begun reached : History) : Type 0 where
  pub moves : Moves
  pub kept : AreKept s (is_changed p) t begun reached

pub record IsNoMove (s : Setting) (p : Slots) (ring h t : ℕ) (MovesNoMore : Type 0) (begun reached : History) : Type 0
  where
    pub same : IsRingKept s ring h begun reached
    pub stored : MovesNoMore
    pub kept : AreKept s (is_changed p) t begun reached

abbrev pub IsWholePut : Setting → Slots → ℕ → ℕ → ℕ → ℕ → History → History → Type 0
IsWholePut s p ring h t count begun reached =
    IsWholeMove s p t (Puts s p ring h t count begun reached) begun reached

abbrev pub IsWholeGet : Setting → Slots → ℕ → ℕ → ℕ → ℕ → History → History → Type 0
IsWholeGet s p ring h t count begun reached =
    IsWholeMove s p t (Gets s p ring h t count begun reached) begun reached

abbrev pub IsNoPut : Setting → Slots → ℕ → ℕ → ℕ → ℕ → History → History → Type 0
IsNoPut s p ring h t count begun reached =
    IsNoMove s p ring h t (PutsNoMore s p ring h t count begun reached) begun reached

abbrev pub IsNoGet : Setting → Slots → ℕ → ℕ → ℕ → ℕ → History → History → Type 0
IsNoGet s p ring h t count begun reached =
    IsNoMove s p ring h t (GetsNoMore s p ring h t count begun reached) begun reached

-- what the blocks of a count do, but for what became of the ring: a put and a get differ in that alone
abbrev pub ring_form : Slots → List (Option Inst) → ℕ → (Setting → ℕ → ℕ → ℕ → History → History → Type 0)
    → (Setting → ℕ → ℕ → ℕ → History → History → Type 0) → Form
ring_form p words count Whole Partial = form_on_cells p words 5 (13 + 6 * count) (is_changed p) (record {
  bytes = λ s area rings h t begun. ring_bytes area (ring_at rings h) (value_of s p t begun) count;
  Apart = λ s area rings h t begun. IsRingApart s area (ring_at rings h) (value_of s p t begun) count h begun;
  Whole = λ s rings h. Whole s (ring_at rings h) h;
  Partial = λ s rings h. Partial s (ring_at rings h) h;
})

abbrev pub ring_put_form : ℕ → Slots → Form
ring_put_form count p = ring_form p (put_block p count) count
    (λ s ring h t. IsWholePut s p ring h t count) (λ s ring h t. IsNoPut s p ring h t count)

abbrev pub ring_get_form : ℕ → Slots → Form
ring_get_form count p = ring_form p (get_block p count) count
    (λ s ring h t. IsWholeGet s p ring h t count) (λ s ring h t. IsNoGet s p ring h t count)
