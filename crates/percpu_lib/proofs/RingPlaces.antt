-- Where the slots of a ring lie: modulo 512, beside one another and beside head, tail, words and area.
use Rattle.std.proofs.Common.{◌≡◌, ◌≢◌, ℕ, zero, suc, ◌+◌, ◌-◌, ◌%◌, ◌^◌, ◌<◌, ◌≤◌, inl, inr, ◌⊎◌, arith}
use Rattle.std.proofs.lemmas.Bool.{cases_lt}
use Rattle.percpu_lib.specs.Pushes.{LieBeside}
use Rattle.percpu_lib.specs.RingForms.{slot_of}

-- what holds of 1, 2, 3 and 4
pub one_to_four : (P : ℕ → Type 0) → P 1 → P 2 → P 3 → P 4 → (n : ℕ) → 1 ≤ n → n ≤ 4 → P n
one_to_four P one two three four zero some few = absurd (omega arith)
one_to_four P one two three four (suc zero) some few = one
one_to_four P one two three four (suc (suc zero)) some few = two
one_to_four P one two three four (suc (suc (suc zero))) some few = three
one_to_four P one two three four (suc (suc (suc (suc zero)))) some few = four
one_to_four P one two three four (suc (suc (suc (suc (suc n))))) some few = absurd (omega arith)

-- numbers less than 512 apart have slots of their own
pub other_slot : (ring m n : ℕ) → m % 512 ≢ n % 512 → LieBeside (slot_of ring m) 8 (slot_of ring n) 8
other_slot ring m n other = by_order (cases_lt (m % 512) (n % 512))
  where
    by_order : (m % 512 < n % 512) ⊎ (n % 512 ≤ m % 512) → LieBeside (slot_of ring m) 8 (slot_of ring n) 8
    by_order (inl less) = inl (omega arith)
    by_order (inr more) = inr (omega arith)

pub near_slots : (m i j : ℕ) → i < 512 → j < 512 → i ≢ j → (m + i) % 512 ≢ (m + j) % 512
near_slots m i j few fewer other same = omega arith

-- word j of the contents has another slot than word i behind the tail
pub behind_tail : (head tail holds count i j : ℕ) → head < 2 ^ 64 → holds ≡ (tail + (2 ^ 64 - head)) % 2 ^ 64
    → tail < 2 ^ 64 → holds + count ≤ 512 → i < count → j < holds → (tail + i) % 512 ≢ (head + j) % 512
behind_tail head tail holds count i j low is small room less within same = omega arith

-- the slot of a sum modulo 2^64
pub slot_wraps : (n : ℕ) → n % 2 ^ 64 % 512 ≡ n % 512
slot_wraps n = omega arith

-- a slot lies in its ring, behind head and tail
pub slot_low : (ring n : ℕ) → ring + 64 ≤ slot_of ring n
slot_low ring n = omega arith

pub slot_high : (ring n : ℕ) → slot_of ring n + 8 ≤ ring + 4160
slot_high ring n = omega arith

-- so many bytes of a ring: of its head and tail, or of its slots
abbrev pub AreOfRing : ℕ → ℕ → ℕ → Type 0
AreOfRing ring at n = ((ring ≤ at) × (at + n ≤ ring + 16)) ⊎ ((ring + 64 ≤ at) × (at + n ≤ ring + 4160))

pub head_in : (ring : ℕ) → AreOfRing ring ring 8
head_in ring = inl (omega arith, omega arith)

pub tail_in : (ring : ℕ) → AreOfRing ring (ring + 8) 8
tail_in ring = inl (omega arith, omega arith)

pub slot_in : (ring n : ℕ) → AreOfRing ring (slot_of ring n) 8
slot_in ring n = inr (slot_low ring n, slot_high ring n)

-- parts of bytes that lie beside one another, and the same the other way round
pub beside_parts : (at n from m at_part n_part from_part m_part : ℕ) → LieBeside at n from m → at ≤ at_part
    → at_part + n_part ≤ at + n → from ≤ from_part → from_part + m_part ≤ from + m
    → LieBeside at_part n_part from_part m_part
beside_parts at n from m at_part n_part from_part m_part (inl below) low high from_low from_high = inl (omega arith)
beside_parts at n from m at_part n_part from_part m_part (inr above) low high from_low from_high = inr (omega arith)

pub beside_back : (at n from m : ℕ) → LieBeside at n from m → LieBeside from m at n
beside_back at n from m (inl below) = inr below
beside_back at n from m (inr above) = inl above
