-- What is tested of each block on hart 0, by computation.
use Rattle.std.proofs.Common.{◌≡◌, ◌≢◌, ℕ, ◌+◌, ◌-◌, ◌*◌, ◌^◌, List, [], ◌∷◌, refl, sym, ◌∙◌, Bool, true, false, not, cond}
use Rattle.std.proofs.Common.{◌&&◌, ◌||◌, ◌⊎◌, inl, inr, ⊎_elim, eqb, leb}
use Rattle.std.proofs.lemmas.Bool.{and_parts, false≢true, leb-true, ne_eqb}
use Rattle.alone_laws.specs.Blocks.{among}
use Rattle.block_model.specs.History.{History}
use Rattle.block_model.specs.Setting.{Setting}
use Rattle.percpu_lib.specs.Adds.{IsCellApart, cell_at}
use Rattle.percpu_lib.specs.Allocs.{alloc_form}
use Rattle.percpu_lib.specs.Frees.{IsFreeApart, free_form, value_of}
use Rattle.percpu_lib.specs.Pools.{IsPool, count_of, pool_at, slot_at}
use Rattle.percpu_lib.specs.Pops.{head_of, pop_form}
use Rattle.percpu_lib.specs.Pushes.{IsNodeApart, LieBeside, node_of, push_form}
use Rattle.percpu_lib.specs.RingForms.{IsRingApart, LieBesideRing, held as ring_held, ring_at, ring_get_form, ring_put_form}
use Rattle.percpu_lib.specs.Uses.{add_form, cells_of}
use Rattle.percpu_lib.specs.declared.slots.Slots.{Slots}
use Rattle.percpu_lib.proofs.UseTests.{IsTested, either, is_among}

-- so many bytes lie beside others
abbrev lie_beside : ℕ → ℕ → ℕ → ℕ → Bool
lie_beside a m b n = leb (a + m) b || leb (b + n) a

they_lie : (a m b n : ℕ) → lie_beside a m b n ≡ true → LieBeside a m b n
they_lie a m b n is =
    ⊎_elim (λ (under : leb (a + m) b ≡ true). inl (leb-true (a + m) b under))
    (λ (over : leb (b + n) a ≡ true). inr (leb-true (b + n) a over)) (either (leb (a + m) b) (leb (b + n) a) is)

-- a last span, and one that counts where a test fails
pub last : (x y : Bool) → x || y ≡ true → x || (y || false) ≡ true
last true y is = refl
last false true is = refl
last false false is = is

pub last_two : (x y z : Bool) → x || (y || z) ≡ true → x || (y || (z || false)) ≡ true
last_two true y z is = refl
last_two false true z is = refl
last_two false false true is = refl
last_two false false false is = is

abbrev unless : Bool → ℕ → ℕ → List (ℕ × ℕ)
unless none at n = cond none [] ((at, n) ∷ [])

pub spanned : (x y none : Bool) (at n a : ℕ) → x || (y || (not none && among at n a)) ≡ true
    → x || (y || is_among (unless none at n) a) ≡ true
spanned true y none at n a is = refl
spanned false true none at n a is = refl
spanned false false true at n a is = is
spanned false false false at n a is = last false (among at n a) is

-- THE CELL

abbrev is_cell_apart : ℕ → ℕ → Bool
is_cell_apart area cells = leb (cell_at cells 0 + 8) (2 ^ 64) && lie_beside (cell_at cells 0) 8 area 32

pub cell_apart : (area cells : ℕ) → is_cell_apart area cells ≡ true → IsCellApart area cells 0
cell_apart area cells is =
    let one = and_parts (leb (cell_at cells 0 + 8) (2 ^ 64)) _ is in
    record {
      low_cells = leb-true (cell_at cells 0 + 8) (2 ^ 64) one.0;
      beside = they_lie (cell_at cells 0) 8 area 32 one.1;
    }

abbrev pub add_tested : (p : Slots) → IsTested (add_form p)
add_tested p = record {
  spans = λ s t begun. (cell_at (cells_of s p t begun) 0, 8) ∷ [];
  covers = λ s area t begun a has. last (among area.at 32 a) (among (cell_at (cells_of s p t begun) 0) 8 a) has;
  is_apart = λ s area t begun. is_cell_apart area.at (cells_of s p t begun);
  apart = λ s area t begun is. cell_apart area.at (cells_of s p t begun) is;
}

-- THE LIST

abbrev is_node_apart : ℕ → ℕ → ℕ → Bool
is_node_apart area cells node =
    is_cell_apart area cells
    && (leb (node + 8) (2 ^ 64) && (lie_beside node 8 area 32 && lie_beside node 8 (cell_at cells 0) 8))

pub node_apart : (area cells node : ℕ) → is_node_apart area cells node ≡ true → IsNodeApart area cells 0 node
node_apart area cells node is =
    let one = and_parts (is_cell_apart area cells) _ is in
    let two = and_parts (leb (node + 8) (2 ^ 64)) _ one.1 in
    let three = and_parts (lie_beside node 8 area 32) _ two.1 in
    record {
      cell = cell_apart area cells one.0;
      low_node = leb-true (node + 8) (2 ^ 64) two.0;
      node_area = they_lie node 8 area 32 three.0;
      node_cell = they_lie node 8 (cell_at cells 0) 8 three.1;
    }

abbrev pub push_tested : (p : Slots) → IsTested (push_form p)
push_tested p = record {
  spans = λ s t begun. (cell_at (cells_of s p t begun) 0, 8) ∷ (node_of s p t begun, 8) ∷ [];
  covers = λ s area t begun a has.
      last_two (among area.at 32 a) (among (cell_at (cells_of s p t begun) 0) 8 a) (among (node_of s p t begun) 8 a) has;
  is_apart = λ s area t begun. is_node_apart area.at (cells_of s p t begun) (node_of s p t begun);
  apart = λ s area t begun is. node_apart area.at (cells_of s p t begun) (node_of s p t begun) is;
}

abbrev pub pop_tested : (p : Slots) → IsTested (pop_form p)
pop_tested p = record {
  spans = λ s t begun.
      (cell_at (cells_of s p t begun) 0, 8)
      ∷ unless (eqb (head_of s 0 (cells_of s p t begun) begun) 0) (head_of s 0 (cells_of s p t begun) begun) 8;
  covers = λ s area t begun a has.
      spanned (among area.at 32 a) (among (cell_at (cells_of s p t begun) 0) 8 a)
      (eqb (head_of s 0 (cells_of s p t begun) begun) 0) (head_of s 0 (cells_of s p t begun) begun) 8 a has;
  is_apart = λ s area t begun. is_cell_apart area.at (cells_of s p t begun);
  apart = λ s area t begun is. cell_apart area.at (cells_of s p t begun) is;
}

-- THE POOL

abbrev is_pool : Setting → ℕ → ℕ → History → Bool
is_pool s area pools begun =
    leb (pool_at pools 0 + 4160) (2 ^ 64)
    && (leb (count_of s 0 pools begun) 512 && lie_beside (pool_at pools 0) 8 area 32)

pub pool_is : (s : Setting) (area pools : ℕ) (begun : History) → is_pool s area pools begun ≡ true
    → IsPool s area pools 0 begun
pool_is s area pools begun is =
    let one = and_parts (leb (pool_at pools 0 + 4160) (2 ^ 64)) _ is in
    let two = and_parts (leb (count_of s 0 pools begun) 512) _ one.1 in
    record {
      low_pool = leb-true (pool_at pools 0 + 4160) (2 ^ 64) one.0;
      at_most = leb-true (count_of s 0 pools begun) 512 two.0;
      beside = they_lie (pool_at pools 0) 8 area 32 two.1;
    }

abbrev pub alloc_tested : (p : Slots) → IsTested (alloc_form p)
alloc_tested p = record {
  spans = λ s t begun.
      (pool_at (cells_of s p t begun) 0, 8)
      ∷ unless (eqb (count_of s 0 (cells_of s p t begun) begun) 0)
      (slot_at (pool_at (cells_of s p t begun) 0) (count_of s 0 (cells_of s p t begun) begun - 1)) 8;
  covers = λ s area t begun a has.
      spanned (among area.at 32 a) (among (pool_at (cells_of s p t begun) 0) 8 a)
      (eqb (count_of s 0 (cells_of s p t begun) begun) 0)
      (slot_at (pool_at (cells_of s p t begun) 0) (count_of s 0 (cells_of s p t begun) begun - 1)) 8 a has;
  is_apart = λ s area t begun. is_pool s area.at (cells_of s p t begun) begun;
  apart = λ s area t begun is. pool_is s area.at (cells_of s p t begun) begun is;
}

abbrev slot_behind : Setting → ℕ → History → ℕ
slot_behind s pools begun = slot_at (pool_at pools 0) (count_of s 0 pools begun)

abbrev is_free_apart : Setting → ℕ → ℕ → History → Bool
is_free_apart s area pools begun =
    is_pool s area pools begun
    && (eqb (count_of s 0 pools begun) 512 || lie_beside (slot_behind s pools begun) 8 area 32)

pub free_apart : (s : Setting) (area pools : ℕ) (begun : History) → is_free_apart s area pools begun ≡ true
    → IsFreeApart s area pools 0 begun
free_apart s area pools begun is =
    let one = and_parts (is_pool s area pools begun) _ is in
    record {
      is_pool = pool_is s area pools begun one.0;
      slot = λ room. by_way room (either (eqb (count_of s 0 pools begun) 512) _ one.1);
    }
  where
    by_way : count_of s 0 pools begun ≢ 512
        → (eqb (count_of s 0 pools begun) 512 ≡ true) ⊎ (lie_beside (slot_behind s pools begun) 8 area 32 ≡ true)
        → LieBeside (slot_behind s pools begun) 8 area 32
    by_way room (inl full) = absurd (false≢true (sym (ne_eqb (count_of s 0 pools begun) 512 room) ∙ full))
    by_way room (inr beside) = they_lie (slot_behind s pools begun) 8 area 32 beside

abbrev pub free_tested : (p : Slots) → IsTested (free_form p)
free_tested p = record {
  spans = λ s t begun.
      (pool_at (cells_of s p t begun) 0, 8)
      ∷ unless (eqb (count_of s 0 (cells_of s p t begun) begun) 512) (slot_behind s (cells_of s p t begun) begun) 8;
  covers = λ s area t begun a has.
      spanned (among area.at 32 a) (among (pool_at (cells_of s p t begun) 0) 8 a)
      (eqb (count_of s 0 (cells_of s p t begun) begun) 512) (slot_behind s (cells_of s p t begun) begun) 8 a has;
  is_apart = λ s area t begun. is_free_apart s area.at (cells_of s p t begun) begun;
  apart = λ s area t begun is. free_apart s area.at (cells_of s p t begun) begun is;
}

-- THE RING

pub last_three : (x y z u : Bool) → x || (y || (z || u)) ≡ true → x || (y || (z || (u || false))) ≡ true
last_three true y z u is = refl
last_three false y z u is = last_two y z u is

abbrev lies_beside_ring : ℕ → ℕ → ℕ → Bool
lies_beside_ring at n ring = lie_beside at n ring 16 && lie_beside at n (ring + 64) 4096

ring_beside : (at n ring : ℕ) → lies_beside_ring at n ring ≡ true → LieBesideRing at n ring
ring_beside at n ring is =
    let both = and_parts (lie_beside at n ring 16) (lie_beside at n (ring + 64) 4096) is in
    record { ends = they_lie at n ring 16 both.0; slots = they_lie at n (ring + 64) 4096 both.1 }

abbrev is_ring_apart : Setting → ℕ → ℕ → ℕ → ℕ → History → Bool
is_ring_apart s area ring value count begun =
    leb (ring + 4160) (2 ^ 64)
    && (leb (ring_held s 0 ring begun) 512
    && (leb (value + 8 * count) (2 ^ 64)
    && (lies_beside_ring area 32 ring
    && (lie_beside value (8 * count) area 32 && lies_beside_ring value (8 * count) ring))))

pub ring_apart : (s : Setting) (area ring value count : ℕ) (begun : History)
    → is_ring_apart s area ring value count begun ≡ true → IsRingApart s area ring value count 0 begun
ring_apart s area ring value count begun is =
    let one = and_parts (leb (ring + 4160) (2 ^ 64)) _ is in
    let two = and_parts (leb (ring_held s 0 ring begun) 512) _ one.1 in
    let three = and_parts (leb (value + 8 * count) (2 ^ 64)) _ two.1 in
    let four = and_parts (lies_beside_ring area 32 ring) _ three.1 in
    let five = and_parts (lie_beside value (8 * count) area 32) _ four.1 in
    record {
      low_ring = leb-true (ring + 4160) (2 ^ 64) one.0;
      at_most = leb-true (ring_held s 0 ring begun) 512 two.0;
      low_words = leb-true (value + 8 * count) (2 ^ 64) three.0;
      area_ring = ring_beside area 32 ring four.0;
      words_area = they_lie value (8 * count) area 32 five.0;
      words_ring = ring_beside value (8 * count) ring five.1;
    }

-- the ring and the words at the value, which both kinds use
abbrev ring_spans : ℕ → ℕ → ℕ → List (ℕ × ℕ)
ring_spans ring value count = (ring, 16) ∷ (ring + 64, 4096) ∷ (value, 8 * count) ∷ []

abbrev pub ring_put_tested : (count : ℕ) (p : Slots) → IsTested (ring_put_form count p)
ring_put_tested count p = record {
  spans = λ s t begun. ring_spans (ring_at (cells_of s p t begun) 0) (value_of s p t begun) count;
  covers = λ s area t begun a has.
      last_three (among area.at 32 a) (among (ring_at (cells_of s p t begun) 0) 16 a)
      (among (ring_at (cells_of s p t begun) 0 + 64) 4096 a) (among (value_of s p t begun) (8 * count) a) has;
  is_apart = λ s area t begun.
      is_ring_apart s area.at (ring_at (cells_of s p t begun) 0) (value_of s p t begun) count begun;
  apart = λ s area t begun is.
      ring_apart s area.at (ring_at (cells_of s p t begun) 0) (value_of s p t begun) count begun is;
}

abbrev pub ring_get_tested : (count : ℕ) (p : Slots) → IsTested (ring_get_form count p)
ring_get_tested count p = record {
  spans = (ring_put_tested count p).spans;
  covers = (ring_put_tested count p).covers;
  is_apart = (ring_put_tested count p).is_apart;
  apart = (ring_put_tested count p).apart;
}
