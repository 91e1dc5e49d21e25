-- What the sequences of both ring blocks have in common: one run of its thread alone, which reads head and tail,
-- tests how many words the ring holds, moves its words one by one, and stores the number that it counted on.
use Rattle.std.proofs.Common.{◌≡◌, ◌≢◌, ℕ, zero, suc, ◌+◌, ◌*◌, ◌<◌, ◌≤◌, ◌%◌, ◌^◌, List, [], ◌∷◌, ◌++◌, refl}
use Rattle.std.proofs.Common.{ap, ◌∙◌, subst, arith, eqb, Bool, true, false, not, inl, inr, ◌⊎◌, Some, pos, slice_get}
use Rattle.std.proofs.lemmas.Int.{ints}
use Rattle.mach_types.specs.Bytes.{word_at}
use Rattle.mach_types.specs.Registers.{register}
use Rattle.mach_types.specs.declared.sequences.Area.{Area}
use Rattle.mach_types.specs.declared.user_memory.Store.{Store}
use Rattle.rv_inst.specs.Execution.{seen_byte}
use Rattle.rv_inst.specs.Words.{one_if}
use Rattle.rv_inst.specs.declared.instruction.Inst.TheVariants as inst
use Rattle.alone.specs.Alone.{Stand}
use Rattle.alone.specs.Paths.{KeepsOn, Path}
use Rattle.alone.specs.Temps.{IsAt, put}
use Rattle.alone.proofs.Laws.{word_unchanged}
use Rattle.alone.proofs.Means.{means_add, means_addi, means_ld, means_sd, means_slli}
use Rattle.alone.proofs.Paths.{leaves, then_branch, then_load, then_next, then_store}
use Rattle.alone_laws.specs.Spans.{alone_from, code_of, sees}
use Rattle.block_model.specs.History.{History, stores}
use Rattle.block_model.specs.Setting.{Setting}
use Rattle.percpu_lib.specs.Forms.{Form, IsBlockPlace, committed}
use Rattle.percpu_lib.specs.RingForms.{IsRingApart, first_stores, ring_end, word_of, word_store}
use Rattle.percpu_lib.specs.RingKinds.{RingKind}
use Rattle.percpu_lib.specs.Words.{AreHeld, AreSlots, is_changed}
use Rattle.percpu_lib.specs.declared.slots.Slots.{Slots}
use Rattle.percpu_lib.proofs.Beginnings.{beginning, ring_seen}
use Rattle.percpu_lib.proofs.BlockCode.{IsFormed}
use Rattle.percpu_lib.proofs.CellPath.{BeginsSo, begins_of, sequence_at, to_cell}
use Rattle.percpu_lib.proofs.Changes.{area_not_changed, beside_value, cells_not_changed, put_same, some_value}
use Rattle.percpu_lib.proofs.Changes.{value_beside, value_changed}
use Rattle.percpu_lib.proofs.CourseLaw.{IsAfter, course_of, way}
use Rattle.percpu_lib.proofs.Courses.{IsCourse}
use Rattle.percpu_lib.proofs.RingData.{area_bytes, in_ring, loaded_is, raw, ring_pointer, word_low}
use Rattle.percpu_lib.proofs.RingMeans.{means_andi, slot_number}
use Rattle.percpu_lib.proofs.RingParts.{LiesSo}
use Rattle.percpu_lib.proofs.RingParts.{IsEnough, IsShort, compare_of, compares, exits, flag_of, form_by}
use Rattle.percpu_lib.proofs.RingParts.{formed_by, from_by, from_stays, from_used, front_of, good_of, insts_of, insts_six}
use Rattle.percpu_lib.proofs.RingParts.{into_by, into_pointer, into_used, is_enough, is_short, load_of, loads, moves_by}
use Rattle.percpu_lib.proofs.RingParts.{number_at, number_lies, offset_of, other_at, other_lies, other_of, save_of}
use Rattle.percpu_lib.proofs.RingParts.{saves, stays, sub_of, subtracts, test_of, words_by}
use Rattle.percpu_lib.proofs.RingPlaces.{slot_wraps}
use Rattle.percpu_lib.proofs.RingStores.{IsBeside, beside_first, beside_last}
use Rattle.percpu_lib.proofs.RingWords.{at_end, in_middle}

-- two flags are the same, or one is the other's opposite
either_flag : (a b : Bool) → (a ≡ b) ⊎ (a ≡ not b)
either_flag true true = inl refl
either_flag true false = inr refl
either_flag false true = inr refl
either_flag false false = inl refl

-- where a thread is about to begin the sequence of a block, and with how many words and which registers
pub record Site : Type 0 where
  pub s : Setting
  pub at : ℕ
  pub area : Area
  pub h : ℕ
  pub t : ℕ
  pub begun : History

pub record RingSize : Type 0 where
  pub count : ℕ
  pub some : 1 ≤ count
  pub many : count ≤ 4
  pub p : Slots
  pub slots : AreSlots p

-- a place at which it is about to begin that of a ring block of a kind
pub record RingPlace (k : RingKind) : Type 0 where
  pub site : Site
  pub size : RingSize
  pub standing : AreHeld (code_of site.s.program.pages) site.at (words_by k size.p size.count)
  pub place : IsBlockPlace site.s (form_by k size.count size.p) site.at site.area site.h site.t site.begun

abbrev pub place_by : (k : RingKind) (s : Setting) (count : ℕ) → 1 ≤ count → count ≤ 4 → (p : Slots) (at : ℕ)
    (area : Area) (h t : ℕ) (begun : History) → AreHeld (code_of s.program.pages) at (words_by k p count)
    → AreSlots p
    → IsBlockPlace s (form_by k count p) at area h t begun → RingPlace k
place_by k s count some many p at area h t begun standing slots place = record {
  site = record { s = s; at = at; area = area; h = h; t = t; begun = begun };
  size = record { count = count; some = some; many = many; p = p; slots = slots };
  standing = standing;
  place = place;
}

module _ (k : RingKind) (r : RingPlace k) where
  open r use {site.{s, at, area, h, t, begun}, size.{count, some, many, p, slots}, standing, place}

  abbrev pub form : Form
  form = form_by k count p

  abbrev formed : IsFormed form
  formed = formed_by k count many p

  begins_so : BeginsSo form 13 8192
  begins_so =
      begins_of form 13 8192 refl refl refl refl (omega arith) refl refl (area_not_changed p slots)
      (cells_not_changed p slots) (λ cpu few. omega arith)

  open (beginning s p h t begun) use {old, seen, cells as rings, ring, value, pool_temps as temps_0}
  open (ring_seen s h ring begun) use {holds}

  abbrev first_at : ℕ
  first_at = number_at k ring

  abbrev second_at : ℕ
  second_at = other_at k ring

  abbrev number : ℕ
  number = word_of s h first_at begun

  abbrev other_number : ℕ
  other_number = word_of s h second_at begun

  abbrev word : ℕ → ℕ
  word j = word_of s h (from_by k ring value number j) begun

  abbrev pub store : ℕ → Store
  store j = word_store (into_by k ring value number j) (word j)

  abbrev pub last_store : Store
  last_store = word_store first_at ((number + count) % 2 ^ 64)

  abbrev Enough : Type 0
  Enough = IsEnough k holds count

  -- inside the first words are stored, and none where it isn't enough; at the end nothing is, or all words and the
  -- number
  abbrev pub Inside : List Store → Type 0
  Inside es = (j : ℕ) × (j ≤ count) × (j ≢ 0 → Enough) × (es ≡ first_stores store j)

  abbrev pub Done : (ℕ → ℕ) → List Store → Type 0
  Done temps es =
      (IsShort k holds count × (temps p.value ≡ 0) × (es ≡ []))
      ⊎ (Enough × (temps p.value ≡ value) × (es ≡ first_stores store count ++ last_store ∷ []))

  abbrev w : Path
  w = way s form at area h t begun Inside Done

  none_yet : Inside []
  none_yet = (0, omega arith, λ more. absurd (more refl), refl)

  abbrev flag : Bool
  flag = flag_of k holds count

  abbrev good : Bool
  good = good_of k

  abbrev pub apart : IsRingApart s area.at ring value count h begun
  apart = place.apart

  open (sequence_at form at formed place.low) use {here, out}

  -- before word j: x5 is the ring, x6 the number of the word
  pub record IsReady (j : ℕ) (temps : ℕ → ℕ) : Type 0 where
    pub five : temps 5 ≡ ring
    pub six : temps 6 ≡ (number + j) % 2 ^ 64
    pub value_is : temps p.value ≡ value

  -- x7 is 64 bytes before the slot of word j
  abbrev pub at_slot : ℕ → (ℕ → ℕ) → ℕ → ℕ
  at_slot j temps =
      put 7 (ring + 8 * ((number + j) % 512))
      (put 7 (8 * ((number + j) % 512)) (put 7 ((number + j) % 512) temps))

  abbrev pub base : ℕ → ℕ
  base j = 17 + 6 * j

  abbrev pub Goes : ℕ → (ℕ → ℕ) → ℕ → ℕ → (ℕ → ℕ) → ℕ → Type 0
  Goes from temps j upto after n =
      (y : Stand) → IsAt (is_changed p) old (at + 4 * from) temps (first_stores store j) y
      → ((z : Stand) → IsAt (is_changed p) old (at + 4 * upto) after (first_stores store n) z → KeepsOn w z)
      → KeepsOn w y

  pub word_there : (j : ℕ) → j < count → (i : ℕ) → i < 6
      → slice_get form.words (base j + i) ≡ slice_get ((insts_of k p) j) i
  word_there j lt i less =
      in_middle (insts_of k p) (insts_six k p) (front_of k p count) (ring_end p count (offset_of k)) refl count j i
      lt less

  -- THE WORDS ARE MOVED

  module _ (room : Enough) where
    module _ (j : ℕ) (lt : j < count) (temps : ℕ → ℕ) (ready : IsReady j temps) where
      abbrev slot : ℕ
      slot = (number + j) % 512

      abbrev temps_6 : ℕ → ℕ
      temps_6 = put 6 ((number + suc j) % 2 ^ 64) (put 29 (word j) (at_slot j temps))

      value_there : at_slot j temps p.value ≡ value
      value_there =
          value_beside p slots 7 (ring + 8 * slot) (put 7 (8 * slot) (put 7 slot temps)) refl
          ∙ value_beside p slots 7 (8 * slot) (put 7 slot temps) refl
          ∙ value_beside p slots 7 slot temps refl
          ∙ ready.value_is

      value_moved : put 29 (word j) (at_slot j temps) p.value ≡ value
      value_moved = value_beside p slots 29 (word j) (at_slot j temps) refl ∙ value_there

      next_ready : IsReady (suc j) temps_6
      next_ready = record {
        five = ready.five;
        six = refl;
        value_is =
            value_beside p slots 6 ((number + suc j) % 2 ^ 64) (put 29 (word j) (at_slot j temps)) refl
            ∙ value_moved;
      }

      first_there : slice_get form.words (base j) ≡ Some (Some (inst.Andi 7 6 (pos 511)))
      first_there =
          let here : base j ≡ base j + 0 = omega arith in
          ap (slice_get form.words) here ∙ word_there j lt 0 (omega arith) ∙ (moves_by k p j).andi

      so_far : (i : ℕ) → i ≤ count → Inside (first_stores store i)
      so_far i few = (i, few, λ more. room, refl)

      -- to the slot of the word
      finds : Goes (base j) temps j (base j + 3) (at_slot j temps) j
      finds y was rest =
          let low = place.low in
          let low_ring = apart.low_ring in
          then_next w (at + 4 * base j) temps (first_stores store j) y was
          (here (base j) (omega arith) (omega arith)) (so_far j (omega arith))
          (inst.Andi 7 6 (pos 511))
          (standing.holds (base j) (inst.Andi 7 6 (pos 511)) first_there)
          7 slot (at + 4 * (base j + 1))
          (λ f like. means_andi f (at + 4 * base j) (at + 4 * (base j + 1)) (omega arith) 7 6 (pos 511)
          ((number + j) % 2 ^ 64)
          slot (like.temp 6 refl ∙ ready.six) (slot_number ((number + j) % 2 ^ 64) ∙ slot_wraps (number + j)))
          refl refl (omega arith) (omega arith) (omega arith)
          (λ z now.
          then_next w (at + 4 * (base j + 1)) (put 7 slot temps) (first_stores store j) z now
          (here (base j + 1) (omega arith) (omega arith)) (so_far j (omega arith)) (inst.Slli 7 7 3)
          (standing.holds (base j + 1) (inst.Slli 7 7 3) (word_there j lt 1 (omega arith) ∙ (moves_by k p j).slli))
          7 (8 * slot) (at + 4 * (base j + 2))
          (λ f like. means_slli f (at + 4 * (base j + 1)) (at + 4 * (base j + 2)) (omega arith) 7 7 3 slot
          (8 * slot) (like.temp 7 refl) (omega arith))
          refl refl (omega arith) (omega arith) (omega arith)
          (λ u then.
          then_next w (at + 4 * (base j + 2)) (put 7 (8 * slot) (put 7 slot temps)) (first_stores store j) u then
          (here (base j + 2) (omega arith) (omega arith)) (so_far j (omega arith)) (inst.Add 7 7 5)
          (standing.holds (base j + 2) (inst.Add 7 7 5) (word_there j lt 2 (omega arith) ∙ (moves_by k p j).add))
          7 (ring + 8 * slot) (at + 4 * (base j + 3))
          (λ f like. means_add f (at + 4 * (base j + 2)) (at + 4 * (base j + 3)) (omega arith) 7 7 5 (8 * slot)
          ring (ring + 8 * slot) (like.temp 7 refl) (like.temp 5 refl ∙ ready.five) (omega arith))
          refl refl (omega arith) (omega arith) (omega arith) rest))

      -- it is moved
      moves : Goes (base j + 3) (at_slot j temps) j (base j + 5) (put 29 (word j) (at_slot j temps)) (suc j)
      moves y was rest =
          let low = place.low in
          let low_ring = apart.low_ring in
          let low_words = apart.low_words in
          let from = from_by k ring value number j in
          let fits : value + 8 * suc j ≤ 2 ^ 64 = omega arith in
          then_load w (at + 4 * (base j + 3)) (at_slot j temps) (first_stores store j) y was
          (here (base j + 3) (omega arith) (omega arith)) (so_far j (omega arith)) (load_of k p j)
          (standing.holds (base j + 3) (load_of k p j) (word_there j lt 3 (omega arith) ∙ (moves_by k p j).load))
          from 8 29 (raw s h begun area.at ring value count apart from).0 (at + 4 * (base j + 4)) true
          (λ f like. loads k p f (at + 4 * (base j + 3)) ring value number j low_ring fits (like.temp 7 refl)
          (like.temp p.value (value_changed p) ∙ value_there))
          (from_used s h begun area.at ring value count apart k number j lt)
          (from_stays s h begun area.at ring value count apart k number word j lt
          ∙ (raw s h begun area.at ring value count apart from).1)
          refl refl (omega arith) (omega arith) (omega arith) (omega arith)
          (λ z now.
          then_store w (at + 4 * (base j + 4)) (put 29 (word j) (at_slot j temps)) (first_stores store j) z
          (subst (λ n. IsAt (is_changed p) old (at + 4 * (base j + 4)) (put 29 n (at_slot j temps))
          (first_stores store j) z) (loaded_is s h begun area.at ring value count apart from) now)
          (here (base j + 4) (omega arith) (omega arith)) (so_far j (omega arith)) (save_of k p j)
          (standing.holds (base j + 4) (save_of k p j) (word_there j lt 4 (omega arith) ∙ (moves_by k p j).save))
          (into_by k ring value number j) 8 (word j) (at + 4 * (base j + 5))
          (λ f like. saves k p f (at + 4 * (base j + 4)) ring value number j (word j) low_ring fits
          (word_low s h begun area.at ring value count apart from) (like.temp 7 refl)
          (like.temp p.value (value_changed p) ∙ value_moved) (like.temp 29 refl))
          (into_used s h begun area.at ring value count apart k number j lt) (omega arith) (omega arith)
          (omega arith) rest)

      -- and on to the next one
      counts_on : Goes (base j + 5) (put 29 (word j) (at_slot j temps)) (suc j) (base (suc j)) temps_6 (suc j)
      counts_on y was rest =
          let low = place.low in
          then_next w (at + 4 * (base j + 5)) (put 29 (word j) (at_slot j temps)) (first_stores store (suc j)) y
          was
          (here (base j + 5) (omega arith) (omega arith)) (so_far (suc j) (omega arith)) (inst.Addi 6 6 (pos 1))
          (standing.holds (base j + 5) (inst.Addi 6 6 (pos 1))
          (word_there j lt 5 (omega arith) ∙ (moves_by k p j).addi))
          6 ((number + suc j) % 2 ^ 64) (at + 4 * base (suc j))
          (λ f like. means_addi f (at + 4 * (base j + 5)) (at + 4 * base (suc j)) (omega arith) 6 6 (pos 1)
          ((number + j) % 2 ^ 64) ((number + suc j) % 2 ^ 64) (like.temp 6 refl ∙ ready.six) (omega arith))
          refl refl (omega arith) (omega arith) (omega arith) rest

      goes : Goes (base j) temps j (base (suc j)) temps_6 (suc j)
      goes y was rest =
          finds y was (λ z now. moves z now (λ u then. counts_on u then rest))

    -- behind the last word the number is stored
    commits : (temps : ℕ → ℕ) → IsReady count temps → (y : Stand)
        → IsAt (is_changed p) old (at + 4 * base count) temps (first_stores store count) y → KeepsOn w y
    commits temps ready y was =
        let low = place.low in
        let low_ring = apart.low_ring in
        let first_is = (number_lies k ring).is in
        let low_first = (number_lies k ring).low in
        let none_behind : base count ≡ base count + 0 = omega arith in
        then_store w (at + 4 * base count) temps (first_stores store count) y was
        (here (base count) (omega arith) (omega arith)) (count, omega arith, λ more. room, refl)
        (inst.Sd 5 6 (pos (offset_of k)))
        (standing.holds (base count) (inst.Sd 5 6 (pos (offset_of k)))
        (ap (slice_get form.words) none_behind
        ∙ at_end (insts_of k p) (insts_six k p) (front_of k p count) (ring_end p count (offset_of k)) refl count 0))
        first_at 8 ((number + count) % 2 ^ 64) (at + 4 * committed form)
        (λ f like. means_sd f (at + 4 * base count) 5 6 (pos (offset_of k)) ring first_at ((number + count) % 2 ^ 64)
        ((number + count) % 2 ^ 64) (like.temp 5 refl ∙ ready.five) (omega (arith, ints))
        (like.temp 6 refl ∙ ready.six) (omega arith))
        (in_ring s h begun area.at ring value count apart first_at (number_lies k ring).its)
        (omega arith) (omega arith) (omega arith)
        (λ v last. leaves w (at + 4 * committed form) _ _ v last out
        (inr (refl, inr (room, ready.value_is, refl))))

    each_word : (n j : ℕ) → j + n ≡ count → (temps : ℕ → ℕ) → IsReady j temps → (y : Stand)
        → IsAt (is_changed p) old (at + 4 * base j) temps (first_stores store j) y → KeepsOn w y
    each_word zero j sum temps ready y was =
        let same : j ≡ count = omega arith in
        commits temps (subst (λ m. IsReady m temps) same ready) y
        (subst (λ m. IsAt (is_changed p) old (at + 4 * base m) temps (first_stores store m) y) same was)
    each_word (suc n) j sum temps ready y was =
        goes j (omega arith) temps ready y was
        (λ z now. each_word n (suc j) (omega arith) (temps_6 j (omega arith) temps ready)
        (next_ready j (omega arith) temps ready) z now)

  -- THE TEST

  abbrev temps_1 : ℕ → ℕ
  temps_1 = put 28 value temps_0

  abbrev temps_2 : ℕ → ℕ
  temps_2 = put 7 other_number (put 6 number temps_1)

  abbrev temps_4 : ℕ → ℕ
  temps_4 = put 7 (one_if flag) (put 7 holds temps_2)

  abbrev temps_5 : ℕ → ℕ
  temps_5 = put p.value 0 temps_4

  seven : temps_5 7 ≡ one_if flag
  seven = beside_value p slots 7 0 temps_4 refl

  value_0 : temps_0 p.value ≡ value
  value_0 =
      value_beside p slots 5 ring (put 5 (8192 * h) (put 6 h (register old))) refl
      ∙ value_beside p slots 5 (8192 * h) (put 6 h (register old)) refl
      ∙ value_beside p slots 6 h (register old) refl

  small_value : value < 2 ^ 64
  small_value = let low_words = apart.low_words in let one = some in omega arith

  -- the copy of the value
  copy_5 : temps_5 28 ≡ value
  copy_5 = beside_value p slots 28 0 temps_4 refl

  -- it isn't enough
  ends : (y : Stand) → IsAt (is_changed p) old (at + 60) temps_5 [] y → flag ≡ not good → KeepsOn w y
  ends y was isnt =
      let low = place.low in
      let even = place.aligned in
      then_branch w (at + 60) temps_5 [] y was (here 15 (omega arith) (omega arith)) none_yet (test_of k count)
      (standing.holds 15 (test_of k count) refl) 0 (at + 4 * committed form)
      (λ f like. exits k count flag isnt f (at + 60) (at + 4 * committed form) (omega (arith, ints)) (omega arith)
      (like.temp 7 refl ∙ seven)) (inr out)
      (λ v last. leaves w (at + 4 * committed form) _ _ v last out
      (inr (refl, inl (is_short k holds count many isnt, put_same p.value 0 temps_4, refl))))

  -- it is: the value is brought back, and the words are moved
  begins : (y : Stand) → IsAt (is_changed p) old (at + 60) temps_5 [] y → flag ≡ good → KeepsOn w y
  begins y was fits =
      let low = place.low in
      let small = small_value in
      then_branch w (at + 60) temps_5 [] y was (here 15 (omega arith) (omega arith)) none_yet (test_of k count)
      (standing.holds 15 (test_of k count) refl) 0 (at + 64)
      (λ f like. stays k count flag fits f (at + 60) (at + 64) (omega arith) (like.temp 7 refl ∙ seven))
      (inl ((omega arith), (omega arith)))
      (λ z now.
      then_next w (at + 64) temps_5 [] z now (here 16 (omega arith) (omega arith)) none_yet
      (inst.Addi p.value 28 (pos 0)) (standing.holds 16 (inst.Addi p.value 28 (pos 0)) refl) p.value value
      (at + 68)
      (λ f like. means_addi f (at + 64) (at + 68) (omega arith) p.value 28 (pos 0) value value
      (like.temp 28 refl ∙ copy_5) (omega arith))
      (value_changed p) (some_value p slots) slots.low_value (omega arith) (omega arith)
      (λ u then. each_word (is_enough k holds count many fits) count 0 (omega arith) (put p.value value temps_5)
      ready_first u
      (subst (λ n. IsAt (is_changed p) old n (put p.value value temps_5) [] u) (omega arith) then)))
    where
      ready_first : IsReady 0 (put p.value value temps_5)
      ready_first = record {
        five = beside_value p slots 5 value temps_5 refl ∙ beside_value p slots 5 0 temps_4 refl;
        six = beside_value p slots 6 value temps_5 refl ∙ beside_value p slots 6 0 temps_4 refl
            ∙ small_number (word_low s h begun area.at ring value count apart first_at);
        value_is = put_same p.value value temps_5;
      }
        where
          small_number : number < 2 ^ 64 → number ≡ (number + 0) % 2 ^ 64
          small_number small = omega arith

  by_flag : (y : Stand) → IsAt (is_changed p) old (at + 60) temps_5 [] y → (flag ≡ good) ⊎ (flag ≡ not good)
      → KeepsOn w y
  by_flag y was (inl is) = begins y was is
  by_flag y was (inr isnt) = ends y was isnt

  -- a number of the ring is loaded into a register
  reads : (n rd from offset : ℕ) (temps : ℕ → ℕ)
      → slice_get form.words n ≡ Some (Some (inst.Ld rd 5 (pos offset))) → 5 ≤ n → n < 18 + 6 * count
      → is_changed p rd ≡ true → eqb rd 0 ≡ false → rd < 32 → temps 5 ≡ ring → LiesSo offset from ring → (y : Stand)
      → IsAt (is_changed p) old (at + 4 * n) temps [] y
      → ((z : Stand) → IsAt (is_changed p) old (at + 4 * (n + 1)) (put rd (word_of s h from begun) temps) [] z
      → KeepsOn w z)
      → KeepsOn w y
  reads n rd from offset temps there past before may some_rd few five lies y was rest =
      let low = place.low in
      let low_ring = apart.low_ring in
      let is = lies.is in
      let small = lies.low in
      then_load w (at + 4 * n) temps [] y was (here n (omega arith) (omega arith)) none_yet
      (inst.Ld rd 5 (pos offset))
      (standing.holds n (inst.Ld rd 5 (pos offset)) there)
      from 8 rd (raw s h begun area.at ring value count apart from).0 (at + 4 * (n + 1)) true
      (λ f like. means_ld f (at + 4 * n) rd 5 (pos offset) ring from (like.temp 5 refl ∙ five)
      (omega (arith, ints)))
      (in_ring s h begun area.at ring value count apart from lies.its)
      (word_unchanged seen from 8 ∙ (raw s h begun area.at ring value count apart from).1) may some_rd few
      (omega arith) (omega arith) (omega arith)
      (λ z next. rest z
      (subst (λ v. IsAt (is_changed p) old (at + 4 * (n + 1)) (put rd v temps) [] z)
      (loaded_is s h begun area.at ring value count apart from) next))

  pub keeps : KeepsOn w (alone_from s h t begun 0)
  keeps =
      let low = place.low in
      let low_ring = apart.low_ring in
      to_cell s form at area h t begun Inside Done formed standing place 13 8192 begins_so none_yet
      (area_bytes s h begun area.at ring value count apart) rings refl (omega arith)
      (λ y now.
      then_next w (at + 36) temps_0 [] y now (here 9 (omega arith) (omega arith)) none_yet
      (inst.Addi 28 p.value (pos 0)) (standing.holds 9 (inst.Addi 28 p.value (pos 0)) refl) 28 value (at + 40)
      (λ f like. means_addi f (at + 36) (at + 40) (omega arith) 28 p.value (pos 0) value value
      (like.temp p.value (value_changed p) ∙ value_0) (omega (arith, small_value)))
      refl refl (omega arith) (omega arith) (omega arith)
      (λ b copied.
      reads 10 6 first_at (offset_of k) temps_1 refl (omega arith) (omega arith) refl refl (omega arith) refl
      (number_lies k ring) b copied
      (λ z next.
      reads 11 7 second_at (other_of k) (put 6 number temps_1) refl (omega arith) (omega arith) refl refl
      (omega arith) refl (other_lies k ring) z next
      (λ u then.
      then_next w (at + 48) temps_2 [] u then
      (here 12 (omega arith) (omega arith)) none_yet (sub_of k) (standing.holds 12 (sub_of k) refl) 7 holds
      (at + 52)
      (λ f like. subtracts k s h ring begun f (at + 48) (at + 52) (omega arith) (like.temp 6 refl)
      (like.temp 7 refl))
      refl refl (omega arith) (omega arith) (omega arith)
      (λ v last.
      then_next w (at + 52) (put 7 holds temps_2) [] v last (here 13 (omega arith) (omega arith)) none_yet
      (compare_of k count) (standing.holds 13 (compare_of k count) refl) 7 (one_if flag) (at + 56)
      (λ f like. compares k count holds many f (at + 52) (at + 56) (omega arith) (like.temp 7 refl)) refl refl
      (omega arith) (omega arith) (omega arith)
      (λ x_14 more.
      then_next w (at + 56) temps_4 [] x_14 more (here 14 (omega arith) (omega arith)) none_yet
      (inst.Addi p.value 0 (pos 0)) (standing.holds 14 (inst.Addi p.value 0 (pos 0)) refl) p.value 0 (at + 60)
      (λ f like. means_addi f (at + 56) (at + 60) (omega arith) p.value 0 (pos 0) 0 0 refl refl)
      (value_changed p) (some_value p slots) slots.low_value (omega arith) (omega arith)
      (λ c done. by_flag c done (either_flag flag good))))))))

  -- WHAT WAS DONE

  abbrev pub After : (ℕ → ℕ) → List Store → History → Type 0
  After temps es last = IsAfter s form at area h t begun Inside Done temps es last

  abbrev pub Stays : List Store → ℕ → Type 0
  Stays es from = word_at (seen_byte es seen) from 8 ≡ word_at seen from 8

  -- what was executed
  pub executed : (temps : ℕ → ℕ) (es : List Store) (last : History) → After temps es last → (ys : List Store)
      → es ≡ ys → stores h last ≡ stores h begun ++ ys
  executed temps es last after ys is = after.stored ∙ ap (λ (x : List Store). stores h begun ++ x) is

  -- the same of equal stores
  pub stays_so : (xs ys : List Store) → xs ≡ ys → (from : ℕ) → Stays ys from → Stays xs from
  stays_so xs ys is from stays = ap (λ (x : List Store). word_at (seen_byte x seen) from 8) is ∙ stays

  -- the number lies beside what it leaves
  pub beside_number : (es : List Store) (from : ℕ) → IsBeside last_store from 8 → Stays es from
      → Stays (es ++ last_store ∷ []) from
  beside_number es from beside stays = beside_last (sees s h begun) es last_store from 8 beside ∙ stays

  -- the pointer of the area stays
  first_pointer : (j : ℕ) → j ≤ count → Stays (first_stores store j) (area.at + 8)
  first_pointer j few =
      beside_first (sees s h begun) store j (area.at + 8) 8
      (λ i lt. into_pointer s h begun area.at ring value count apart k number i (omega arith))

  points : (es : List Store) → Inside es → Stays es (area.at + 8)
  points es so_far =
      stays_so es (first_stores store so_far.0) so_far.3 (area.at + 8) (first_pointer so_far.0 so_far.1)

  points_done : (temps : ℕ → ℕ) (es : List Store) → Done temps es → Stays es (area.at + 8)
  points_done temps es (inl short) = stays_so es [] short.2 (area.at + 8) (first_pointer 0 (omega arith))
  points_done temps es (inr done) =
      stays_so es (first_stores store count ++ last_store ∷ []) done.2 (area.at + 8)
      (beside_number (first_stores store count) (area.at + 8)
      (ring_pointer s h begun area.at ring value count apart first_at (number_lies k ring).its)
      (first_pointer count (omega arith)))

  -- its course, once it is known what was done inside and at the end
  pub course_by : ((temps : ℕ → ℕ) (es : List Store) (last : History) → After temps es last → Inside es
      → form.Partial s h t begun last)
      → ((temps : ℕ → ℕ) (es : List Store) (last : History) → After temps es last → Done temps es
      → form.Whole s h t begun last) → IsCourse s form at area h t begun
  course_by partial whole =
      course_of s form at area h t begun Inside Done formed place
      (record {
        keeps = keeps;
        nothing = none_yet;
        area_bytes = area_bytes s h begun area.at ring value count apart;
        points = points;
        points_done = points_done;
        partial = partial;
        whole = whole;
      })
