-- A sequence of a free block is one run of its thread alone, and so puts its value into the pool once or not
-- at all.
use Rattle.std.proofs.Common.{◌≡◌, ◌≢◌, ℕ, ◌+◌, ◌*◌, ◌≤◌, ◌%◌, ◌^◌, List, [], ◌∷◌, ◌++◌, refl, ap}
use Rattle.std.proofs.Common.{◌∙◌, subst, arith, Bool, true, false, eqb, Option, Some, inl}
use Rattle.std.proofs.Common.{inr, ◌⊎◌, pos, unwrap_or}
use Rattle.std.proofs.lemmas.Bool.{eqb-false, eqb-true}
use Rattle.mach_types.specs.Bytes.{byte_over, word_at}
use Rattle.mach_types.specs.Registers.{register}
use Rattle.mach_types.specs.declared.sequences.Area.{Area}
use Rattle.mach_types.specs.declared.user_memory.Store.{Store}
use Rattle.rv_inst.specs.Execution.{seen_byte}
use Rattle.rv_inst.specs.Memory.{loaded}
use Rattle.rv_inst.specs.declared.instruction.Inst.TheVariants as inst
use Rattle.alone.specs.Alone.{Stand}
use Rattle.alone.specs.Paths.{KeepsOn, Path}
use Rattle.alone.specs.Temps.{IsAt, put}
use Rattle.alone.proofs.Laws.{loaded_word}
use Rattle.alone.proofs.Means.{means_add, means_addi, means_sd, means_slli}
use Rattle.alone.proofs.Paths.{leaves, then_branch, then_next, then_store}
use Rattle.alone_laws.specs.Spans.{alone_from, code_of, sees}
use Rattle.alone_laws.proofs.StoredWords.{beside_word, some_word, stored_word}
use Rattle.block_model.specs.History.{History, stores}
use Rattle.block_model.specs.Setting.{Setting}
use Rattle.percpu_lib.specs.Forms.{IsBlockPlace}
use Rattle.percpu_lib.specs.Frees.{Frees, FreesNoMore, fills_none, fills_slot, free_block}
use Rattle.percpu_lib.specs.Frees.{free_form, frees_none, frees_slot}
use Rattle.percpu_lib.specs.Kinds as kind
use Rattle.percpu_lib.specs.Pools.{count_of, count_seen, count_store, slot_at, slot_store}
use Rattle.percpu_lib.specs.Words.{AreHeld, AreSlots, is_changed}
use Rattle.percpu_lib.specs.declared.slots.Slots.{Slots}
use Rattle.percpu_lib.proofs.CellPath.{sequence_at, to_word}
use Rattle.percpu_lib.proofs.Beginnings.{beginning}
use Rattle.percpu_lib.proofs.BlockWords.{beside_pointer}
use Rattle.percpu_lib.proofs.Changes.{beside_value, means_beq_not}
use Rattle.percpu_lib.proofs.Changes.{means_beq_taken, put_same, some_value}
use Rattle.percpu_lib.proofs.Changes.{value_beside, value_changed}
use Rattle.percpu_lib.proofs.CourseLaw.{HasPath, IsAfter, SomePath, has_course, same_stores, same_word}
use Rattle.percpu_lib.proofs.CourseLaw.{unstored, way}
use Rattle.percpu_lib.proofs.Courses.{HasCourse}
use Rattle.percpu_lib.proofs.FormedBlocks.{block_begins, block_formed}
use Rattle.percpu_lib.proofs.UsedWords.{words_used}

module _ (s : Setting) (p : Slots) (at : ℕ) (area : Area) (h t : ℕ) (begun : History)
    (held : AreHeld (code_of s.program.pages) at (free_block p)) (slots : AreSlots p)
    (place : IsBlockPlace s (free_form p) at area h t begun) where
  open (beginning s p h t begun) use {old, seen, cells as pools, pool, value, pool_temps as temps_0}

  abbrev count : ℕ
  count = count_of s h pools begun

  abbrev slot : ℕ
  slot = slot_at pool count

  -- the word of the count
  count_word : (w : ℕ) × (count_seen s h pools begun ≡ Some w)
  count_word = some_word (sees s h begun) pool 8

  most : count ≤ 512
  most = place.apart.is_pool.at_most

  count_is : loaded count_word.0 8 true ≡ count
  count_is =
      let same : count ≡ count_word.0 = ap (λ (o : Option ℕ). unwrap_or o 0) count_word.1 in
      let few = most in
      loaded_word count_word.0 ∙ omega arith

  abbrev filled : Store
  filled = slot_store pool count (value % 2 ^ 64)

  -- inside nothing is stored, or the slot behind the items; at the end nothing, or that and the count and 1
  abbrev Inside : List Store → Type 0
  Inside es = (es ≡ []) ⊎ ((eqb count 512 ≡ false) × (es ≡ filled ∷ []))

  abbrev Done : (ℕ → ℕ) → List Store → Type 0
  Done temps es =
      ((eqb count 512 ≡ true) × (temps p.value ≡ value) × (es ≡ []))
      ⊎ ((eqb count 512 ≡ false) × (temps p.value ≡ 0) × (es ≡ filled ∷ count_store pool (count + 1) ∷ []))

  abbrev w : Path
  w = way s (free_form p) at area h t begun Inside Done

  open (words_used area.at pool slot (eqb count 512)) use {area_bytes, in_first as in_count, in_second as in_slot}
  open (sequence_at (free_form p) at (block_formed kind.frees p) place.low) use {here, out}

  -- THE PATH

  abbrev temps_2 : ℕ → ℕ
  temps_2 = put 7 512 (put 6 count temps_0)

  abbrev temps_4 : ℕ → ℕ
  temps_4 = put 7 (pool + 8 * count) (put 7 (8 * count) temps_2)

  value_2 : temps_2 p.value ≡ value
  value_2 =
      value_beside p slots 7 512 (put 6 count temps_0) refl ∙ value_beside p slots 6 count temps_0 refl
      ∙ value_beside p slots 5 (pools + 8192 * h) (put 5 (8192 * h) (put 6 h (register old))) refl
      ∙ value_beside p slots 5 (8192 * h) (put 6 h (register old)) refl
      ∙ value_beside p slots 6 h (register old) refl

  value_4 : temps_4 p.value ≡ value
  value_4 = value_beside p slots 7 (pool + 8 * count) (put 7 (8 * count) temps_2) refl
      ∙ value_beside p slots 7 (8 * count) temps_2 refl ∙ value_2

  -- the pool is full
  ends : (y : Stand) → IsAt (is_changed p) old (at + 44) temps_2 [] y → eqb count 512 ≡ true → KeepsOn w y
  ends y was full =
      let low = place.low in
      let even = place.aligned in
      then_branch w (at + 44) _ [] y was (here 11 (omega arith) (omega arith)) (inl refl)
      (inst.Beq 6 7 (pos 28)) (held.holds 11 (inst.Beq 6 7 (pos 28)) refl) 0 (at + 72)
      (λ f like. means_beq_taken f (at + 44) 6 7 (pos 28) count 512 (at + 72) (like.temp 6 refl)
      (like.temp 7 refl) full
      (omega arith) (omega arith))
      (inr out)
      (λ v last. leaves w (at + 72) _ _ v last out (inr (refl, inl (full, value_2, refl))))

  -- it isn't: the address of the slot behind the items
  finds : (y : Stand) → IsAt (is_changed p) old (at + 44) temps_2 [] y → eqb count 512 ≡ false
      → ((z : Stand) → IsAt (is_changed p) old (at + 56) temps_4 [] z → KeepsOn w z) → KeepsOn w y
  finds y was free rest =
      let low = place.low in
      let low_pool = place.apart.is_pool.low_pool in
      let few = most in
      then_branch w (at + 44) _ [] y was (here 11 (omega arith) (omega arith)) (inl refl)
      (inst.Beq 6 7 (pos 28)) (held.holds 11 (inst.Beq 6 7 (pos 28)) refl) 0 (at + 48)
      (λ f like. means_beq_not f (at + 44) (at + 48) (omega arith) 6 7 (pos 28) count 512
      (like.temp 6 refl) (like.temp 7 refl) free)
      (inl ((omega arith), (omega arith)))
      (λ z now.
      then_next w (at + 48) _ [] z now (here 12 (omega arith) (omega arith)) (inl refl)
      (inst.Slli 7 6 3) (held.holds 12 (inst.Slli 7 6 3) refl) 7 (8 * count) (at + 52)
      (λ f like. means_slli f (at + 48) (at + 52) (omega arith) 7 6 3 count (8 * count) (like.temp 6 refl)
      (omega arith))
      refl refl (omega arith) (omega arith) (omega arith)
      (λ v next.
      then_next w (at + 52) _ [] v next (here 13 (omega arith) (omega arith)) (inl refl)
      (inst.Add 7 7 5) (held.holds 13 (inst.Add 7 7 5) refl) 7 (pool + 8 * count) (at + 56)
      (λ f like. means_add f (at + 52) (at + 56) (omega arith) 7 7 5 (8 * count) pool (pool + 8 * count)
      (like.temp 7 refl) (like.temp 5 refl) (omega arith))
      refl refl (omega arith) (omega arith) (omega arith) rest))

  -- and fills it
  fills : (y : Stand) → IsAt (is_changed p) old (at + 56) temps_4 [] y → eqb count 512 ≡ false → KeepsOn w y
  fills y was free =
      let low = place.low in
      let low_pool = place.apart.is_pool.low_pool in
      let few = most in
      let room : count ≢ 512 = eqb-false count 512 free in
      then_store w (at + 56) _ [] y was (here 14 (omega arith) (omega arith)) (inl refl)
      (inst.Sd 7 p.value (pos 64)) (held.holds 14 (inst.Sd 7 p.value (pos 64)) refl)
      slot 8 (value % 2 ^ 64) (at + 60)
      (λ f like. means_sd f (at + 56) 7 p.value (pos 64) (pool + 8 * count) slot value (value % 2 ^ 64)
      (like.temp 7 refl) (omega arith) (like.temp p.value (value_changed p) ∙ value_4) refl)
      (in_slot free) (omega arith) (omega arith) (omega arith)
      (λ z now.
      then_next w (at + 60) _ (filled ∷ []) z now (here 15 (omega arith) (omega arith)) (inr (free, refl))
      (inst.Addi 6 6 (pos 1)) (held.holds 15 (inst.Addi 6 6 (pos 1)) refl) 6 (count + 1) (at + 64)
      (λ f like. means_addi f (at + 60) (at + 64) (omega arith) 6 6 (pos 1) count (count + 1)
      (like.temp 6 refl)
      (omega arith))
      refl refl (omega arith) (omega arith) (omega arith)
      (λ u then.
      then_next w (at + 64) _ (filled ∷ []) u then (here 16 (omega arith) (omega arith)) (inr (free, refl))
      (inst.Addi p.value 0 (pos 0)) (held.holds 16 (inst.Addi p.value 0 (pos 0)) refl) p.value 0 (at + 68)
      (λ f like. means_addi f (at + 64) (at + 68) (omega arith) p.value 0 (pos 0) 0 0 refl refl)
      (value_changed p) (some_value p slots) slots.low_value (omega arith) (omega arith)
      (λ x next.
      then_store w (at + 68) _ (filled ∷ []) x next (here 17 (omega arith) (omega arith)) (inr (free, refl))
      (inst.Sd 5 6 (pos 0)) (held.holds 17 (inst.Sd 5 6 (pos 0)) refl)
      pool 8 (count + 1) (at + 72)
      (λ f like. means_sd f (at + 68) 5 6 (pos 0) pool pool (count + 1) (count + 1)
      (like.temp 5 refl ∙ beside_value p slots 5 0 (put 6 (count + 1) temps_4) refl) (omega arith)
      (like.temp 6 refl ∙ beside_value p slots 6 0 (put 6 (count + 1) temps_4) refl) (omega arith))
      in_count (omega arith) (omega arith) (omega arith)
      (λ v last. leaves w (at + 72) _ _ v last out
      (inr (refl, inr (free, put_same p.value 0 (put 6 (count + 1) temps_4), refl)))))))

  by_count : (y : Stand) → IsAt (is_changed p) old (at + 44) temps_2 [] y → (b : Bool) → eqb count 512 ≡ b
      → KeepsOn w y
  by_count y was true is = ends y was is
  by_count y was false is = finds y was is (λ z now. fills z now is)

  keeps : KeepsOn w (alone_from s h t begun 0)
  keeps =
      let low = place.low in
      let low_pool = place.apart.is_pool.low_pool in
      to_word s (free_form p) at area h t begun Inside Done (block_formed kind.frees p) held place 13 8192
      (block_begins kind.frees p slots) (inl refl) area_bytes pools refl (omega arith)
      6 count_word.0 refl refl (omega arith) refl (omega arith) in_count count_word.1
      (λ z next.
      then_next w (at + 40) (put 6 count temps_0) [] z
      (subst (λ n. IsAt (is_changed p) old (at + 40) (put 6 n temps_0) [] z) count_is next)
      (here 10 (omega arith) (omega arith)) (inl refl)
      (inst.Addi 7 0 (pos 512)) (held.holds 10 (inst.Addi 7 0 (pos 512)) refl) 7 512 (at + 44)
      (λ f like. means_addi f (at + 40) (at + 44) (omega arith) 7 0 (pos 512) 0 512 refl refl)
      refl refl (omega arith) (omega arith) (omega arith)
      (λ u then. by_count u then (eqb count 512) refl))

  -- WHAT WAS DONE

  abbrev After : (ℕ → ℕ) → List Store → History → Type 0
  After temps es last = IsAfter s (free_form p) at area h t begun Inside Done temps es last

  abbrev pool_word : List Store → Option ℕ
  pool_word es = word_at (seen_byte es seen) pool 8

  -- the slot lies beside the count
  filled_count : pool_word (filled ∷ []) ≡ count_seen s h pools begun
  filled_count = beside_word seen filled pool 8 (inr (omega arith))

  frees : (temps : ℕ → ℕ) (es : List Store) (last : History) → After temps es last → Done temps es
      → Frees s p pools h t count begun last
  frees temps es last after (inl full) =
      frees_none (eqb-true count 512 full.0) (after.temp p.value (value_changed p) ∙ full.1)
      (same_word s (free_form p) at area h t begun Inside Done temps es last after full.2 pool in_count)
      (same_stores s (free_form p) at area h t begun Inside Done temps es last after full.2)
  frees temps es last after (inr free) =
      let few = most in
      frees_slot (eqb-false count 512 free.0) (after.temp p.value (value_changed p) ∙ free.1)
      (after.sees slot (in_slot free.0) ∙ ap (λ (x : List Store). word_at (seen_byte x seen) slot 8) free.2
      ∙ beside_word (λ a. Some (byte_over filled a (sees s h begun a))) (count_store pool (count + 1)) slot 8
      (inl (omega arith))
      ∙ stored_word (sees s h begun) filled (omega arith))
      (after.sees pool in_count ∙ ap pool_word free.2
      ∙ stored_word (λ a. byte_over filled a (sees s h begun a)) (count_store pool (count + 1)) (omega arith))
      (after.stored ∙ ap (λ (x : List Store). stores h begun ++ x) free.2)

  not_yet : (temps : ℕ → ℕ) (es : List Store) (last : History) → After temps es last → Inside es
      → (count_seen s h pools last ≡ count_seen s h pools begun) × FreesNoMore s p pools h t count begun last
  not_yet temps es last after (inl none) = (
    same_word s (free_form p) at area h t begun Inside Done temps es last after none pool in_count,
    fills_none (same_stores s (free_form p) at area h t begun Inside Done temps es last after none),
  )
  not_yet temps es last after (inr one) = (
    after.sees pool in_count ∙ ap pool_word one.1 ∙ filled_count,
    fills_slot (eqb-false count 512 one.0) (after.stored
        ∙ ap (λ (x : List Store). stores h begun ++ x) one.1),
  )

  -- the pointer of the area stays
  abbrev pointer : List Store → Option ℕ
  pointer es = word_at (seen_byte es seen) (area.at + 8) 8

  filled_pointer : eqb count 512 ≡ false → pointer (filled ∷ []) ≡ word_at seen (area.at + 8) 8
  filled_pointer free =
      beside_word seen filled (area.at + 8) 8
      (beside_pointer slot area.at (place.apart.slot (eqb-false count 512 free)))

  points : (es : List Store) → Inside es → pointer es ≡ word_at seen (area.at + 8) 8
  points es (inl none) = unstored seen es none (area.at + 8)
  points es (inr one) = ap pointer one.1 ∙ filled_pointer one.0

  points_done : (temps : ℕ → ℕ) (es : List Store) → Done temps es → pointer es ≡ word_at seen (area.at + 8) 8
  points_done temps es (inl full) = points es (inl full.2)
  points_done temps es (inr free) =
      ap pointer free.2
      ∙ beside_word (λ a. Some (byte_over filled a (sees s h begun a))) (count_store pool (count + 1))
      (area.at + 8) 8
      (beside_pointer pool area.at place.apart.is_pool.beside)
      ∙ filled_pointer free.0

  path : HasPath s (free_form p) at area h t begun Inside Done
  path = record {
    keeps = keeps;
    nothing = inl refl;
    area_bytes = area_bytes;
    points = points;
    points_done = points_done;
    partial = λ temps es last after so_far.
        let both = not_yet temps es last after so_far in
        record { same = both.0; stored = both.1; kept = after.kept };
    whole = λ temps es last after done. record { frees = frees temps es last after done; kept = after.kept };
  }

  some_path : SomePath s (free_form p) at area h t begun
  some_path = record { Inside = Inside; Done = Done; path = path }

-- the course of a free block
pub free_course : (p : Slots) → HasCourse (free_form p)
free_course p = has_course (free_form p) (block_formed kind.frees p) (λ s. some_path s p)
