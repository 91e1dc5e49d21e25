-- A sequence of an alloc block is one run of its thread alone, and so takes one item or none.
use Rattle.std.proofs.Common.{◌≡◌, ◌≢◌, ℕ, ◌+◌, ◌-◌, ◌*◌, ◌≤◌, ◌%◌, ◌^◌, List, [], ◌∷◌, ◌++◌, refl, ap}
use Rattle.std.proofs.Common.{◌∙◌, subst, arith, true, false, eqb, Option, Some, inl}
use Rattle.std.proofs.Common.{inr, ◌⊎◌, pos, negsuc, unwrap_or}
use Rattle.std.proofs.lemmas.Bool.{cases_Bool, eqb-false, eqb-true}
use Rattle.mach_types.specs.Bytes.{word_at}
use Rattle.mach_types.specs.declared.sequences.Area.{Area}
use Rattle.mach_types.specs.declared.user_memory.Store.{Store}
use Rattle.rv_inst.specs.Execution.{seen_byte}
use Rattle.rv_inst.specs.Memory.{loaded}
use Rattle.rv_inst.specs.declared.instruction.Inst.TheVariants as inst
use Rattle.alone.specs.Alone.{Stand}
use Rattle.alone.specs.Paths.{KeepsOn, Path}
use Rattle.alone.specs.Temps.{IsAt, put}
use Rattle.alone.proofs.Laws.{loaded_word, word_unchanged}
use Rattle.alone.proofs.Means.{means_add, means_addi, means_ld, means_sd, means_slli}
use Rattle.alone.proofs.Paths.{leaves, then_branch, then_load, then_next, then_store}
use Rattle.alone_laws.specs.Spans.{alone_from, code_of, sees}
use Rattle.alone_laws.proofs.StoredWords.{beside_word, some_word, stored_word}
use Rattle.block_model.specs.History.{History, stores}
use Rattle.block_model.specs.Setting.{Setting}
use Rattle.percpu_lib.specs.Allocs.{Allocs, alloc_block, alloc_form}
use Rattle.percpu_lib.specs.Allocs.{allocs_last, allocs_none}
use Rattle.percpu_lib.specs.Forms.{IsBlockPlace}
use Rattle.percpu_lib.specs.Kinds as kind
use Rattle.percpu_lib.specs.Pools.{count_of, count_seen, count_store, slot_at}
use Rattle.percpu_lib.specs.Pushes.{word_seen}
use Rattle.percpu_lib.specs.Words.{AreHeld, AreSlots, is_changed}
use Rattle.percpu_lib.specs.declared.slots.Slots.{Slots}
use Rattle.percpu_lib.proofs.CellPath.{sequence_at, to_word}
use Rattle.percpu_lib.proofs.Beginnings.{beginning}
use Rattle.percpu_lib.proofs.BlockWords.{beside_pointer}
use Rattle.percpu_lib.proofs.Changes.{beside_value, means_beq_not}
use Rattle.percpu_lib.proofs.Changes.{means_beq_taken, put_same, some_value}
use Rattle.percpu_lib.proofs.Changes.{value_changed}
use Rattle.percpu_lib.proofs.CourseLaw.{HasPath, IsAfter, SomePath, has_course, same_stores, same_word}
use Rattle.percpu_lib.proofs.CourseLaw.{unstored, way}
use Rattle.percpu_lib.proofs.Courses.{HasCourse}
use Rattle.percpu_lib.proofs.FormedBlocks.{block_begins, block_formed}
use Rattle.percpu_lib.proofs.UsedWords.{words_used}

module _ (s : Setting) (p : Slots) (at : ℕ) (area : Area) (h t : ℕ) (begun : History)
    (held : AreHeld (code_of s.program.pages) at (alloc_block p)) (slots : AreSlots p)
    (place : IsBlockPlace s (alloc_form p) at area h t begun) where
  open (beginning s p h t begun) use {old, seen, cells as pools, pool, pool_temps as temps_0}

  abbrev count : ℕ
  count = count_of s h pools begun

  abbrev slot : ℕ
  slot = slot_at pool (count - 1)

  -- the words of the count, and of the last item
  count_word : (w : ℕ) × (count_seen s h pools begun ≡ Some w)
  count_word = some_word (sees s h begun) pool 8

  count_is : loaded count_word.0 8 true ≡ count
  count_is =
      let same : count ≡ count_word.0 = ap (λ (o : Option ℕ). unwrap_or o 0) count_word.1 in
      let most : count ≤ 512 = place.apart.at_most in
      loaded_word count_word.0 ∙ omega arith

  item_word : (w : ℕ) × (word_seen s h slot begun ≡ Some w)
  item_word = some_word (sees s h begun) slot 8

  abbrev item : ℕ
  item = item_word.0 % 2 ^ 64

  -- inside nothing is stored; at the end nothing, or the count less 1
  abbrev Inside : List Store → Type 0
  Inside es = es ≡ []

  abbrev Done : (ℕ → ℕ) → List Store → Type 0
  Done temps es =
      ((eqb count 0 ≡ true) × (temps p.value ≡ 0) × (es ≡ []))
      ⊎ ((eqb count 0 ≡ false) × (temps p.value ≡ item) × (es ≡ count_store pool (count - 1) ∷ []))

  abbrev w : Path
  w = way s (alloc_form p) at area h t begun Inside Done

  open (words_used area.at pool slot (eqb count 0)) use {area_bytes, in_first as in_count, in_second as in_slot}
  open (sequence_at (alloc_form p) at (block_formed kind.allocs p) place.low) use {here, out}

  -- THE PATH

  abbrev temps_2 : ℕ → ℕ
  temps_2 = put p.value 0 (put 6 count temps_0)

  abbrev temps_5 : ℕ → ℕ
  temps_5 = put 7 (pool + 8 * (count - 1)) (put 7 (8 * (count - 1)) (put 6 (count - 1) temps_2))

  -- the pool has no item
  ends : (y : Stand) → IsAt (is_changed p) old (at + 40) temps_2 [] y → eqb count 0 ≡ true → KeepsOn w y
  ends y was none =
      let low = place.low in
      let even = place.aligned in
      then_branch w (at + 40) _ [] y was (here 10 (omega arith) (omega arith)) refl
      (inst.Beq 6 0 (pos 24)) (held.holds 10 (inst.Beq 6 0 (pos 24)) refl) 0 (at + 64)
      (λ f like. means_beq_taken f (at + 40) 6 0 (pos 24) count 0 (at + 64)
      (like.temp 6 refl ∙ beside_value p slots 6 0 (put 6 count temps_0) refl) refl none (omega arith)
      (omega arith))
      (inr out)
      (λ v last. leaves w (at + 64) _ _ v last out
      (inr (refl, inl (none, put_same p.value 0 (put 6 count temps_0), refl))))

  -- it has one: its address
  finds : (y : Stand) → IsAt (is_changed p) old (at + 40) temps_2 [] y → eqb count 0 ≡ false
      → ((z : Stand) → IsAt (is_changed p) old (at + 56) temps_5 [] z → KeepsOn w z) → KeepsOn w y
  finds y was some rest =
      let low = place.low in
      let low_pool = place.apart.low_pool in
      let most : count ≤ 512 = place.apart.at_most in
      let more : count ≢ 0 = eqb-false count 0 some in
      then_branch w (at + 40) _ [] y was (here 10 (omega arith) (omega arith)) refl
      (inst.Beq 6 0 (pos 24)) (held.holds 10 (inst.Beq 6 0 (pos 24)) refl) 0 (at + 44)
      (λ f like. means_beq_not f (at + 40) (at + 44) (omega arith) 6 0 (pos 24) count 0
      (like.temp 6 refl ∙ beside_value p slots 6 0 (put 6 count temps_0) refl) refl some)
      (inl ((omega arith), (omega arith)))
      (λ z now.
      then_next w (at + 44) _ [] z now (here 11 (omega arith) (omega arith)) refl
      (inst.Addi 6 6 (negsuc 0)) (held.holds 11 (inst.Addi 6 6 (negsuc 0)) refl) 6 (count - 1) (at + 48)
      (λ f like. means_addi f (at + 44) (at + 48) (omega arith) 6 6 (negsuc 0) count (count - 1)
      (like.temp 6 refl ∙ beside_value p slots 6 0 (put 6 count temps_0) refl) (omega arith))
      refl refl (omega arith) (omega arith) (omega arith)
      (λ u then.
      then_next w (at + 48) _ [] u then (here 12 (omega arith) (omega arith)) refl
      (inst.Slli 7 6 3) (held.holds 12 (inst.Slli 7 6 3) refl) 7 (8 * (count - 1)) (at + 52)
      (λ f like. means_slli f (at + 48) (at + 52) (omega arith) 7 6 3 (count - 1) (8 * (count - 1))
      (like.temp 6 refl) (omega arith))
      refl refl (omega arith) (omega arith) (omega arith)
      (λ v next.
      then_next w (at + 52) _ [] v next (here 13 (omega arith) (omega arith)) refl
      (inst.Add 7 7 5) (held.holds 13 (inst.Add 7 7 5) refl) 7 (pool + 8 * (count - 1)) (at + 56)
      (λ f like. means_add f (at + 52) (at + 56) (omega arith) 7 7 5 (8 * (count - 1)) pool
      (pool + 8 * (count - 1))
      (like.temp 7 refl) (like.temp 5 refl
      ∙ beside_value p slots 5 0 (put 6 count temps_0) refl) (omega arith))
      refl refl (omega arith) (omega arith) (omega arith) rest)))

  -- and takes it out
  takes : (y : Stand) → IsAt (is_changed p) old (at + 56) temps_5 [] y → eqb count 0 ≡ false → KeepsOn w y
  takes y was some =
      let low = place.low in
      let low_pool = place.apart.low_pool in
      let most : count ≤ 512 = place.apart.at_most in
      then_load w (at + 56) _ [] y was (here 14 (omega arith) (omega arith)) refl
      (inst.Ld p.value 7 (pos 64)) (held.holds 14 (inst.Ld p.value 7 (pos 64)) refl)
      slot 8 p.value item_word.0 (at + 60) true
      (λ f like. means_ld f (at + 56) p.value 7 (pos 64) (pool + 8 * (count - 1)) slot (like.temp 7 refl)
      (omega arith))
      (in_slot some) (word_unchanged seen slot 8 ∙ item_word.1) (value_changed p) (some_value p slots)
      slots.low_value
      (omega arith) (omega arith) (omega arith)
      (λ z now.
      then_store w (at + 60) _ [] z now (here 15 (omega arith) (omega arith)) refl
      (inst.Sd 5 6 (pos 0)) (held.holds 15 (inst.Sd 5 6 (pos 0)) refl)
      pool 8 (count - 1) (at + 64)
      (λ f like. means_sd f (at + 60) 5 6 (pos 0) pool pool (count - 1) (count - 1)
      (like.temp 5 refl ∙ beside_value p slots 5 (loaded item_word.0 8 true) temps_5 refl
      ∙ beside_value p slots 5 0 (put 6 count temps_0) refl) (omega arith)
      (like.temp 6 refl ∙ beside_value p slots 6 (loaded item_word.0 8 true) temps_5 refl) (omega arith))
      in_count (omega arith) (omega arith) (omega arith)
      (λ v last. leaves w (at + 64) _ _ v last out
      (inr (
        refl,
        inr (
          some,
          put_same p.value (loaded item_word.0 8 true) temps_5
              ∙ loaded_word item_word.0,
          refl,
        ),
      ))))

  keeps : KeepsOn w (alone_from s h t begun 0)
  keeps =
      let low = place.low in
      let low_pool = place.apart.low_pool in
      to_word s (alloc_form p) at area h t begun Inside Done (block_formed kind.allocs p) held place 13 8192
      (block_begins kind.allocs p slots) refl area_bytes pools refl (omega arith)
      6 count_word.0 refl refl (omega arith) refl (omega arith) in_count count_word.1
      (λ z next.
      then_next w (at + 36) (put 6 count temps_0) [] z
      (subst (λ n. IsAt (is_changed p) old (at + 36) (put 6 n temps_0) [] z) count_is next)
      (here 9 (omega arith) (omega arith)) refl
      (inst.Addi p.value 0 (pos 0)) (held.holds 9 (inst.Addi p.value 0 (pos 0)) refl) p.value 0 (at + 40)
      (λ f like. means_addi f (at + 36) (at + 40) (omega arith) p.value 0 (pos 0) 0 0 refl refl)
      (value_changed p) (some_value p slots) slots.low_value (omega arith) (omega arith)
      (λ u then.
      elim (cases_Bool (eqb count 0))
      [ inl is ↦ ends u then is | inr is ↦ finds u then is (λ z now. takes z now is) ]))

  -- WHAT WAS DONE

  abbrev After : (ℕ → ℕ) → List Store → History → Type 0
  After temps es last = IsAfter s (alloc_form p) at area h t begun Inside Done temps es last

  module _ (temps : ℕ → ℕ) (es : List Store) (last : History) (after : After temps es last) where
    allocs : Done temps es → Allocs s p pools h t count begun last
    allocs (inl none) =
        allocs_none (eqb-true count 0 none.0) (after.temp p.value (value_changed p) ∙ none.1)
        (same_word s (alloc_form p) at area h t begun Inside Done temps es last after none.2 pool in_count)
        (same_stores s (alloc_form p) at area h t begun Inside Done temps es last after none.2)
    allocs (inr some) =
        let most : count ≤ 512 = place.apart.at_most in
        allocs_last (eqb-false count 0 some.0) item_word.0 item_word.1
        (after.temp p.value (value_changed p) ∙ some.1)
        (after.sees pool in_count ∙ ap (λ (x : List Store). word_at (seen_byte x seen) pool 8) some.2
        ∙ stored_word (sees s h begun) (count_store pool (count - 1)) (omega arith))
        (after.stored ∙ ap (λ (x : List Store). stores h begun ++ x) some.2)

  points_done : (temps : ℕ → ℕ) (es : List Store) → Done temps es
      → word_at (seen_byte es seen) (area.at + 8) 8 ≡ word_at seen (area.at + 8) 8
  points_done temps es (inl none) = unstored seen es none.2 (area.at + 8)
  points_done temps es (inr some) =
      ap (λ (x : List Store). word_at (seen_byte x seen) (area.at + 8) 8) some.2
      ∙ beside_word seen (count_store pool (count - 1)) (area.at + 8) 8
      (beside_pointer pool area.at place.apart.beside)

  path : HasPath s (alloc_form p) at area h t begun Inside Done
  path = record {
    keeps = keeps;
    nothing = refl;
    area_bytes = area_bytes;
    points = λ es none. unstored seen es none (area.at + 8);
    points_done = points_done;
    partial = λ temps es last after none. record {
      same = same_word s (alloc_form p) at area h t begun Inside Done temps es last after none pool in_count;
      stored = same_stores s (alloc_form p) at area h t begun Inside Done temps es last after none;
      kept = after.kept;
    };
    whole = λ temps es last after done. record { allocs = allocs temps es last after done; kept = after.kept };
  }

  some_path : SomePath s (alloc_form p) at area h t begun
  some_path = record { Inside = Inside; Done = Done; path = path }

-- the course of an alloc block
pub alloc_course : (p : Slots) → HasCourse (alloc_form p)
alloc_course p = has_course (alloc_form p) (block_formed kind.allocs p) (λ s. some_path s p)
