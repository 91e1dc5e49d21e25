-- A sequence of a pop block is one run of its thread alone, and so pops once or not at all.
use Rattle.std.proofs.Common.{◌≡◌, ◌≢◌, ℕ, ◌+◌, ◌%◌, ◌^◌, List, [], ◌∷◌, ◌++◌, refl, sym, ap}
use Rattle.std.proofs.Common.{◌∙◌, subst, arith, true, false, eqb, Option, Some, inl}
use Rattle.std.proofs.Common.{inr, ◌⊎◌, pos, unwrap_or}
use Rattle.std.proofs.lemmas.Bool.{cases_Bool, eqb-false, eqb-true}
use Rattle.mach_types.specs.Bytes.{word_at}
use Rattle.mach_types.specs.declared.sequences.Area.{Area}
use Rattle.mach_types.specs.declared.user_memory.Store.{Store}
use Rattle.rv_inst.specs.Execution.{seen_byte}
use Rattle.rv_inst.specs.Memory.{loaded}
use Rattle.rv_inst.specs.declared.instruction.Inst.TheVariants as inst
use Rattle.alone.specs.Alone.{Stand}
use Rattle.alone.specs.Paths.{KeepsOn, Path}
use Rattle.alone.specs.Temps.{IsAt, put}
use Rattle.alone.proofs.Laws.{loaded_word, word_unchanged}
use Rattle.alone.proofs.Means.{means_ld, means_sd}
use Rattle.alone.proofs.Paths.{leaves, then_branch, then_load, then_store}
use Rattle.alone_laws.specs.Spans.{alone_from, code_of, sees}
use Rattle.alone_laws.proofs.StoredWords.{beside_word, some_word, stored_word}
use Rattle.block_model.specs.History.{History, stores}
use Rattle.block_model.specs.Setting.{Setting}
use Rattle.percpu_lib.specs.Adds.{cell_seen, cell_store}
use Rattle.percpu_lib.specs.Forms.{IsBlockPlace}
use Rattle.percpu_lib.specs.Kinds as kind
use Rattle.percpu_lib.specs.Pops.{Pops, head_of, pop_block, pop_form}
use Rattle.percpu_lib.specs.Pops.{pops_first, pops_none}
use Rattle.percpu_lib.specs.Pushes.{word_seen}
use Rattle.percpu_lib.specs.Words.{AreHeld, AreSlots, is_changed}
use Rattle.percpu_lib.specs.declared.slots.Slots.{Slots}
use Rattle.percpu_lib.proofs.CellPath.{sequence_at, to_word}
use Rattle.percpu_lib.proofs.Beginnings.{beginning}
use Rattle.percpu_lib.proofs.BlockWords.{beside_pointer}
use Rattle.percpu_lib.proofs.Changes.{means_beq_not, means_beq_taken}
use Rattle.percpu_lib.proofs.Changes.{put_other, put_same, scratch_not, some_value, value_changed}
use Rattle.percpu_lib.proofs.CourseLaw.{HasPath, IsAfter, SomePath, has_course, same_stores, same_word}
use Rattle.percpu_lib.proofs.CourseLaw.{unstored, way}
use Rattle.percpu_lib.proofs.Courses.{HasCourse}
use Rattle.percpu_lib.proofs.FormedBlocks.{block_begins, block_formed}
use Rattle.percpu_lib.proofs.UsedWords.{words_used}

module _ (s : Setting) (p : Slots) (at : ℕ) (area : Area) (h t : ℕ) (begun : History)
    (held : AreHeld (code_of s.program.pages) at (pop_block p)) (slots : AreSlots p)
    (place : IsBlockPlace s (pop_form p) at area h t begun) where
  open (beginning s p h t begun) use {old, seen, cells, cell, cell_temps as temps_0}

  abbrev head : ℕ
  head = head_of s h cells begun

  -- the words of the cell, and of the first node
  old_word : (w : ℕ) × (cell_seen s h cells begun ≡ Some w)
  old_word = some_word (sees s h begun) cell 8

  head_is : loaded old_word.0 8 true ≡ head
  head_is = loaded_word old_word.0 ∙ sym (ap (λ (o : Option ℕ). unwrap_or o 0 % 2 ^ 64) old_word.1)

  -- inside nothing is stored
  abbrev Inside : List Store → Type 0
  Inside es = es ≡ []

  next_word : (w : ℕ) × (word_seen s h head begun ≡ Some w)
  next_word = some_word (sees s h begun) head 8

  abbrev next : ℕ
  next = next_word.0 % 2 ^ 64

  -- at the end nothing is, or the second node as the head
  abbrev Ended : List Store → Type 0
  Ended es = ((eqb head 0 ≡ true) × (es ≡ [])) ⊎ ((eqb head 0 ≡ false) × (es ≡ cell_store cells h next ∷ []))

  abbrev Done : (ℕ → ℕ) → List Store → Type 0
  Done temps es = (temps p.value ≡ head) × Ended es

  abbrev w : Path
  w = way s (pop_form p) at area h t begun Inside Done

  open (words_used area.at cell head (eqb head 0)) use {area_bytes, in_first as in_cell, in_second as in_node}
  open (sequence_at (pop_form p) at (block_formed kind.pops p) place.low) use {here, out}

  -- THE PATH

  abbrev temps_1 : ℕ → ℕ
  temps_1 = put p.value head temps_0

  five_kept : 5 ≢ p.value
  five_kept = scratch_not 5 p.value refl slots.value

  -- the list has no node
  ends : (y : Stand) → IsAt (is_changed p) old (at + 36) temps_1 [] y → eqb head 0 ≡ true → KeepsOn w y
  ends y was none =
      let low = place.low in
      let even = place.aligned in
      then_branch w (at + 36) _ [] y was (here 9 (omega arith) (omega arith)) refl
      (inst.Beq p.value 0 (pos 12)) (held.holds 9 (inst.Beq p.value 0 (pos 12)) refl) 0 (at + 48)
      (λ f like. means_beq_taken f (at + 36) p.value 0 (pos 12) head 0 (at + 48)
      (like.temp p.value (value_changed p) ∙ put_same p.value head temps_0) refl none (omega arith)
      (omega arith))
      (inr out)
      (λ v last. leaves w (at + 48) _ _ v last out
      (inr (refl, (put_same p.value head temps_0, inl (none, refl)))))

  -- it has one
  unlinks : (y : Stand) → IsAt (is_changed p) old (at + 36) temps_1 [] y → eqb head 0 ≡ false → KeepsOn w y
  unlinks y was some =
      let low = place.low in
      let low_cells = place.apart.low_cells in
      then_branch w (at + 36) _ [] y was (here 9 (omega arith) (omega arith)) refl
      (inst.Beq p.value 0 (pos 12)) (held.holds 9 (inst.Beq p.value 0 (pos 12)) refl) 0 (at + 40)
      (λ f like. means_beq_not f (at + 36) (at + 40) (omega arith) p.value 0 (pos 12) head 0
      (like.temp p.value (value_changed p) ∙ put_same p.value head temps_0) refl some)
      (inl ((omega arith), (omega arith)))
      (λ z now.
      then_load w (at + 40) _ [] z now (here 10 (omega arith) (omega arith)) refl
      (inst.Ld 6 p.value (pos 0)) (held.holds 10 (inst.Ld 6 p.value (pos 0)) refl)
      head 8 6 next_word.0 (at + 44) true
      (λ f like. means_ld f (at + 40) 6 p.value (pos 0) head head
      (like.temp p.value (value_changed p) ∙ put_same p.value head temps_0) (omega arith))
      (in_node some) (word_unchanged seen head 8 ∙ next_word.1) refl refl (omega arith) (omega arith)
      (omega arith) (omega arith)
      (λ u then.
      then_store w (at + 44) _ [] u then (here 11 (omega arith) (omega arith)) refl
      (inst.Sd 5 6 (pos 0)) (held.holds 11 (inst.Sd 5 6 (pos 0)) refl)
      cell 8 next (at + 48)
      (λ f like. means_sd f (at + 44) 5 6 (pos 0) cell cell next next
      (like.temp 5 refl ∙ put_other p.value head temps_0 5 five_kept) (omega arith)
      (like.temp 6 refl ∙ loaded_word next_word.0) (omega arith))
      in_cell (omega arith) (omega arith) (omega arith)
      (λ v last. leaves w (at + 48) _ _ v last out (inr (refl, (value_there, inr (some, refl)))))))
    where
      value_there : put 6 (loaded next_word.0 8 true) temps_1 p.value ≡ head
      value_there = put_other 6 (loaded next_word.0 8 true) temps_1 p.value
          (λ same. scratch_not 6 p.value refl slots.value (sym same)) ∙ put_same p.value head temps_0

  -- WHAT WAS DONE

  pops : (temps : ℕ → ℕ) (es : List Store) (last : History)
      → IsAfter s (pop_form p) at area h t begun Inside Done temps es last → Ended es
      → Pops s cells h head begun last
  pops temps es last after (inl none) =
      pops_none (eqb-true head 0 none.0)
      (same_word s (pop_form p) at area h t begun Inside Done temps es last after none.1 cell in_cell)
      (same_stores s (pop_form p) at area h t begun Inside Done temps es last after none.1)
  pops temps es last after (inr some) =
      pops_first (eqb-false head 0 some.0) next_word.0 next_word.1
      (after.sees cell in_cell ∙ ap (λ (x : List Store). word_at (seen_byte x seen) cell 8) some.1
      ∙ stored_word (sees s h begun) (cell_store cells h next) (omega arith))
      (after.stored ∙ ap (λ (x : List Store). stores h begun ++ x) some.1)

  points_done : (es : List Store) → Ended es
      → word_at (seen_byte es seen) (area.at + 8) 8 ≡ word_at seen (area.at + 8) 8
  points_done es (inl none) = unstored seen es none.1 (area.at + 8)
  points_done es (inr some) =
      ap (λ (x : List Store). word_at (seen_byte x seen) (area.at + 8) 8) some.1
      ∙ beside_word seen (cell_store cells h next) (area.at + 8) 8
      (beside_pointer cell area.at place.apart.beside)

  path : HasPath s (pop_form p) at area h t begun Inside Done
  path = record {
    keeps =
        let low = place.low in
        let low_cells = place.apart.low_cells in
        to_word s (pop_form p) at area h t begun Inside Done (block_formed kind.pops p) held place 6 64
        (block_begins kind.pops p slots) refl area_bytes cells refl (omega arith)
        p.value old_word.0 (value_changed p) (some_value p slots) slots.low_value refl low_cells in_cell old_word.1
        (λ z next.
        let now = subst (λ n. IsAt (is_changed p) old (at + 36) (put p.value n temps_0) [] z) head_is next in
        elim (cases_Bool (eqb head 0)) [ inl is ↦ ends z now is | inr is ↦ unlinks z now is ]);
    nothing = refl;
    area_bytes = area_bytes;
    points = λ es none. unstored seen es none (area.at + 8);
    points_done = λ temps es done. points_done es done.1;
    partial = λ temps es last after none. record {
      same = same_word s (pop_form p) at area h t begun Inside Done temps es last after none cell in_cell;
      stored = same_stores s (pop_form p) at area h t begun Inside Done temps es last after none;
      kept = after.kept;
    };
    whole = λ temps es last after done. record {
      popped = after.temp p.value (value_changed p) ∙ done.0;
      pops = pops temps es last after done.1;
      kept = after.kept;
    };
  }

  some_path : SomePath s (pop_form p) at area h t begun
  some_path = record { Inside = Inside; Done = Done; path = path }

-- the course of a pop block
pub pop_course : (p : Slots) → HasCourse (pop_form p)
pop_course p = has_course (pop_form p) (block_formed kind.pops p) (λ s. some_path s p)
