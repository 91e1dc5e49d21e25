-- A sequence of an add block is one run of its thread alone, and so adds once or not at all.
use Rattle.std.proofs.Common.{◌≡◌, ℕ, ◌+◌, ◌%◌, ◌^◌, List, [], ◌∷◌, ◌++◌, refl, ap, ◌∙◌}
use Rattle.std.proofs.Common.{arith, Bool, true, Some, inr, pos}
use Rattle.mach_types.specs.Bytes.{each_byte, word_at}
use Rattle.mach_types.specs.declared.sequences.Area.{Area}
use Rattle.mach_types.specs.declared.user_memory.Store.{Store}
use Rattle.rv_inst.specs.Execution.{seen_byte}
use Rattle.rv_inst.specs.declared.instruction.Inst.TheVariants as inst
use Rattle.alone.specs.Paths.{KeepsOn, Path}
use Rattle.alone.proofs.Laws.{loaded_word}
use Rattle.alone.proofs.Means.{means_add, means_sd}
use Rattle.alone.proofs.Paths.{leaves, then_next, then_store}
use Rattle.alone_laws.specs.Blocks.{among}
use Rattle.alone_laws.specs.Spans.{alone_from, code_of, sees}
use Rattle.alone_laws.proofs.StoredWords.{beside_word, some_word, stored_word}
use Rattle.block_model.specs.History.{History, stores}
use Rattle.block_model.specs.Setting.{Setting}
use Rattle.percpu_lib.specs.Adds.{add_block, add_bytes, cell_seen, cell_store}
use Rattle.percpu_lib.specs.Forms.{IsBlockPlace}
use Rattle.percpu_lib.specs.Kinds as kind
use Rattle.percpu_lib.specs.Uses.{add_form}
use Rattle.percpu_lib.specs.Words.{AreHeld, AreSlots}
use Rattle.percpu_lib.specs.declared.slots.Slots.{Slots}
use Rattle.percpu_lib.proofs.CellPath.{sequence_at, to_word}
use Rattle.percpu_lib.proofs.Beginnings.{beginning}
use Rattle.percpu_lib.proofs.BlockWords.{beside_pointer}
use Rattle.percpu_lib.proofs.CourseLaw.{HasPath, SomePath, has_course, same_stores, same_word}
use Rattle.percpu_lib.proofs.CourseLaw.{unstored, way}
use Rattle.percpu_lib.proofs.Courses.{HasCourse}
use Rattle.percpu_lib.proofs.FormedBlocks.{block_begins, block_formed}
use Rattle.percpu_lib.proofs.UsedWords.{area_used, word_used}

module _ (s : Setting) (p : Slots) (at : ℕ) (area : Area) (h t : ℕ) (begun : History)
    (held : AreHeld (code_of s.program.pages) at (add_block p)) (slots : AreSlots p)
    (place : IsBlockPlace s (add_form p) at area h t begun) where
  open (beginning s p h t begun) use {seen, cells, cell, value}

  old_word : (w : ℕ) × (cell_seen s h cells begun ≡ Some w)
  old_word = some_word (sees s h begun) cell 8

  abbrev sum : ℕ
  sum = (old_word.0 + value) % 2 ^ 64

  -- inside nothing is stored; at the end the sum
  abbrev Inside : List Store → Type 0
  Inside es = es ≡ []

  abbrev Done : (ℕ → ℕ) → List Store → Type 0
  Done temps es = es ≡ cell_store cells h sum ∷ []

  abbrev w : Path
  w = way s (add_form p) at area h t begun Inside Done

  abbrev bytes : ℕ → Bool
  bytes = add_bytes area.at cells h

  in_cell : each_byte bytes cell 8 ≡ true
  in_cell = word_used area.at cell

  open (sequence_at (add_form p) at (block_formed kind.adds p) place.low) use {here, out}

  keeps : KeepsOn w (alone_from s h t begun 0)
  keeps =
      let low = place.low in
      let low_cells = place.apart.low_cells in
      to_word s (add_form p) at area h t begun Inside Done (block_formed kind.adds p) held place 6 64
      (block_begins kind.adds p slots) refl (area_used area.at (among cell 8)) cells refl (omega arith)
      6 old_word.0 refl refl (omega arith) refl low_cells in_cell old_word.1
      (λ z next.
      then_next w (at + 36) _ [] z next (here 9 (omega arith) (omega arith)) refl
      (inst.Add 6 6 p.value) (held.holds 9 (inst.Add 6 6 p.value) refl)
      6 sum (at + 40)
      (λ f like. means_add f (at + 36) (at + 40) (omega arith) 6 6 p.value (old_word.0 % 2 ^ 64) value sum
      (like.temp 6 refl ∙ loaded_word old_word.0) (like.rest p.value slots.value) (omega arith))
      refl refl (omega arith) (omega arith) (omega arith)
      (λ u then.
      then_store w (at + 40) _ [] u then (here 10 (omega arith) (omega arith)) refl
      (inst.Sd 5 6 (pos 0)) (held.holds 10 (inst.Sd 5 6 (pos 0)) refl)
      cell 8 sum (at + 44)
      (λ f like. means_sd f (at + 40) 5 6 (pos 0) cell cell sum sum (like.temp 5 refl) (omega arith)
      (like.temp 6 refl) (omega arith))
      in_cell (omega arith) (omega arith) (omega arith)
      (λ v last. leaves w (at + 44) _ _ v last out (inr (refl, refl)))))

  path : HasPath s (add_form p) at area h t begun Inside Done
  path = record {
    keeps = keeps;
    nothing = refl;
    area_bytes = area_used area.at (among cell 8);
    points = λ es none. unstored seen es none (area.at + 8);
    points_done = λ temps es stored. ap (λ (x : List Store). word_at (seen_byte x seen) (area.at + 8) 8)
        stored
        ∙ beside_word seen (cell_store cells h sum) (area.at + 8) 8
        (beside_pointer cell area.at place.apart.beside);
    partial = λ temps es last after none. record {
      same = same_word s (add_form p) at area h t begun Inside Done temps es last after none cell in_cell;
      stored = same_stores s (add_form p) at area h t begun Inside Done temps es last after none;
      kept = after.kept;
    };
    whole = λ temps es last after stored. record {
      old = old_word.0;
      was = old_word.1;
      grown = after.sees cell in_cell ∙ ap (λ (x : List Store). word_at (seen_byte x seen) cell 8) stored
          ∙ stored_word (sees s h begun) (cell_store cells h sum) (omega arith);
      stored = after.stored ∙ ap (λ (x : List Store). stores h begun ++ x) stored;
      kept = after.kept;
    };
  }

  some_path : SomePath s (add_form p) at area h t begun
  some_path = record { Inside = Inside; Done = Done; path = path }

-- the course of an add block
pub add_course : (p : Slots) → HasCourse (add_form p)
add_course p = has_course (add_form p) (block_formed kind.adds p) (λ s. some_path s p)
