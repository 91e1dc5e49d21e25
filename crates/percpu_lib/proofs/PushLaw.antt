-- A sequence of a push block is one run of its thread alone, and so pushes once or not at all.
use Rattle.std.proofs.Common.{◌≡◌, ℕ, ◌+◌, ◌≤◌, ◌%◌, ◌^◌, List, [], ◌∷◌, ◌++◌, refl, ap, ◌∙◌}
use Rattle.std.proofs.Common.{arith, Bool, true, ◌||◌, Some, inl, inr, ◌⊎◌, pos}
use Rattle.mach_types.specs.Bytes.{byte_over, each_byte, word_at}
use Rattle.mach_types.specs.declared.sequences.Area.{Area}
use Rattle.mach_types.specs.declared.user_memory.Store.{Store}
use Rattle.rv_inst.specs.Execution.{seen_byte}
use Rattle.rv_inst.specs.declared.instruction.Inst.TheVariants as inst
use Rattle.alone.specs.Paths.{KeepsOn, Path}
use Rattle.alone.proofs.Laws.{loaded_word}
use Rattle.alone.proofs.Means.{means_sd}
use Rattle.alone.proofs.Paths.{leaves, then_store}
use Rattle.alone_laws.specs.Blocks.{among}
use Rattle.alone_laws.specs.Spans.{alone_from, code_of, sees}
use Rattle.alone_laws.proofs.StoredWords.{beside_word, some_word, stored_word}
use Rattle.block_model.specs.History.{History, stores}
use Rattle.block_model.specs.Setting.{Setting}
use Rattle.percpu_lib.specs.Adds.{cell_seen, cell_store}
use Rattle.percpu_lib.specs.Forms.{IsBlockPlace}
use Rattle.percpu_lib.specs.Kinds as kind
use Rattle.percpu_lib.specs.Pushes.{IsNoPush, IsWholePush, LieBeside, node_store, push_block}
use Rattle.percpu_lib.specs.Pushes.{push_bytes, push_form, stores_node, stores_none}
use Rattle.percpu_lib.specs.Words.{AreHeld, AreSlots}
use Rattle.percpu_lib.specs.declared.slots.Slots.{Slots}
use Rattle.percpu_lib.proofs.CellPath.{sequence_at, to_word}
use Rattle.percpu_lib.proofs.Beginnings.{beginning}
use Rattle.percpu_lib.proofs.BlockWords.{beside_pointer}
use Rattle.percpu_lib.proofs.CourseLaw.{HasPath, IsAfter, SomePath, has_course, same_stores, same_word}
use Rattle.percpu_lib.proofs.CourseLaw.{unstored, way}
use Rattle.percpu_lib.proofs.Courses.{HasCourse}
use Rattle.percpu_lib.proofs.FormedBlocks.{block_begins, block_formed}
use Rattle.percpu_lib.proofs.UsedWords.{area_used, first_used, second_used}

module _ (s : Setting) (p : Slots) (at : ℕ) (area : Area) (h t : ℕ) (begun : History)
    (held : AreHeld (code_of s.program.pages) at (push_block p)) (slots : AreSlots p)
    (place : IsBlockPlace s (push_form p) at area h t begun) where
  open (beginning s p h t begun) use {seen, cells, cell, value as node}

  old_word : (w : ℕ) × (cell_seen s h cells begun ≡ Some w)
  old_word = some_word (sees s h begun) cell 8

  abbrev old : ℕ
  old = old_word.0 % 2 ^ 64

  abbrev linked : Store
  linked = node_store node old

  -- inside nothing is stored, or the link; at the end also the head
  abbrev Inside : List Store → Type 0
  Inside es = (es ≡ []) ⊎ (es ≡ linked ∷ [])

  abbrev Done : (ℕ → ℕ) → List Store → Type 0
  Done temps es = es ≡ linked ∷ cell_store cells h node ∷ []

  abbrev w : Path
  w = way s (push_form p) at area h t begun Inside Done

  abbrev bytes : ℕ → Bool
  bytes = push_bytes area.at cells h node

  area_bytes : (a : ℕ) → among area.at 32 a ≡ true → bytes a ≡ true
  area_bytes = area_used area.at (λ a. among cell 8 a || among node 8 a)

  in_cell : each_byte bytes cell 8 ≡ true
  in_cell = first_used area.at cell (among node 8)

  in_node : each_byte bytes node 8 ≡ true
  in_node = second_used area.at cell node

  open (sequence_at (push_form p) at (block_formed kind.pushes p) place.low) use {here, out}

  keeps : KeepsOn w (alone_from s h t begun 0)
  keeps =
      let low = place.low in
      let low_cells = place.apart.cell.low_cells in
      let low_node = place.apart.low_node in
      to_word s (push_form p) at area h t begun Inside Done (block_formed kind.pushes p) held place 6 64
      (block_begins kind.pushes p slots) (inl refl) area_bytes cells refl (omega arith)
      6 old_word.0 refl refl (omega arith) refl low_cells in_cell old_word.1
      (λ z next.
      then_store w (at + 36) _ [] z next (here 9 (omega arith) (omega arith)) (inl refl)
      (inst.Sd p.value 6 (pos 0)) (held.holds 9 (inst.Sd p.value 6 (pos 0)) refl)
      node 8 old (at + 40)
      (λ f like. means_sd f (at + 36) p.value 6 (pos 0) node node old old (like.rest p.value slots.value)
      (omega arith)
      (like.temp 6 refl ∙ loaded_word old_word.0) (omega arith))
      in_node (omega arith) (omega arith) (omega arith)
      (λ u then.
      then_store w (at + 40) _ (linked ∷ []) u then (here 10 (omega arith) (omega arith)) (inr refl)
      (inst.Sd 5 p.value (pos 0)) (held.holds 10 (inst.Sd 5 p.value (pos 0)) refl)
      cell 8 node (at + 44)
      (λ f like. means_sd f (at + 40) 5 p.value (pos 0) cell cell node node (like.temp 5 refl) (omega arith)
      (like.rest p.value slots.value) (omega arith))
      in_cell (omega arith) (omega arith) (omega arith)
      (λ v last. leaves w (at + 44) _ _ v last out (inr (refl, refl)))))

  -- the pointer of the area stays
  node_points : word_at (seen_byte (linked ∷ []) seen) (area.at + 8) 8 ≡ word_at seen (area.at + 8) 8
  node_points = beside_word seen linked (area.at + 8) 8 (beside_pointer node area.at place.apart.node_area)

  points : (es : List Store) → Inside es
      → word_at (seen_byte es seen) (area.at + 8) 8 ≡ word_at seen (area.at + 8) 8
  points es (inl none) = unstored seen es none (area.at + 8)
  points es (inr one) = ap (λ (x : List Store). word_at (seen_byte x seen) (area.at + 8) 8) one ∙ node_points

  -- what was done
  not_yet : (temps : ℕ → ℕ) (es : List Store) (last : History)
      → IsAfter s (push_form p) at area h t begun Inside Done temps es last → Inside es
      → IsNoPush s cells node h t begun last
  not_yet temps es last after (inl none) = record {
    same = same_word s (push_form p) at area h t begun Inside Done temps es last after none cell in_cell;
    stored = stores_none (same_stores s (push_form p) at area h t begun Inside Done temps es last after none);
    kept = after.kept;
  }
  not_yet temps es last after (inr one) = record {
    same = after.sees cell in_cell ∙ ap (λ (x : List Store). word_at (seen_byte x seen) cell 8) one
        ∙ beside_word seen linked cell 8 place.apart.node_cell;
    stored = stores_node old (after.stored ∙ ap (λ (x : List Store). stores h begun ++ x) one);
    kept = after.kept;
  }

  node_beside : LieBeside node 8 cell 8 → (cell + 8 ≤ node) ⊎ (node + 8 ≤ cell)
  node_beside (inl below) = inr below
  node_beside (inr above) = inl above

  whole : (temps : ℕ → ℕ) (es : List Store) (last : History)
      → IsAfter s (push_form p) at area h t begun Inside Done temps es last → Done temps es
      → IsWholePush s cells node h t begun last
  whole temps es last after both =
      let low_node = place.apart.low_node in
      record {
        old = old_word.0;
        was = old_word.1;
        linked = after.sees node in_node
            ∙ ap (λ (x : List Store). word_at (seen_byte x seen) node 8) both
            ∙ beside_word (λ a. Some (byte_over linked a (sees s h begun a))) (cell_store cells h node) node 8
            (node_beside place.apart.node_cell)
            ∙ stored_word (sees s h begun) linked (omega arith);
        pushed = after.sees cell in_cell
            ∙ ap (λ (x : List Store). word_at (seen_byte x seen) cell 8) both
            ∙ stored_word (λ a. byte_over linked a (sees s h begun a)) (cell_store cells h node)
            (omega arith);
        stored = after.stored ∙ ap (λ (x : List Store). stores h begun ++ x) both;
        kept = after.kept;
      }

  path : HasPath s (push_form p) at area h t begun Inside Done
  path = record {
    keeps = keeps;
    nothing = inl refl;
    area_bytes = area_bytes;
    points = points;
    points_done = λ temps es both.
        ap (λ (x : List Store). word_at (seen_byte x seen) (area.at + 8) 8) both
        ∙ beside_word (λ a. Some (byte_over linked a (sees s h begun a))) (cell_store cells h node)
        (area.at + 8) 8
        (beside_pointer cell area.at place.apart.cell.beside)
        ∙ node_points;
    partial = not_yet;
    whole = whole;
  }

  some_path : SomePath s (push_form p) at area h t begun
  some_path = record { Inside = Inside; Done = Done; path = path }

-- the course of a push block
pub push_course : (p : Slots) → HasCourse (push_form p)
push_course p = has_course (push_form p) (block_formed kind.pushes p) (λ s. some_path s p)
