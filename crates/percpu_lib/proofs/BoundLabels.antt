-- To which words the labels of a block are bound, and where its signature is.
use Rattle.std.proofs.Common.{◌≡◌, ℕ, ◌+◌, ◌*◌, ◌-◌, inl, inr, List, [], ◌∷◌, ◌++◌, length, slice_get, refl, sym, ap, ◌∙◌}
use Rattle.std.proofs.Common.{arith, Option, Some, None, append_assoc, append-nil, get_or, pos}
use Rattle.std.proofs.lemmas.Option.{slice_get-get_or, slice_get_within}
use Rattle.mach_types.specs.Bytes.{word_at}
use Rattle.elf_load.specs.Images.{IsImage}
use Rattle.elf_load.specs.Start.{loaded_byte}
use Rattle.elf_load.specs.declared.image.Image.{Image}
use Rattle.rv_asm.specs.Assembly.{AreAssembled, Assembly, address_of, index_of}
use Rattle.rv_asm.specs.declared.item.Item.{Item}
use Rattle.rv_asm.specs.declared.item.Item.TheVariants as item
use Rattle.rv_inst.specs.declared.instruction.Inst.TheVariants as inst
use Rattle.percpu_lib.specs.Adds.{add_steps}
use Rattle.percpu_lib.specs.Allocs.{alloc_steps}
use Rattle.percpu_lib.specs.Bindings.{AreBound, AreLabelsOf, word_before_abort}
use Rattle.percpu_lib.specs.BlockLines.{HasNoLabel, block_lines}
use Rattle.percpu_lib.specs.Files.{HoldsCode}
use Rattle.percpu_lib.specs.Forms.{Form, committed, range_of}
use Rattle.percpu_lib.specs.Frees.{free_aborted, free_first, free_steps}
use Rattle.percpu_lib.specs.Kinds.{Kind, adds, allocs, form_of, frees, lines_of, pops, pushes}
use Rattle.percpu_lib.specs.Lines.{AreEmitted, HasRoom, IsContinued, IsEmitted, with_item, with_label}
use Rattle.percpu_lib.specs.Pops.{pop_steps}
use Rattle.percpu_lib.specs.Pushes.{push_steps}
use Rattle.percpu_lib.specs.Words.{lower, upper}
use Rattle.percpu_lib.specs.declared.lines.Line.{Line}
use Rattle.percpu_lib.specs.declared.lines.Line.TheVariants as line
use Rattle.percpu_lib.specs.declared.slots.Slots.{Slots}
use Rattle.percpu_lib.proofs.FileCode.{word_loaded}
use Rattle.percpu_lib.proofs.HeldBlocks.{behind_inside, emitted_length, end_at, leave_at, retry_at, words_of}
use Rattle.percpu_lib.proofs.KnownWords.{still_there}
use Rattle.percpu_lib.proofs.HeldWords.{emitted_behind, get_behind, labelled_items}
use Rattle.percpu_lib.proofs.Labels.{Stands, at_leave, first_part, free_there, from_aborted, from_inside, index_is}
use Rattle.percpu_lib.proofs.Labels.{inside_part, keeps, label_other, label_own, no_label, parts, stays}

-- AMONG LINES

-- a free label that stands behind some lines, and not in them, is bound to the word behind theirs
bound_behind : (xs ys : List Line) (a b : Assembly) (l : ℕ) → IsEmitted (xs ++ line.Label l ∷ ys) a b
    → slice_get a.labels l ≡ Some None → (Stands l xs → ⊥)
    → slice_get b.labels l ≡ Some (Some (length a.items + words_of xs))
bound_behind xs ys a b l is free none =
    let p = parts xs (line.Label l ∷ ys) a b is in
    let there : slice_get p.between.labels l ≡ Some None = stays xs a p.between l p.first none ∙ free in
    keeps ys (with_label p.between l) b l (length p.between.items) p.rest (label_own p.between l there)
    ∙ ap (λ n. Some (Some n)) (emitted_length xs a p.between p.first)

-- a word of data that stands behind some lines is the word behind theirs
data_behind : (xs ys : List Line) (a b : Assembly) (w : ℕ) → IsEmitted (xs ++ line.Data w ∷ ys) a b
    → slice_get b.items (length a.items + words_of xs) ≡ Some (item.Word w)
data_behind xs ys a b w is =
    let p = parts xs (line.Data w ∷ ys) a b is in
    let entry : Item = item.Word w in
    let behind = emitted_behind ys (with_item p.between entry) b p.rest in
    ap (λ n. slice_get b.items n) (sym (emitted_length xs a p.between p.first))
    ∙ ap (λ (es : List Item). slice_get es (length p.between.items))
    (behind.1 ∙ append_assoc p.between.items (entry ∷ []) behind.0)
    ∙ get_behind p.between.items behind.0 entry

-- BLOCKS

-- the labels of a block are bound so, and its signature is an item
pub record HasPlaces (form : Form) (base : ℕ) (a c : Assembly) : Type 0 where
  pub bound : AreBound form base (length a.items) c.labels
  pub signature : slice_get c.items (length a.items + (committed form + 1)) ≡ Some (item.Word 0xF1401073)

module _ (p : Slots) (base shift : ℕ) (first inside aborted : List Line) (a b c : Assembly)
    (room : HasRoom a.labels base) (is : AreEmitted (block_lines p base shift first inside aborted) a b)
    (none_first : HasNoLabel first) (none_inside : HasNoLabel inside) (none_aborted : HasNoLabel aborted)
    (more : IsContinued b c) where
  abbrev asked : List Line
  asked =
      line.Plain (inst.Lw 5 p.area (pos 0))
      ∷ line.Plain (inst.Lui 6 (upper p.table))
      ∷ line.Plain (inst.Addi 6 6 (lower p.table))
      ∷ line.Plain (inst.Sd p.area 6 (pos 8))
      ∷ []

  abbrev started : List Line
  started =
      line.Plain (inst.Lw 6 p.area (pos 4))
      ∷ line.Branch (inst.Bne 6 5 (pos 0)) base
      ∷ line.Plain (inst.Slli 5 5 shift)
      ∷ line.Plain (inst.Add 5 5 p.cells)
      ∷ from_inside p base shift first inside aborted a b is room none_first none_inside none_aborted

  start_at : index_of c.labels (base + 1) ≡ Some (length a.items + (words_of first + 4))
  start_at =
      let one = first_part p base shift first inside aborted a b is room none_first none_inside none_aborted in
      let free : slice_get one.between.labels (base + 1) ≡ Some None =
      stays first (with_label a base) one.between (base + 1) one.first (no_label (base + 1) first none_first)
      ∙ label_other a base (base + 1) (λ same. absurd (omega arith)) ∙ room 1 (omega arith) in
      let long = emitted_length first (with_label a base) one.between one.first in
      let same : length (with_label a base).items ≡ length a.items =
      ap (λ (ys : List Item). length ys) (labelled_items a base) in
      let place : length one.between.items + 4 ≡ length a.items + (words_of first + 4) = omega (arith, long, same) in
      more.labels (base + 1) (length a.items + (words_of first + 4))
      (index_is b (base + 1) (Some (length one.between.items + 4))
      (bound_behind asked started one.between b (base + 1) one.rest free (λ none. none)) ∙ ap Some place)

  abbrev leaving : Assembly
  leaving = at_leave p base shift first inside aborted a b is room none_first none_inside none_aborted

  left_rest : IsEmitted (line.Label (base + 2) ∷ line.Branch (inst.Jal 0 (pos 0)) (base + 4) ∷ line.Data 0xF1401073
      ∷ line.Label (base + 3)
      ∷ from_aborted p base shift first inside aborted a b is room none_first none_inside none_aborted) leaving b
  left_rest = (inside_part p base shift first inside aborted a b is room none_first none_inside none_aborted).rest

  left_length : length leaving.items ≡ length a.items + (words_of first + 8 + words_of inside)
  left_length = behind_inside p base shift first inside aborted a b c room is none_first none_inside none_aborted more

  not_left : Stands (base + 3) (line.Label (base + 2) ∷ line.Branch (inst.Jal 0 (pos 0)) (base + 4) ∷ line.Data 0xF1401073 ∷ [])
      → ⊥
  not_left (inl same) = omega arith
  not_left (inr none) = none

  abort_at : index_of c.labels (base + 3) ≡ Some (length a.items + (words_of first + 8 + words_of inside + 2))
  abort_at =
      let place : length leaving.items + 2 ≡ length a.items + (words_of first + 8 + words_of inside + 2) =
      omega (arith, left_length) in
      more.labels (base + 3) (length a.items + (words_of first + 8 + words_of inside + 2))
      (index_is b (base + 3) (Some (length leaving.items + 2))
      (bound_behind (line.Label (base + 2) ∷ line.Branch (inst.Jal 0 (pos 0)) (base + 4) ∷ line.Data 0xF1401073 ∷ [])
      (from_aborted p base shift first inside aborted a b is room none_first none_inside none_aborted) leaving b (base + 3)
      left_rest (free_there p base shift first inside aborted a b is room none_first none_inside none_aborted 3
      (omega arith) (omega arith)) not_left)
      ∙ ap Some place)

  signature_at : slice_get c.items (length a.items + (words_of first + 8 + words_of inside + 1))
      ≡ Some (item.Word 0xF1401073)
  signature_at =
      let place : length leaving.items + 1 ≡ length a.items + (words_of first + 8 + words_of inside + 1) =
      omega (arith, left_length) in
      ap (λ (ys : List Item). slice_get ys (length a.items + (words_of first + 8 + words_of inside + 1))) more.items
      ∙ still_there b.items more.later (length a.items + (words_of first + 8 + words_of inside + 1)) (item.Word 0xF1401073)
      (ap (λ n. slice_get b.items n) (sym place)
      ∙ data_behind (line.Label (base + 2) ∷ line.Branch (inst.Jal 0 (pos 0)) (base + 4) ∷ [])
      (line.Label (base + 3)
      ∷ from_aborted p base shift first inside aborted a b is room none_first none_inside none_aborted) leaving b 0xF1401073
      left_rest)

  -- as numbers of a form
  pub places : (form : Form) → words_of first + 4 ≡ form.first → words_of first + 8 + words_of inside ≡ committed form
      → words_of (block_lines p base shift first inside aborted) ≡ length form.words → HasPlaces form base a c
  places form start leave end = record {
    bound = record {
      retry = retry_at p base shift first inside aborted a b c room is none_first none_inside none_aborted more;
      start = start_at ∙ ap (λ n. Some (length a.items + n)) start;
      post_commit = leave_at p base shift first inside aborted a b c room is none_first none_inside none_aborted more
          ∙ ap (λ n. Some (length a.items + n)) leave;
      abort = abort_at ∙ ap (λ n. Some (length a.items + (n + 2))) leave;
      behind = end_at p base shift first inside aborted a b c room is none_first none_inside none_aborted more
          ∙ ap (λ n. Some (length a.items + n)) end;
    };
    signature = ap (λ n. slice_get c.items (length a.items + (n + 1))) (sym leave) ∙ signature_at;
  }

-- KINDS

pub kind_places : (k : Kind) (p : Slots) (base : ℕ) (a b c : Assembly) → HasRoom a.labels base
    → AreEmitted (lines_of k p base) a b → IsContinued b c → HasPlaces (form_of k p) base a c
kind_places adds p base a b c room is more =
    places p base 6 [] (add_steps p) [] a b c room is tt tt tt more (form_of adds p) refl refl refl
kind_places pushes p base a b c room is more =
    places p base 6 [] (push_steps p) [] a b c room is tt tt tt more (form_of pushes p) refl refl refl
kind_places pops p base a b c room is more =
    places p base 6 [] (pop_steps p base) [] a b c room is tt tt tt more (form_of pops p) refl refl refl
kind_places allocs p base a b c room is more =
    places p base 13 [] (alloc_steps p base) [] a b c room is tt tt tt more (form_of allocs p) refl refl refl
kind_places frees p base a b c room is more =
    places p base 13 (free_first p) (free_steps p base) (free_aborted p) a b c room is tt tt tt more (form_of frees p) refl
    refl refl

-- an assembler goes on from itself
pub goes_on : (b : Assembly) → IsContinued b b
goes_on b = record { later = []; items = sym (append-nil b.items); labels = λ n index is. is }

-- the places of the labels are those of the sequence
pub labels_of_range : (form : Form) (base n at : ℕ) (labels : List (Option ℕ)) → AreBound form base n labels
    → AreLabelsOf (range_of form (at + 4 * n)) at base labels
labels_of_range form base n at labels bound =
    let start : at + 4 * (n + form.first) ≡ at + 4 * n + 4 * form.first = omega arith in
    let leave : at + 4 * (n + committed form) ≡ at + 4 * n + 4 * form.first + 4 * form.inside = omega arith in
    let abort : at + 4 * (n + (committed form + 2)) ≡ at + 4 * n + 4 * (committed form + 2) = omega arith in
    record {
      start = ap (address_of at) bound.start ∙ ap Some start;
      post_commit = ap (address_of at) bound.post_commit ∙ ap Some leave;
      abort = ap (address_of at) bound.abort ∙ ap Some abort;
    }

-- THE SIGNATURE

module _ (form : Form) (base : ℕ) (a c : Assembly) (its : HasPlaces form base a c) (bytes : List ℕ)
    (code : AreAssembled c.labels c.items bytes) where
  abbrev place : ℕ
  place = length a.items + (committed form + 1)

  -- a word is there
  some_word : (w : ℕ) × (slice_get code.words place ≡ Some w)
  some_word =
      let within = slice_get_within c.items place (item.Word 0xF1401073) its.signature in
      let many = code.count in
      (get_or code.words place 0, slice_get-get_or code.words place 0 (omega (arith, many, within)))

  pub signature_word : slice_get code.words place ≡ Some 0xF1401073
  signature_word =
      some_word.1 ∙ ap Some (code.each place (item.Word 0xF1401073) some_word.0 its.signature some_word.1)

  pub signature_loaded : (file : List ℕ) (image : Image) (at : ℕ) → IsImage file image → HoldsCode file at bytes
      → word_before_abort image.pages.items (range_of form (at + 4 * length a.items)) ≡ Some 0xF1401073
  signature_loaded file image at whole holds =
      let same : at + 4 * length a.items + 4 * (committed form + 2) - 4 ≡ at + 4 * place = omega arith in
      ap (λ n. word_at (λ x. Some (loaded_byte image.pages.items x)) n 4) same
      ∙ word_loaded file image whole at bytes holds c.labels c.items code place 0xF1401073 signature_word
