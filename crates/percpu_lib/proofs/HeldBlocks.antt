-- Code that was finished holds the instructions of a block where its lines were appended.
use Rattle.std.proofs.Common.{◌≡◌, ℕ, suc, ◌+◌, List, [], ◌∷◌, ◌++◌, length, slice_get, refl, ap, ◌∙◌}
use Rattle.std.proofs.Common.{arith, subst, Some, None, length-append}
use Rattle.rv_asm.specs.Assembly.{Assembly, index_of}
use Rattle.rv_asm.specs.declared.item.Item.{Item}
use Rattle.rv_asm.specs.declared.item.Item.TheVariants as item
use Rattle.percpu_lib.specs.BlockLines.{HasNoLabel, block_lines, start_lines}
use Rattle.percpu_lib.specs.Lines.{AreEmitted, HasRoom, IsContinued, IsEmitted, with_item, with_label}
use Rattle.percpu_lib.specs.declared.lines.Line.{Line}
use Rattle.percpu_lib.specs.declared.lines.Line.TheVariants as line
use Rattle.percpu_lib.specs.declared.slots.Slots.{Slots}
use Rattle.percpu_lib.proofs.HeldWords.{labelled_items}
use Rattle.percpu_lib.proofs.Labels.{at_leave, first_part, from_start, index_is, inside_part, keeps, label_own, labelled}
use Rattle.percpu_lib.proofs.Labels.{post_commit_at, start_part}

-- how many words lines have
abbrev pub words_of : List Line → ℕ
words_of [] = 0
words_of (line.Label n ∷ xs) = words_of xs
words_of (line.Plain i ∷ xs) = suc (words_of xs)
words_of (line.Branch i n ∷ xs) = suc (words_of xs)
words_of (line.Data w ∷ xs) = suc (words_of xs)

one_more : (a : Assembly) (x : Item) (n m : ℕ) → m ≡ length (a.items ++ x ∷ []) + n → m ≡ length a.items + suc n
one_more a x n m is =
    let longer : length (a.items ++ x ∷ []) ≡ length a.items + 1 = length-append a.items (x ∷ []) ∙ refl in
    omega arith

pub emitted_length : (xs : List Line) (a b : Assembly) → IsEmitted xs a b
    → length b.items ≡ length a.items + words_of xs
emitted_length [] a b is =
    let same = ap (λ (x : Assembly). length x.items) is in
    omega arith
emitted_length (line.Label n ∷ xs) a b is =
    emitted_length xs (with_label a n) b is
    ∙ ap (λ (ys : List Item). length ys + words_of xs) (labelled_items a n)
emitted_length (line.Plain i ∷ xs) a b is =
    one_more a (item.Word is.0) (words_of xs) (length b.items)
    (emitted_length xs (with_item a (item.Word is.0)) b is.2)
emitted_length (line.Branch i n ∷ xs) a b is =
    one_more a (item.Aimed i n) (words_of xs) (length b.items)
    (emitted_length xs (with_item a (item.Aimed i n)) b is)
emitted_length (line.Data w ∷ xs) a b is =
    one_more a (item.Word w) (words_of xs) (length b.items)
    (emitted_length xs (with_item a (item.Word w)) b is)

module _ (p : Slots) (base shift : ℕ) (first inside aborted : List Line) (a b c : Assembly)
    (room : HasRoom a.labels base) (is : AreEmitted (block_lines p base shift first inside aborted) a b)
    (none_first : HasNoLabel first) (none_inside : HasNoLabel inside) (none_aborted : HasNoLabel aborted)
    (more : IsContinued b c) where
  abbrev lines : List Line
  lines = block_lines p base shift first inside aborted

  -- where its labels are bound
  pub retry_at : index_of c.labels base ≡ Some (length a.items)
  retry_at =
      let same : base + 0 ≡ base = omega arith in
      more.labels base (length a.items)
      (index_is b base (Some (length a.items))
      (keeps (first ++ from_start p base shift first inside aborted a b is room none_first none_inside none_aborted)
      (with_label a base) b base (length a.items) is.are
      (label_own a base (subst (λ n. slice_get a.labels n ≡ Some None) same (room 0 (omega arith))))))

  pub behind_inside : length (at_leave p base shift first inside aborted a b is room none_first none_inside none_aborted).items
      ≡ length a.items + (words_of first + 8 + words_of inside)
  behind_inside =
      let one = first_part p base shift first inside aborted a b is room none_first none_inside none_aborted in
      let two = start_part p base shift first inside aborted a b is room none_first none_inside none_aborted in
      let three = inside_part p base shift first inside aborted a b is room none_first none_inside none_aborted in
      let x = emitted_length first (with_label a base) one.between one.first in
      let y = emitted_length (start_lines p base shift) one.between two.between two.first in
      let z = emitted_length inside two.between three.between three.first in
      let start : length (with_label a base).items ≡ length a.items = ap (λ (ys : List Item). length ys) (labelled_items a base) in
      omega (arith, x, y, z, start)

  pub leave_at : index_of c.labels (base + 2) ≡ Some (length a.items + (words_of first + 8 + words_of inside))
  leave_at =
      let there = at_leave p base shift first inside aborted a b is room none_first none_inside none_aborted in
      more.labels (base + 2) (length a.items + (words_of first + 8 + words_of inside))
      (index_is b (base + 2) (Some (length there.items))
      (post_commit_at p base shift first inside aborted a b is room none_first none_inside none_aborted)
      ∙ ap Some behind_inside)

  pub end_at : index_of c.labels (base + 4) ≡ Some (length a.items + words_of lines)
  end_at =
      more.labels (base + 4) (length a.items + words_of lines)
      ((labelled p base shift first inside aborted a b is room none_first none_inside none_aborted).behind
      ∙ ap Some (emitted_length lines a b is.are))
