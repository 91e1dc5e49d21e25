-- Steps that were appended one after another.
use Rattle.std.proofs.Common.{◌≡◌, ℕ, zero, suc, ◌+◌, ◌<◌, List, [], ◌∷◌, ◌++◌, length, refl, sym, ap, ◌∙◌, subst}
use Rattle.std.proofs.Common.{Bool, true, false, All, arith, append-nil, take, get_or, add-one}
use Rattle.std.proofs.Math.Seq.{take-suc}
use Rattle.std.proofs.lemmas.Bool.{false≢true}
use Rattle.std.proofs.lemmas.List.Folds.{list_all_at}
use Rattle.std.proofs.lemmas.Bool.{and_parts, ltb-true}
use Rattle.std.proofs.lemmas.List.Concat.{flat_map-append}
use Rattle.rv_asm.specs.Assembly.{Assembly, is_aimable}
use Rattle.rv_asm.specs.declared.item.Item.TheVariants as item
use Rattle.percpu_lib.specs.Lines.{AreEmitted, IsEmittable, IsEmitted, with_item, with_label}
use Rattle.percpu_lib.specs.Words.{AreSlots}
use Rattle.percpu_lib.proofs.Emitting.{emitted_labels}
use Rattle.percpu_lib.specs.declared.lines.Line.{Line}
use Rattle.percpu_lib.specs.declared.lines.Line.TheVariants as line
use Rattle.guest_programs.specs.Steps.{are_good, is_line_good, is_step_good, lines_of, lines_of_step, slots_of}
use Rattle.guest_programs.specs.declared.steps.Step.{Step}

-- the registers of the blocks of guests
pub slots_are : (table : ℕ) → AreSlots (slots_of table)
slots_are table = record {
  area = refl;
  cells = refl;
  value = refl;
  some_area = λ e. omega arith;
  some_cells = λ e. omega arith;
  some_value = λ e. omega arith;
  low_area = omega arith;
  low_cells = omega arith;
  low_value = omega arith;
  area_cells = λ e. omega arith;
  area_value = λ e. omega arith;
  cells_value = λ e. omega arith;
}

-- lines behind lines
emitted_both : (xs ys : List Line) (a b c : Assembly) → IsEmitted xs a b → IsEmitted ys b c
    → IsEmitted (xs ++ ys) a c
emitted_both [] ys a b c first last = subst (λ (y : Assembly). IsEmitted ys y c) first last
emitted_both (line.Label n ∷ xs) ys a b c first last = emitted_both xs ys (with_label a n) b c first last
emitted_both (line.Plain i ∷ xs) ys a b c first last =
    (first.0, first.1, emitted_both xs ys (with_item a (item.Word first.0)) b c first.2 last)
emitted_both (line.Branch i n ∷ xs) ys a b c first last =
    emitted_both xs ys (with_item a (item.Aimed i n)) b c first last
emitted_both (line.Data w ∷ xs) ys a b c first last =
    emitted_both xs ys (with_item a (item.Word w)) b c first last

pub both : (xs ys : List Line) (a b c : Assembly) → AreEmitted xs a b → AreEmitted ys b c
    → AreEmitted (xs ++ ys) a c
both xs ys a b c first last = record { are = emitted_both xs ys a b c first.are last.are }

-- nothing yet
pub none : (a : Assembly) → AreEmitted [] a a
none a = record { are = refl }

-- a line that is good can be emitted
good_line : (labels : ℕ) (l : Line) → is_line_good labels l ≡ true → IsEmittable labels l
good_line labels (line.Label n) is = tt
good_line labels (line.Plain i) is = is
good_line labels (line.Branch i n) is =
    let parts = and_parts (is_aimable i) _ is in (parts.0, ltb-true n labels parts.1)
good_line labels (line.Data w) is = tt

pub good_lines : (labels count : ℕ) (l : Line) → count ≡ labels → is_line_good labels l ≡ true
    → All (IsEmittable count) (l ∷ [])
good_lines labels count l is good zero d lt = subst (λ n. IsEmittable n l) (sym is) (good_line labels l good)
good_lines labels count l is good (suc k) d lt = absurd (omega arith)

-- as many labels
pub as_many_labels : (xs : List Line) (a b : Assembly) → AreEmitted xs a b → length b.labels ≡ length a.labels
as_many_labels xs a b is = emitted_labels xs a b is.are

-- each of good steps is good
pub each_good : (labels : ℕ) (steps : List Step) (k : ℕ) (d : Step) → k < length steps
    → are_good labels steps ≡ true → is_step_good labels (get_or steps k d) ≡ true
each_good labels steps k d lt good = by_case (is_step_good labels (get_or steps k d)) refl
  where
    by_case : (b : Bool) → is_step_good labels (get_or steps k d) ≡ b → is_step_good labels (get_or steps k d) ≡ true
    by_case true e = e
    by_case false e = absurd (false≢true (sym (list_all_at (is_step_good labels) steps k d lt e) ∙ good))

-- one more step
pub one_more_step : (steps : List Step) (i : ℕ) (d : Step) (a b c : Assembly) → i < length steps
    → AreEmitted (lines_of (take i steps)) a b → AreEmitted (lines_of_step (get_or steps i d)) b c
    → AreEmitted (lines_of (take (i + 1) steps)) a c
one_more_step steps i d a b c lt first last =
    let longer : lines_of (take (i + 1) steps) ≡ lines_of (take i steps) ++ lines_of_step (get_or steps i d) =
    ap (λ (n : ℕ). lines_of (take n steps)) (add-one i) ∙ ap lines_of (take-suc steps i d lt)
    ∙ flat_map-append lines_of_step (take i steps) (get_or steps i d ∷ [])
    ∙ ap (λ (xs : List Line). lines_of (take i steps) ++ xs) (append-nil (lines_of_step (get_or steps i d))) in
    subst (λ (xs : List Line). AreEmitted xs a c) (sym longer)
    (both (lines_of (take i steps)) (lines_of_step (get_or steps i d)) a b c first last)

-- six lists of lines behind each other
pub all_six : (x1 x2 x3 x4 x5 x6 last : List Line) (start a b1 b2 b3 b4 b5 b6 : Assembly) → a ≡ start
    → AreEmitted x1 a b1 → AreEmitted x2 b1 b2 → AreEmitted x3 b2 b3 → AreEmitted x4 b3 b4 → AreEmitted x5 b4 b5
    → AreEmitted last b5 b6 → last ≡ x6
    → AreEmitted (x1 ++ (x2 ++ (x3 ++ (x4 ++ (x5 ++ x6))))) start b6
all_six x1 x2 x3 x4 x5 x6 last start a b1 b2 b3 b4 b5 b6 same e1 e2 e3 e4 e5 e6 is =
    both x1 _ start b1 b6 (subst (λ (y : Assembly). AreEmitted x1 y b1) same e1)
    (both x2 _ b1 b2 b6 e2
    (both x3 _ b2 b3 b6 e3
    (both x4 _ b3 b4 b6 e4
    (both x5 x6 b4 b5 b6 e5 (subst (λ (xs : List Line). AreEmitted xs b5 b6) is e6)))))
