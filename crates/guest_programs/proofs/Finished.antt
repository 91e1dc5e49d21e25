-- The code of a guest can be finished: each label is bound, and each branch reaches it.
use Rattle.std.proofs.Common.{◌≡◌, ◌↔◌, ℕ, ◌+◌, List, [], ◌∷◌, ◌++◌, length, refl, sym, ap, ◌∙◌, arith, subst, Bool}
use Rattle.std.proofs.Common.{true, ◌&&◌, Option, Some, None, length-append, is_none}
use Rattle.std.specs.Option.{option_or}
use Rattle.std.proofs.lemmas.Bool.{and_parts, false≢true}
use Rattle.rv_asm.specs.Assembly.{Assembly, empty, far_label, first_too_far, first_unbound, unbound_label}
use Rattle.rv_asm.specs.declared.item.Item.{Item}
use Rattle.rv_asm.specs.declared.item.Item.TheVariants as item
use Rattle.percpu_lib.specs.Lines.{AreEmitted, IsEmitted, with_item, with_label}
use Rattle.percpu_lib.specs.declared.lines.Line.{Line}
use Rattle.percpu_lib.specs.declared.lines.Line.TheVariants as line
use Rattle.percpu_lib.proofs.HeldWords.{labelled_items}
use Rattle.guest_names.specs.declared.names.Name.{Name}
use Rattle.guest_names.specs.declared.names.Name.TheVariants.{Counter, List as Lists, Pool, Dekker, Signals, Migrate, Ring, Urcu}
use Rattle.guest_programs.specs.Steps.{guest_lines}
use Rattle.guest_programs.specs.declared.layout.TheConstants.{CODE}
use Rattle.guest_programs.specs.declared.labels.TheConstants.{LABELS}
use Rattle.guest_programs.proofs.Blocks.{guest_labels}
use Rattle.guest_programs.proofs.Held.{labels_bound}

none_is : (o : Option ℕ) → is_none o ≡ true → o ≡ None
none_is None is = refl
none_is (Some x) is = absurd (false≢true is)

left_none : (p q : Option ℕ) → option_or p q ≡ None → p ≡ None
left_none None q is = refl
left_none (Some x) q is = absurd cc

right_none : (p q : Option ℕ) → option_or p q ≡ None → q ≡ None
right_none None q is = is
right_none (Some x) q is = absurd cc

both_none : (p q : Option ℕ) → p ≡ None → q ≡ None → option_or p q ≡ None
both_none p q a b = rw (a, b) refl

-- one more item
unbound_more : (labels : List (Option ℕ)) (xs : List Item) (x : Item) → first_unbound labels xs ≡ None
    → unbound_label labels x ≡ None → first_unbound labels (xs ++ x ∷ []) ≡ None
unbound_more labels [] x first last = both_none (unbound_label labels x) None last refl
unbound_more labels (y ∷ xs) x first last =
    both_none (unbound_label labels y) (first_unbound labels (xs ++ x ∷ []))
    (left_none (unbound_label labels y) (first_unbound labels xs) first)
    (unbound_more labels xs x (right_none (unbound_label labels y) (first_unbound labels xs) first) last)

far_more : (labels : List (Option ℕ)) (n m : ℕ) (xs : List Item) (x : Item) → m ≡ n + length xs
    → first_too_far labels n xs ≡ None → far_label labels m x ≡ None → first_too_far labels n (xs ++ x ∷ []) ≡ None
far_more labels n m [] x place first last =
    let same : m ≡ n = place ∙ omega arith in
    both_none (far_label labels n x) None (ap (λ k. far_label labels k x) (sym same) ∙ last) refl
far_more labels n m (y ∷ xs) x place first last =
    let next : m ≡ n + 1 + length xs = place ∙ omega arith in
    both_none (far_label labels n y) (first_too_far labels (n + 1) (xs ++ x ∷ []))
    (left_none (far_label labels n y) (first_too_far labels (n + 1) xs) first)
    (far_more labels (n + 1) m xs x next (right_none (far_label labels n y) (first_too_far labels (n + 1) xs) first) last)

-- whether each line from a word on is aimed at a label that is bound and near
abbrev are_near : List (Option ℕ) → ℕ → List Line → Bool
are_near labels n [] = true
are_near labels n (line.Label l ∷ rest) = are_near labels n rest
are_near labels n (line.Plain i ∷ rest) = are_near labels (n + 1) rest
are_near labels n (line.Branch i l ∷ rest) =
    (is_none (unbound_label labels (item.Aimed i l)) && is_none (far_label labels n (item.Aimed i l)))
    && are_near labels (n + 1) rest
are_near labels n (line.Data w ∷ rest) = are_near labels (n + 1) rest

-- nothing is refused
pub record IsFinishable (labels : List (Option ℕ)) (items : List Item) : Type 0 where
  pub bound : first_unbound labels items ≡ None
  pub near : first_too_far labels 0 items ≡ None

one_longer : (xs : List Item) (x : Item) → length (xs ++ x ∷ []) ≡ length xs + 1
one_longer xs x = length-append xs (x ∷ []) ∙ refl

word_more : (labels : List (Option ℕ)) (a : Assembly) (w : ℕ) → IsFinishable labels a.items
    → IsFinishable labels (with_item a (item.Word w)).items
word_more labels a w is = record {
  bound = unbound_more labels a.items (item.Word w) is.bound refl;
  near = far_more labels 0 (length a.items) a.items (item.Word w) (omega arith) is.near refl;
}

near_next : (labels : List (Option ℕ)) (a : Assembly) (x : Item) (xs : List Line)
    → are_near labels (length a.items + 1) xs ≡ true → are_near labels (length (with_item a x).items) xs ≡ true
near_next labels a x xs is = ap (λ m. are_near labels m xs) (one_longer a.items x) ∙ is

finishable : (labels : List (Option ℕ)) (xs : List Line) (a b : Assembly) → IsEmitted xs a b
    → are_near labels (length a.items) xs ≡ true → IsFinishable labels a.items → IsFinishable labels b.items
finishable labels [] a b is near so_far = subst (λ (y : Assembly). IsFinishable labels y.items) (sym is) so_far
finishable labels (line.Label l ∷ xs) a b is near so_far =
    finishable labels xs (with_label a l) b is
    (ap (λ (ys : List Item). are_near labels (length ys) xs) (labelled_items a l) ∙ near)
    (subst (λ (ys : List Item). IsFinishable labels ys) (sym (labelled_items a l)) so_far)
finishable labels (line.Plain i ∷ xs) a b is near so_far =
    finishable labels xs (with_item a (item.Word is.0)) b is.2 (near_next labels a (item.Word is.0) xs near)
    (word_more labels a is.0 so_far)
finishable labels (line.Branch i l ∷ xs) a b is near so_far =
    let parts = and_parts (is_none (unbound_label labels (item.Aimed i l)) && is_none (far_label labels (length a.items) (item.Aimed i l))) _ near in
    let both = and_parts (is_none (unbound_label labels (item.Aimed i l))) _ parts.0 in
    finishable labels xs (with_item a (item.Aimed i l)) b is (near_next labels a (item.Aimed i l) xs parts.1)
    (record {
      bound = unbound_more labels a.items (item.Aimed i l) so_far.bound (none_is (unbound_label labels (item.Aimed i l)) both.0);
      near = far_more labels 0 (length a.items) a.items (item.Aimed i l) (omega arith) so_far.near
          (none_is (far_label labels (length a.items) (item.Aimed i l)) both.1);
    })
finishable labels (line.Data w ∷ xs) a b is near so_far =
    finishable labels xs (with_item a (item.Word w)) b is (near_next labels a (item.Word w) xs near)
    (word_more labels a w so_far)

near_lines : (name : Name) → are_near (guest_labels name) 0 (guest_lines name) ≡ true
near_lines Counter = refl
near_lines Lists = refl
near_lines Pool = refl
near_lines Dekker = refl
near_lines Signals = refl
near_lines Migrate = refl
near_lines Ring = refl
near_lines Urcu = refl

pub guest_finishable : (name : Name) (asm : Assembly) → AreEmitted (guest_lines name) (empty CODE LABELS) asm
    → IsFinishable asm.labels asm.items
guest_finishable name asm emitted =
    subst (λ (ls : List (Option ℕ)). IsFinishable ls asm.items)
    (sym (labels_bound (guest_lines name) (empty CODE LABELS) asm emitted.are))
    (finishable (guest_labels name) (guest_lines name) (empty CODE LABELS) asm emitted.are (near_lines name)
    (record { bound = refl; near = refl }))

-- so a refusal for a label doesn't come
pub never_unbound : {A : Type 0} (labels : List (Option ℕ)) (items : List Item) (n : ℕ)
    → (A ↔ (first_unbound labels items ≡ Some n)) → A → IsFinishable labels items → ⊥
never_unbound labels items n exactly comes is =
    let some : first_unbound labels items ≡ Some n = exactly.0 comes in
    let none : first_unbound labels items ≡ None = is.bound in
    cc

pub never_far : {A : Type 0} (labels : List (Option ℕ)) (items : List Item) (n : ℕ)
    → (A ↔ ((first_unbound labels items ≡ None) × (first_too_far labels 0 items ≡ Some n))) → A
    → IsFinishable labels items → ⊥
never_far labels items n exactly comes is =
    let some : first_too_far labels 0 items ≡ Some n = (exactly.0 comes).1 in
    let none : first_too_far labels 0 items ≡ None = is.near in
    cc
