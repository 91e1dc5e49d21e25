-- Items in their order: the first refused, and the words of all.
use Rattle.std.proofs.Common.{◌≡◌, ℕ, zero, suc, ◌+◌, ◌<◌, ◌^◌, ◌⊎◌, inl, inr, List, [], ◌∷◌, ◌++◌, length, slice_get, Option, Some, None, refl, ap, sym, ◌∙◌, subst, arith, rules, add-zero, append-nil, length-append}
use Rattle.std.specs.List.{All, flat_map}
use Rattle.std.specs.Option.{option_or}
use Rattle.std.specs.Int.{w32, to_le_bytes}
use Rattle.std.proofs.lemmas.Grind.{flat_map-append}
use Rattle.std.proofs.lemmas.List.Elements.{All-append}
use Rattle.std.proofs.lemmas.Option.{slice_get_within}
use Rattle.rv_asm.specs.declared.item.Item.{Item}
use Rattle.rv_asm.specs.Assembly.{unbound_label, far_label, first_unbound, first_too_far, IsWordOf, AreAssembled}

-- ---- the first that is refused

none_left : (a b : Option ℕ) → option_or a b ≡ None → a ≡ None
none_left None b e = refl
none_left (Some n) b e = e

none_right : (a b : Option ℕ) → option_or a b ≡ None → b ≡ None
none_right None b e = e
none_right (Some n) b e = absurd (cc)

pub unbound_label-at : (labels : List (Option ℕ)) (items : List Item) (i : ℕ) (entry : Item) → first_unbound labels items ≡ None → slice_get items i ≡ Some entry → unbound_label labels entry ≡ None
unbound_label-at labels [] i entry none at = absurd (search (rules, at))
unbound_label-at labels (head ∷ items) zero entry none at =
    let same : head ≡ entry = cc in
    ap (unbound_label labels) (sym same) ∙ none_left (unbound_label labels head) (first_unbound labels items) none
unbound_label-at labels (head ∷ items) (suc i) entry none at =
    unbound_label-at labels items i entry (none_right (unbound_label labels head) (first_unbound labels items) none) at

pub far_label-at : (labels : List (Option ℕ)) (from : ℕ) (items : List Item) (i : ℕ) (entry : Item) → first_too_far labels from items ≡ None → slice_get items i ≡ Some entry → far_label labels (from + i) entry ≡ None
far_label-at labels from [] i entry none at = absurd (search (rules, at))
far_label-at labels from (head ∷ items) zero entry none at =
    let same : head ≡ entry = cc in
    ap (λ n. far_label labels n entry) (add-zero from) ∙ ap (far_label labels from) (sym same) ∙ none_left (far_label labels from head) (first_too_far labels (from + 1) items) none
far_label-at labels from (head ∷ items) (suc i) entry none at =
    let place : from + suc i ≡ from + 1 + i = omega arith in
    ap (λ n. far_label labels n entry) place ∙ far_label-at labels (from + 1) items i entry (none_right (far_label labels from head) (first_too_far labels (from + 1) items) none) at

-- ---- words

-- an element of a list with one more
pub slice_get-snoc : {X : Type 0} (xs : List X) (y : X) (i : ℕ) (x : X) → slice_get (xs ++ y ∷ []) i ≡ Some x → (slice_get xs i ≡ Some x) ⊎ ((i ≡ length xs) × (x ≡ y))
slice_get-snoc [] y zero x at = inr (refl, cc)
slice_get-snoc [] y (suc i) x at = absurd (search (rules, at))
slice_get-snoc (z ∷ xs) y zero x at = inl at
slice_get-snoc (z ∷ xs) y (suc i) x at =
    elim (slice_get-snoc xs y i x at) [ inl here ↦ inl here | inr last ↦ inr (omega arith, last.1) ]

-- ---- one more word

record HasWords (labels : List (Option ℕ)) (items : List Item) (words : List ℕ) : Type 0 where
  pub each : (index : ℕ) (entry : Item) (w : ℕ) → slice_get items index ≡ Some entry → slice_get words index ≡ Some w → IsWordOf labels index entry w

more_words : (labels : List (Option ℕ)) (items : List Item) (words : List ℕ) (entry : Item) (w : ℕ) → length words ≡ length items → HasWords labels items words →
    IsWordOf labels (length items) entry w → HasWords labels (items ++ entry ∷ []) (words ++ w ∷ [])
more_words labels items words entry w count before here = record { each = λ index e v at_item at_word. pick index e v (slice_get-snoc items entry index e at_item) (slice_get-snoc words w index v at_word) }
  where
    pick : (index : ℕ) (e : Item) (v : ℕ) → ((slice_get items index ≡ Some e) ⊎ ((index ≡ length items) × (e ≡ entry))) → ((slice_get words index ≡ Some v) ⊎ ((index ≡ length words) × (v ≡ w))) → IsWordOf labels index e v
    pick index e v (inl item) (inl word) = before.each index e v item word
    pick index e v (inl item) (inr word) = absurd (let within : index < length items = slice_get_within items index e item in let past : index ≡ length words = word.0 in omega arith)
    pick index e v (inr item) (inl word) = absurd (let within : index < length words = slice_get_within words index v word in let past : index ≡ length items = item.0 in omega arith)
    pick index e v (inr item) (inr word) =
        subst (λ n. IsWordOf labels n e v) (sym item.0) (subst (λ x. IsWordOf labels (length items) x v) (sym item.1) (subst (λ x. IsWordOf labels (length items) entry x) (sym word.1) here))

all_of_one : (P : ℕ → Type 0) (x : ℕ) → P x → All P (x ∷ [])
all_of_one P x holds zero d within = holds
all_of_one P x holds (suc k) d within = absurd (omega arith)

pub assembled_more : (labels : List (Option ℕ)) (items more_items : List Item) (bytes more_bytes : List ℕ) (i : ℕ) (entry : Item) (w : ℕ) → AreAssembled labels items bytes →
    length items ≡ i → w < 2 ^ 32 → IsWordOf labels i entry w → more_items ≡ items ++ entry ∷ [] → more_bytes ≡ bytes ++ to_le_bytes w32 w → AreAssembled labels more_items more_bytes
assembled_more labels items more_items bytes more_bytes i entry w before place fits word items_are bytes_are =
    let here : IsWordOf labels (length items) entry w = subst (λ n. IsWordOf labels n entry w) (sym place) word in
    let words : HasWords labels (items ++ entry ∷ []) (before.words ++ w ∷ []) = more_words labels items before.words entry w before.count (record { each = before.each }) here in
    let one : flat_map (λ v. to_le_bytes w32 v) (w ∷ []) ≡ to_le_bytes w32 w = append-nil (to_le_bytes w32 w) in
    subst (λ list. AreAssembled labels list more_bytes) (sym items_are) (record {
      words = before.words ++ w ∷ [];
      bytes_are = bytes_are ∙ ap (λ bs. bs ++ to_le_bytes w32 w) before.bytes_are ∙ ap (λ bs. flat_map (λ v. to_le_bytes w32 v) before.words ++ bs) (sym one) ∙ sym (flat_map-append (λ v. to_le_bytes w32 v) before.words (w ∷ []));
      count = length-append before.words (w ∷ []) ∙ ap (λ n. n + 1) before.count ∙ sym (length-append items (entry ∷ []));
      have_32_bits = All-append (λ v. v < 2 ^ 32) before.words (w ∷ []) before.have_32_bits (all_of_one (λ v. v < 2 ^ 32) w fits);
      each = words.each;
    })
