-- Lines one after another.
use Rattle.std.proofs.Common.{◌≡◌, ◌↔◌, ℕ, List, [], ◌∷◌, ◌++◌, length, refl, sym, ap, ◌∙◌, subst, Bool, true}
use Rattle.std.proofs.Common.{false, IsTrue, cond, Option, Some, None, length-set, slice_get, slice_set}
use Rattle.std.specs.Bool.{OnFalse, OnTrue}
use Rattle.std.proofs.lemmas.Bool.{OnFalse_at, OnTrue_at, false≢true}
use Rattle.rv_asm.specs.Assembly.{Assembly}
use Rattle.rv_asm.specs.declared.item.Item.TheVariants as item
use Rattle.percpu_lib.specs.Lines.{IsEmitted, is_free, with_item, with_label}
use Rattle.percpu_lib.specs.declared.lines.Line.{Line}
use Rattle.percpu_lib.specs.declared.lines.Line.TheVariants as line

-- a label that was bound where it is free
free_is : (o : Option (Option ℕ)) → is_free o ≡ true → o ≡ Some None
free_is None is = absurd (false≢true is)
free_is (Some None) is = refl
free_is (Some (Some n)) is = absurd (false≢true is)

pub label_done : (a b : Assembly) (n : ℕ) (done : Bool) → (IsTrue done ↔ (slice_get a.labels n ≡ Some None))
    → OnTrue done (b ≡ record a { labels = slice_set a.labels n (Some (length a.items)) })
    → OnFalse done (b ≡ a) → b ≡ with_label a n
label_done a b n done free bound refused = by_done done refl
  where
    bound_here : Assembly
    bound_here = record a { labels = slice_set a.labels n (Some (length a.items)) }

    is_taken : (o : Option (Option ℕ)) → (o ≡ Some None → ⊥) → is_free o ≡ false
    is_taken None other = refl
    is_taken (Some None) other = absurd (other refl)
    is_taken (Some (Some k)) other = refl

    by_done : (d : Bool) → done ≡ d → b ≡ cond (is_free (slice_get a.labels n)) bound_here a
    by_done true e = OnTrue_at e bound ∙ sym (ap (λ o. cond (is_free o) bound_here a) (free.0 e))
    by_done false e =
        OnFalse_at e refused
        ∙ sym (ap (λ c. cond c bound_here a) (is_taken (slice_get a.labels n)
        (λ is. false≢true (sym e ∙ free.1 is))))

-- one more line
pub emitted_more : (xs : List Line) (x : Line) (a b c : Assembly) → IsEmitted xs a b → IsEmitted (x ∷ []) b c
    → IsEmitted (xs ++ x ∷ []) a c
emitted_more [] x a b c first last = subst (λ (y : Assembly). IsEmitted (x ∷ []) y c) first last
emitted_more (line.Label n ∷ xs) x a b c first last = emitted_more xs x (with_label a n) b c first last
emitted_more (line.Plain i ∷ xs) x a b c first
    last = (first.0, first.1, emitted_more xs x (with_item a (item.Word first.0)) b c first.2 last)
emitted_more (line.Branch i n ∷ xs) x a b c first last = emitted_more xs x (with_item a (item.Aimed i n)) b c
    first last
emitted_more (line.Data w ∷ xs) x a b c first last = emitted_more xs x (with_item a (item.Word w)) b c first
    last

-- as many labels
label_count : (a : Assembly) (n : ℕ) (b : Bool)
    → length (cond b (record a { labels = slice_set a.labels n (Some (length a.items)) }) a).labels ≡ length
    a.labels
label_count a n true = length-set a.labels n (Some (length a.items))
label_count a n false = refl

pub emitted_labels : (xs : List Line) (a b : Assembly) → IsEmitted xs a b → length b.labels ≡ length a.labels
emitted_labels [] a b is = ap (λ (x : Assembly). length x.labels) is
emitted_labels (line.Label n ∷ xs) a b is = emitted_labels xs (with_label a n) b is
    ∙ label_count a n (is_free (slice_get a.labels n))
emitted_labels (line.Plain i ∷ xs) a b is = emitted_labels xs (with_item a (item.Word is.0)) b is.2
emitted_labels (line.Branch i n ∷ xs) a b is = emitted_labels xs (with_item a (item.Aimed i n)) b is
emitted_labels (line.Data w ∷ xs) a b is = emitted_labels xs (with_item a (item.Word w)) b is
