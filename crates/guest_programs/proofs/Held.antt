-- Words of finished code: each is of the instruction of its line.
use Rattle.std.proofs.Common.{◌≡◌, ℕ, zero, suc, ◌+◌, ◌*◌, ◌<◌, ◌^◌, List, [], ◌∷◌, ◌++◌, length, slice_get, refl, sym, ap, ◌∙◌}
use Rattle.std.proofs.Common.{subst, arith, Option, Some, Bool, true, false, cond, take, drop, get_or}
use Rattle.std.proofs.Common.{length-append, slice_set}
use Rattle.std.specs.Int.{to_le_bytes, w32}
use Rattle.std.proofs.lemmas.Option.{slice_get-get_or, slice_get_within}
use Rattle.rv_asm.specs.Assembly.{AreAssembled, Assembly}
use Rattle.rv_asm.specs.declared.item.Item.{Item}
use Rattle.rv_asm.specs.declared.item.Item.TheVariants as item
use Rattle.rv_inst.specs.Table.{row_of}
use Rattle.rv_inst.specs.declared.instruction.Inst.{Inst}
use Rattle.percpu_lib.specs.Lines.{IsEmitted, instructions, is_free, with_item, with_label}
use Rattle.percpu_lib.specs.declared.lines.Line.{Line}
use Rattle.percpu_lib.specs.declared.lines.Line.TheVariants as line
use Rattle.percpu_lib.proofs.HeldWords.{FindsItem, items_held, labelled_items}
use Rattle.guest_programs.specs.Blocks.{bind, bound_by}

-- ---- labels

label_bound : (a : Assembly) (n : ℕ) (b : Bool)
    → (cond b (record a { labels = slice_set a.labels n (Some (length a.items)) }) a).labels
    ≡ cond b (slice_set a.labels n (Some (length a.items))) a.labels
label_bound a n true = refl
label_bound a n false = refl

one_longer : (xs : List Item) (x : Item) → length (xs ++ x ∷ []) ≡ length xs + 1
one_longer xs x = length-append xs (x ∷ []) ∙ refl

-- the labels behind lines
pub labels_bound : (xs : List Line) (a b : Assembly) → IsEmitted xs a b
    → b.labels ≡ bound_by a.labels (length a.items) xs
labels_bound [] a b is = ap (λ (x : Assembly). x.labels) is
labels_bound (line.Label n ∷ xs) a b is =
    labels_bound xs (with_label a n) b is
    ∙ ap (λ (ys : List (Option ℕ)). bound_by ys (length (with_label a n).items) xs) (label_bound a n (is_free (slice_get a.labels n)))
    ∙ ap (λ (ys : List Item). bound_by (bind a.labels n (length a.items)) (length ys) xs) (labelled_items a n)
labels_bound (line.Plain i ∷ xs) a b is =
    labels_bound xs (with_item a (item.Word is.0)) b is.2
    ∙ ap (λ m. bound_by a.labels m xs) (one_longer a.items (item.Word is.0))
labels_bound (line.Branch i n ∷ xs) a b is =
    labels_bound xs (with_item a (item.Aimed i n)) b is
    ∙ ap (λ m. bound_by a.labels m xs) (one_longer a.items (item.Aimed i n))
labels_bound (line.Data w ∷ xs) a b is =
    labels_bound xs (with_item a (item.Word w)) b is
    ∙ ap (λ m. bound_by a.labels m xs) (one_longer a.items (item.Word w))

-- ---- words

-- a word of finished code that is of an instruction
pub record IsWordAt (words : List ℕ) (k : ℕ) (i : Inst) : Type 0 where
  pub word : ℕ
  pub there : slice_get words k ≡ Some word
  pub is : row_of word ≡ Some i

pub word_at_line : (xs : List Line) (a b : Assembly) (bytes : List ℕ) (k : ℕ) (i : Inst) → a.items ≡ []
    → IsEmitted xs a b → (code : AreAssembled b.labels b.items bytes)
    → slice_get (instructions b.labels 0 xs) k ≡ Some (Some i) → IsWordAt code.words k i
word_at_line xs a b bytes k i new is code at =
    let none : length a.items ≡ 0 = ap length new in
    let here : slice_get (instructions b.labels (length a.items) xs) k ≡ Some (Some i) =
    ap (λ m. slice_get (instructions b.labels m xs) k) none ∙ at in
    let at_k : length a.items + k ≡ k = omega arith in
    let found : FindsItem b.labels b.items k i =
    subst (λ m. FindsItem b.labels b.items m i) at_k (items_held b.labels xs a b k i is here) in
    let short : k < length b.items = slice_get_within b.items k found.entry found.there in
    let short_words : k < length code.words = omega (arith, code.count) in
    let word_there : slice_get code.words k ≡ Some (get_or code.words k 0) =
    slice_get-get_or code.words k 0 short_words in
    record {
      word = get_or code.words k 0;
      there = word_there;
      is = found.is (get_or code.words k 0) (code.each k found.entry (get_or code.words k 0) found.there word_there);
    }

-- ---- bytes

abbrev encode : ℕ → List ℕ
encode w = to_le_bytes w32 w

-- the four bytes of a word make it
abbrev pub joined_bytes : ℕ → ℕ → ℕ → ℕ → ℕ
joined_bytes b0 b1 b2 b3 = b0 + 256 * (b1 + 256 * (b2 + 256 * (b3 + 256 * 0)))

pub bytes_join : (w : ℕ) → w < 2 ^ 32
    → joined_bytes (get_or (encode w) 0 0) (get_or (encode w) 1 0) (get_or (encode w) 2 0) (get_or (encode w) 3 0) ≡ w
bytes_join w lt = omega arith

-- ---- a part of a list

taken : {X : Type 0} (xs : List X) (count k : ℕ) (x : X) → slice_get (take count xs) k ≡ Some x
    → slice_get xs k ≡ Some x
taken [] zero k x is = absurd cc
taken [] (suc count) k x is = absurd cc
taken (y ∷ xs) zero k x is = absurd cc
taken (y ∷ xs) (suc count) zero x is = is
taken (y ∷ xs) (suc count) (suc k) x is = taken xs count k x is

dropped : {X : Type 0} (xs : List X) (n k : ℕ) → slice_get (drop n xs) k ≡ slice_get xs (n + k)
dropped xs zero k = ap (slice_get xs) (omega arith)
dropped [] (suc n) k = refl
dropped (y ∷ xs) (suc n) k =
    let same : suc (n + k) ≡ suc n + k = omega arith in
    dropped xs n k ∙ ap (slice_get (y ∷ xs)) same

pub within : {X : Type 0} (xs : List X) (n count k : ℕ) (x : X) → slice_get (take count (drop n xs)) k ≡ Some x
    → slice_get xs (n + k) ≡ Some x
within xs n count k x is = sym (dropped xs n k) ∙ taken (drop n xs) count k x is
