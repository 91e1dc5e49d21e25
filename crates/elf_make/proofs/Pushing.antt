-- Fields one after the other.
use Rattle.std.proofs.Common.{◌≡◌, ℕ, zero, suc, ◌+◌, ◌≤◌, true, false, cond, Bool, List, ◌++◌, length, take, drop, Result, Ok, Err, OnOk, refl, ap, ◌∙◌, arith, append_assoc}
use Rattle.std.specs.Bool.{OnTrue}
use Rattle.std.specs.Int.{bytes_low_first}
use Rattle.std.specs.Result.{is_ok}
use Rattle.std.proofs.lemmas.List.{take_at}
use Rattle.byte_views.specs.Words.{IsWordSize, with_word}
use Rattle.byte_views.proofs.Laws.{with_word-front}
use Rattle.elf_make.specs.Layout.{field}

-- a number has as many bytes as asked for
length-bytes_low_first : (i n x : ℕ) → length (bytes_low_first i n x) ≡ n
length-bytes_low_first i zero x = refl
length-bytes_low_first i (suc n) x = let rest = length-bytes_low_first (suc i) n x in omega (arith, rest)

pub length-field : (size number : ℕ) → length (field size number) ≡ size
unfolding field
length-field size number = length-bytes_low_first 0 size number

-- one list more behind a first
pub more : (old xs f g a : List ℕ) → f ≡ old ++ xs → g ≡ f ++ a → g ≡ old ++ (xs ++ a)
more old xs f g a front now = now ∙ ap (λ (l : List ℕ). l ++ a) front ∙ append_assoc old xs a

pub last : {T E : Type 0} (r : Result T E) (old xs f g a : List ℕ) → f ≡ old ++ xs → OnOk r (g ≡ f ++ a) → OnOk r (g ≡ old ++ (xs ++ a))
last (Ok x) old xs f g a front now = more old xs f g a front now
last (Err e) old xs f g a front now = tt

-- the field that was written into an array
written_field : (zeros bytes : List ℕ) (size number : ℕ) → bytes ≡ with_word zeros 0 size number → take size bytes ≡ field size number
unfolding field
written_field zeros bytes size number e =
    ap (take size) (e ∙ with_word-front zeros size size number refl) ∙ take_at (bytes_low_first 0 size number) (drop size zeros) size (length-bytes_low_first 0 size number)

word_in_eight : (size : ℕ) → IsWordSize size → 0 + size ≤ 8
word_in_eight size word = grind (arith, word)

pub pushed_field : {T E : Type 0} (r : Result T E) (old new zeros bytes : List ℕ) (size number : ℕ) (fits : Bool) → IsWordSize size → (0 + size ≤ 8 → fits ≡ true) → OnTrue fits (bytes ≡ with_word zeros 0 size number) → new ≡ cond (is_ok r) (old ++ take size bytes) old → OnOk r (new ≡ old ++ field size number)
pushed_field (Ok x) old new zeros bytes size number true word here put now = now ∙ ap (λ (l : List ℕ). old ++ l) (written_field zeros bytes size number put)
pushed_field (Ok x) old new zeros bytes size number false word here put now = absurd (let clash = here (word_in_eight size word) in cc)
pushed_field (Err e) old new zeros bytes size number fits word here put now = tt
