-- Laws of `Words`: parts of bytes, and bytes of a number.
use Rattle.std.proofs.Common.{◌≡◌, ℕ, zero, suc, ◌+◌, ◌*◌, ◌/◌, ◌%◌, ◌^◌, ◌-◌, ◌≤◌, ◌<◌, List, [], ◌∷◌, ◌++◌, length, take, drop, slice_index, slice_set, refl, sym, ap, ◌∙◌, arith, zero-add, drop-drop, append_assoc, append-nil, length-drop, length-append}
use Rattle.std.proofs.lemmas.List.{get_or-take, get_or-drop, take_all, drop_all, length-take-le, get_or_append_left, get_or-append_right, drop_at}
use Rattle.std.specs.Int.{bytes_low_first}
use Rattle.byteorder.specs.Endian.{little_from}
use Rattle.byteorder.specs.Numbers.{length-bytes_low_first, little_from-lt, little_number-reads_back}
use Rattle.byte_views.specs.Words.{word_at, with_word}
use borrow.Rule.Slice.PartMut.{put_mid}

-- the number is that of the crate `byteorder`
pub word_at-little_from : (bytes : List ℕ) (at size : ℕ) → word_at bytes at size ≡ little_from at size bytes
unfolding word_at
word_at-little_from bytes at zero = refl
word_at-little_from bytes at (suc size) = ap (λ (rest : ℕ). slice_index bytes at + 256 * rest) (word_at-little_from bytes (suc at) size)

-- the number in a part of the bytes
pub word_at-take-drop : (bytes : List ℕ) (start many at size : ℕ) → at + size ≤ many → word_at (take many (drop start bytes)) at size ≡ word_at bytes (start + at) size
unfolding word_at
word_at-take-drop bytes start many at zero h = refl
word_at-take-drop bytes start many at (suc size) h =
    let byte : slice_index (take many (drop start bytes)) at ≡ slice_index bytes (start + at) = get_or-take many (drop start bytes) at 0 (omega arith) ∙ get_or-drop start bytes at 0 in
    let place : start + suc at ≡ suc (start + at) = omega arith in
    let rest : word_at (take many (drop start bytes)) (suc at) size ≡ word_at bytes (suc (start + at)) size = word_at-take-drop bytes start many (suc at) size (omega arith) ∙ ap (λ (k : ℕ). word_at bytes k size) place in
    rw (byte, rest) refl

-- what `byteorder` reads from a word of that size
pub word_read : (word : List ℕ) (size n : ℕ) → size ≡ n → little_from 0 n word ≡ word_at word 0 size
word_read word size n e = sym (word_at-little_from word 0 n) ∙ ap (λ (k : ℕ). word_at word 0 k) (sym e)

pub byte_read : (word : List ℕ) (size : ℕ) → size ≡ 1 → slice_index word 0 ≡ word_at word 0 size
byte_read word size e = let read : slice_index word 0 + 256 * 0 ≡ word_at word 0 size = word_read word size 1 e in omega arith

-- a word at the front
pub with_word-front : (word : List ℕ) (size n value : ℕ) → size ≡ n → with_word word 0 size value ≡ bytes_low_first 0 n value ++ drop n word
unfolding with_word
with_word-front word size n value e = ap (λ (k : ℕ). bytes_low_first 0 k value ++ drop (0 + k) word) e ∙ ap (λ (k : ℕ). bytes_low_first 0 n value ++ drop k word) (zero-add n)

-- one byte at the front
pub byte_written : (word : List ℕ) (size value : ℕ) → size ≡ 1 → size ≤ length word → slice_set word 0 (value % 256) ≡ with_word word 0 size value
byte_written [] size value e h = absurd (omega arith)
byte_written (b ∷ bs) size value e h = sym (with_word-front (b ∷ bs) size 1 value e)

-- two bytes of the low 16 bits are those of the value
pub two_bytes : (value : ℕ) (rest : List ℕ) → bytes_low_first 0 2 (value % 65536) ++ rest ≡ bytes_low_first 0 2 value ++ rest
two_bytes value rest =
    let first : value % 65536 % 256 ≡ value % 256 = omega arith in
    let second : value % 65536 / 256 % 256 ≡ value / 256 % 256 = omega arith in
    rw (first, second) refl

-- four bytes of the low 32 bits are those of the value
pub four_bytes : (value : ℕ) (rest : List ℕ) → bytes_low_first 0 4 (value % 4294967296) ++ rest ≡ bytes_low_first 0 4 value ++ rest
four_bytes value rest =
    let first : value % 4294967296 % 256 ≡ value % 256 = omega arith in
    let second : value % 4294967296 / 256 % 256 ≡ value / 256 % 256 = omega arith in
    let third : value % 4294967296 / 65536 % 256 ≡ value / 65536 % 256 = omega arith in
    let fourth : value % 4294967296 / 16777216 % 256 ≡ value / 16777216 % 256 = omega arith in
    rw (first, second, third, fourth) refl

-- a word written at the front of what follows place `at`
pub with_word-part : (bytes word : List ℕ) (at size value : ℕ) → at + size ≤ length bytes → word ≡ with_word (take (length bytes - at) (drop at bytes)) 0 size value → put_mid at (length bytes - at) bytes word ≡ with_word bytes at size value
unfolding with_word
with_word-part bytes word at size value h e =
    let all : take (length bytes - at) (drop at bytes) ≡ drop at bytes = take_all (length bytes - at) (drop at bytes) (omega (arith, length-drop at bytes)) in
    let front : word ≡ bytes_low_first 0 size value ++ drop size (drop at bytes) = e ∙ with_word-front (take (length bytes - at) (drop at bytes)) size size value refl ∙ ap (λ (part : List ℕ). bytes_low_first 0 size value ++ drop size part) all in
    let past : drop (length bytes - at) (drop at bytes) ≡ [] = drop_all (length bytes - at) (drop at bytes) (omega (arith, length-drop at bytes)) in
    let twice : drop size (drop at bytes) ≡ drop (at + size) bytes = drop-drop size at bytes in
    let placed : word ++ drop (length bytes - at) (drop at bytes) ≡ bytes_low_first 0 size value ++ drop (at + size) bytes = ap (λ (p : List ℕ). word ++ p) past ∙ append-nil word ∙ front ∙ ap (λ (p : List ℕ). bytes_low_first 0 size value ++ p) twice in
    ap (λ (p : List ℕ). take at bytes ++ p) placed ∙ sym (append_assoc (take at bytes) (bytes_low_first 0 size value) (drop (at + size) bytes))

-- the number that a part of the bytes is
pub word_at-part : (bytes : List ℕ) (at size number : ℕ) → at + size ≤ length bytes → number ≡ word_at (take (at + size - at) (drop at bytes)) 0 (length (take (at + size - at) (drop at bytes))) → number ≡ word_at bytes at size
word_at-part bytes at size number h e =
    let many : length (take (at + size - at) (drop at bytes)) ≡ size = length-take-le (at + size - at) (drop at bytes) (omega (arith, length-drop at bytes)) ∙ omega arith in
    let place : at + 0 ≡ at = omega arith in
    e ∙ ap (λ (k : ℕ). word_at (take (at + size - at) (drop at bytes)) 0 k) many
    ∙ word_at-take-drop bytes at (at + size - at) 0 size (omega arith) ∙ ap (λ (k : ℕ). word_at bytes k size) place

-- a word of bytes fits its bytes
pub word_at-lt : (bytes : List ℕ) (at size : ℕ) → ((i : ℕ) → slice_index bytes i < 256) → word_at bytes at size < 256 ^ size
word_at-lt bytes at size fits = rw word_at-little_from (little_from-lt at size bytes fits)

-- writing a word keeps the length
pub length-with_word : (bytes : List ℕ) (at size value : ℕ) → at + size ≤ length bytes → length (with_word bytes at size value) ≡ length bytes
unfolding with_word
length-with_word bytes at size value h =
    let front = length-take-le at bytes (omega arith) in
    let back = length-drop (at + size) bytes in
    let word = length-bytes_low_first 0 size value in
    omega (arith, length-append (take at bytes ++ bytes_low_first 0 size value) (drop (at + size) bytes), length-append (take at bytes) (bytes_low_first 0 size value))

-- a byte of the written word
pub slice_index-with_word-in : (bytes : List ℕ) (at size value k : ℕ) → at + size ≤ length bytes → k < size → slice_index (with_word bytes at size value) (at + k) ≡ slice_index (bytes_low_first 0 size value) k
unfolding with_word
slice_index-with_word-in bytes at size value k h lt =
    let front = length-take-le at bytes (omega arith) in
    let word = length-bytes_low_first 0 size value in
    let place : at + k - at ≡ k = omega arith in
    get_or_append_left (take at bytes ++ bytes_low_first 0 size value) (drop (at + size) bytes) 0 (at + k) (omega (arith, length-append (take at bytes) (bytes_low_first 0 size value)))
    ∙ get_or-append_right (take at bytes) (bytes_low_first 0 size value) at (at + k) 0 front (omega arith)
    ∙ ap (λ (j : ℕ). slice_index (bytes_low_first 0 size value) j) place

-- a byte before the written word, and one after it
pub slice_index-with_word-before : (bytes : List ℕ) (at size value k : ℕ) → at + size ≤ length bytes → k < at → slice_index (with_word bytes at size value) k ≡ slice_index bytes k
unfolding with_word
slice_index-with_word-before bytes at size value k h before =
    let front = length-take-le at bytes (omega arith) in
    get_or_append_left (take at bytes ++ bytes_low_first 0 size value) (drop (at + size) bytes) 0 k (omega (arith, length-append (take at bytes) (bytes_low_first 0 size value)))
    ∙ get_or_append_left (take at bytes) (bytes_low_first 0 size value) 0 k (omega arith) ∙ get_or-take at bytes k 0 before

pub slice_index-with_word-after : (bytes : List ℕ) (at size value k : ℕ) → at + size ≤ length bytes → at + size ≤ k → slice_index (with_word bytes at size value) k ≡ slice_index bytes k
unfolding with_word
slice_index-with_word-after bytes at size value k h after =
    let front = length-take-le at bytes (omega arith) in
    let word = length-bytes_low_first 0 size value in
    let many : length (take at bytes ++ bytes_low_first 0 size value) ≡ at + size = omega (arith, length-append (take at bytes) (bytes_low_first 0 size value)) in
    let place : at + size + (k - (at + size)) ≡ k = omega arith in
    get_or-append_right (take at bytes ++ bytes_low_first 0 size value) (drop (at + size) bytes) (at + size) k 0 many after
    ∙ get_or-drop (at + size) bytes (k - (at + size)) 0 ∙ ap (λ (j : ℕ). slice_index bytes j) place

-- the number of a part of the bytes
pub word_at-drop : (bytes : List ℕ) (start at size : ℕ) → word_at (drop start bytes) at size ≡ word_at bytes (start + at) size
unfolding word_at
word_at-drop bytes start at zero = refl
word_at-drop bytes start at (suc size) =
    let byte : slice_index (drop start bytes) at ≡ slice_index bytes (start + at) = get_or-drop start bytes at 0 in
    let place : start + suc at ≡ suc (start + at) = omega arith in
    let rest : word_at (drop start bytes) (suc at) size ≡ word_at bytes (suc (start + at)) size = word_at-drop bytes start (suc at) size ∙ ap (λ (k : ℕ). word_at bytes k size) place in
    rw (byte, rest) refl

-- a number that fits its bytes is read again
pub word_at-bytes : (value size : ℕ) (rest : List ℕ) → value < 256 ^ size → word_at (bytes_low_first 0 size value ++ rest) 0 size ≡ value
word_at-bytes value size rest fits = rw word_at-little_from (little_number-reads_back size value rest fits)

-- so is one that was written
pub word_at-with_word : (bytes : List ℕ) (at size value : ℕ) → at + size ≤ length bytes → value < 256 ^ size → word_at (with_word bytes at size value) at size ≡ value
unfolding with_word
word_at-with_word bytes at size value h fits =
    let front = length-take-le at bytes (omega arith) in
    let all : List ℕ = take at bytes ++ bytes_low_first 0 size value ++ drop (at + size) bytes in
    let behind : drop at all ≡ bytes_low_first 0 size value ++ drop (at + size) bytes = ap (drop at) (append_assoc (take at bytes) (bytes_low_first 0 size value) (drop (at + size) bytes)) ∙ drop_at (take at bytes) (bytes_low_first 0 size value ++ drop (at + size) bytes) at front in
    let place : at + 0 ≡ at = omega arith in
    ap (λ (k : ℕ). word_at all k size) (sym place) ∙ sym (word_at-drop all at 0 size) ∙ ap (λ (part : List ℕ). word_at part 0 size) behind ∙ word_at-bytes value size (drop (at + size) bytes) fits
