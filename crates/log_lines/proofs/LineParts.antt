-- The line of an entry is its front, its last three digits and a newline.
use Rattle.std.proofs.Common.{◌≡◌, ℕ, ◌+◌, ◌-◌, ◌<◌, ◌≤◌, ◌/◌, ◌%◌, List, [], ◌∷◌, ◌++◌, length, set, take, refl, ap, sym, ◌∙◌, arith, append_assoc, length-append, length-set}
use Rattle.std.proofs.lemmas.List.{take_more_set}
use Rattle.std.proofs.Math.Seq.{take-append_seam, take-append-add}
use Rattle.std.specs.Fmt.{decimal}
use Rattle.mach_types.specs.declared.events.Entry.{Entry}
use Rattle.step_log.specs.Text.{entry_text, hex_digit, hex_text, kind_word}
use Rattle.log_lines.specs.LineParts.{front_text, tail_text}

hex_apart : (n : ℕ) → hex_text 16 n ≡ hex_text 13 (n / 4096) ++ hex_digit (n / 256 % 16) ∷ hex_digit (n / 16 % 16) ∷ hex_digit (n % 16) ∷ []
unfolding hex_text
hex_apart n =
    let two : n / 256 ≡ n / 16 / 16 = omega arith in
    let three : n / 4096 ≡ n / 16 / 16 / 16 = omega arith in
    rw (two, three) refl

apart : (h : ℕ) (kind number high low : List ℕ)
    → (h ∷ 32 ∷ (kind ++ 32 ∷ (number ++ 32 ∷ (high ++ low)))) ++ 10 ∷ [] ≡ (h ∷ 32 ∷ (kind ++ 32 ∷ (number ++ 32 ∷ high))) ++ (low ++ 10 ∷ [])
apart h kind number high low = simp append_assoc

pub text_apart : (e : Entry) → entry_text e ≡ front_text e ++ tail_text e.pc
text_apart e =
    rw (hex_apart e.pc)
    (apart (48 + e.hart.0) (kind_word e.kind) (decimal e.tid.0) (hex_text 13 (e.pc / 4096))
    (hex_digit (e.pc / 256 % 16) ∷ hex_digit (e.pc / 16 % 16) ∷ hex_digit (e.pc % 16) ∷ []))

pub length_apart : (e : Entry) → length (entry_text e) ≡ length (front_text e) + 4
length_apart e = ap length (text_apart e) ∙ length-append (front_text e) (tail_text e.pc)

-- what stands before the last four bytes of a line
pub front_is : (e : Entry) (line : List ℕ) → line ≡ entry_text e → take (length line - 4) line ≡ front_text e
front_is e line is =
    let whole : line ≡ front_text e ++ tail_text e.pc = is ∙ text_apart e in
    let long : length line ≡ length (front_text e) + 4 = ap length whole ∙ length-append (front_text e) (tail_text e.pc) in
    let cut : length line - 4 ≡ length (front_text e) = omega (arith, long) in
    ap (λ n. take n line) cut ∙ ap (take (length (front_text e))) whole ∙ take-append_seam (front_text e) (tail_text e.pc)

-- a text with a front and a tail behind it is a text with the line
pub line_behind : (e : Entry) (text front : List ℕ) → front ≡ front_text e → (text ++ front) ++ tail_text e.pc ≡ text ++ entry_text e
line_behind e text front is =
    ap (λ (f : List ℕ). (text ++ f) ++ tail_text e.pc) is ∙ append_assoc text (front_text e) (tail_text e.pc)
    ∙ ap (λ (line : List ℕ). text ++ line) (sym (text_apart e))

-- the first bytes of what was appended are kept
pub front_kept : (text bytes longer : List ℕ) (len at : ℕ) → longer ≡ text ++ bytes → at ≡ length text + len → take at longer ≡ text ++ take len bytes
front_kept text bytes longer len at is place =
    ap (λ n. take n longer) place ∙ ap (take (length text + len)) is ∙ take-append-add text bytes len

-- four bytes are written one behind the other
one_more : (xs : List ℕ) (i n byte : ℕ) → n ≡ i + 1 → i < length xs → take n (set xs i byte) ≡ take i xs ++ byte ∷ []
one_more xs i n byte is within = ap (λ k. take k (set xs i byte)) is ∙ take_more_set xs i byte within

regrouped : (text : List ℕ) (w x y z : ℕ) → (((text ++ w ∷ []) ++ x ∷ []) ++ y ∷ []) ++ z ∷ [] ≡ text ++ w ∷ x ∷ y ∷ z ∷ []
regrouped text w x y z = simp append_assoc

pub four_written : (xs : List ℕ) (at w x y z : ℕ) → at + 4 ≤ length xs
    → take (at + 4) (set (set (set (set xs at w) (at + 1) x) (at + 2) y) (at + 3) z) ≡ take at xs ++ w ∷ x ∷ y ∷ z ∷ []
four_written xs at w x y z fits =
    let one = set xs at w in
    let two = set one (at + 1) x in
    let three = set two (at + 2) y in
    let long : length three ≡ length xs = length-set two (at + 2) y ∙ length-set one (at + 1) x ∙ length-set xs at w in
    let long_two : length two ≡ length xs = length-set one (at + 1) x ∙ length-set xs at w in
    one_more three (at + 3) (at + 4) z (omega arith) (omega (arith, long))
    ∙ ap (λ (l : List ℕ). l ++ z ∷ []) (one_more two (at + 2) (at + 3) y (omega arith) (omega (arith, long_two)))
    ∙ ap (λ (l : List ℕ). (l ++ y ∷ []) ++ z ∷ []) (one_more one (at + 1) (at + 2) x (omega arith) (omega (arith, length-set xs at w)))
    ∙ ap (λ (l : List ℕ). ((l ++ x ∷ []) ++ y ∷ []) ++ z ∷ []) (one_more xs at (at + 1) w refl (omega arith))
    ∙ regrouped (take at xs) w x y z
