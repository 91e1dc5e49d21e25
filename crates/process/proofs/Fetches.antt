-- The instruction word at an address that is a multiple of 4: its four bytes lie in one page.
use Rattle.process.proofs.Common.{nat_tests, ◌≡◌, ◌≢◌, ℕ, ◌+◌, ◌*◌, ◌/◌, ◌%◌, ◌&&◌, List, [], ◌∷◌, map, Option, Some, None, Bool, true, false, cond, nat_le, nat_lt, nat_eq, nat_cmp, refl, ap, sym, ◌∙◌, arith, option_map, ne_eqb, is_in, permission_of, ImagePage, code_word, image_run, page_of, return_run, stack_run, start_runs, word_of_page, is_le, is_lt, slice_index, joined, can_execute, code_byte, image_byte, page_byte, word_in, suc, zero, ◌^◌, ◌≤◌}
use Rattle.std.proofs.Math.Nat.{zero-div}
use Rattle.mach_types.specs.Bytes.{byte_of}
use Rattle.elf_load.specs.Start.{return_byte, return_words}
use Rattle.process.specs.Pages.{word_of}

-- a byte of page n at an offset, where it may be executed
abbrev pub code_in : List ImagePage → ℕ → ℕ → Option ℕ
code_in pages n offset = cond (can_execute (permission_of (start_runs pages) n)) (Some (page_byte pages n offset)) None

in_page : (pages : List ImagePage) (a n o : ℕ) → a / 4096 ≡ n → a % 4096 ≡ o → code_byte pages a ≡ code_in pages n o
in_page pages a n o num off = ap (λ m. code_in pages m (a % 4096)) num ∙ ap (code_in pages n) off

-- the four bytes of an aligned word
pub four_bytes : (pages : List ImagePage) (a : ℕ) → a % 4 ≡ 0 →
    code_word pages a ≡ joined (code_in pages (a / 4096) (a % 4096)) (joined (code_in pages (a / 4096) (a % 4096 + 1)) (joined (code_in pages (a / 4096) (a % 4096 + 2)) (joined (code_in pages (a / 4096) (a % 4096 + 3)) (Some 0))))
four_bytes pages a aligned =
    let e0 : code_byte pages a ≡ code_in pages (a / 4096) (a % 4096) = in_page pages a (a / 4096) (a % 4096) refl refl in
    let e1 : code_byte pages (a + 1) ≡ code_in pages (a / 4096) (a % 4096 + 1) = in_page pages (a + 1) (a / 4096) (a % 4096 + 1) (omega arith) (omega arith) in
    let e2 : code_byte pages (a + 1 + 1) ≡ code_in pages (a / 4096) (a % 4096 + 2) = in_page pages (a + 1 + 1) (a / 4096) (a % 4096 + 2) (omega arith) (omega arith) in
    let e3 : code_byte pages (a + 1 + 1 + 1) ≡ code_in pages (a / 4096) (a % 4096 + 3) = in_page pages (a + 1 + 1 + 1) (a / 4096) (a % 4096 + 3) (omega arith) (omega arith) in
    ap (λ x. joined x (joined (code_byte pages (a + 1)) (joined (code_byte pages (a + 1 + 1)) (joined (code_byte pages (a + 1 + 1 + 1)) (Some 0))))) e0
    ∙ ap (λ x. joined (code_in pages (a / 4096) (a % 4096)) (joined x (joined (code_byte pages (a + 1 + 1)) (joined (code_byte pages (a + 1 + 1 + 1)) (Some 0))))) e1
    ∙ ap (λ x. joined (code_in pages (a / 4096) (a % 4096)) (joined (code_in pages (a / 4096) (a % 4096 + 1)) (joined x (joined (code_byte pages (a + 1 + 1 + 1)) (Some 0))))) e2
    ∙ ap (λ x. joined (code_in pages (a / 4096) (a % 4096)) (joined (code_in pages (a / 4096) (a % 4096 + 1)) (joined (code_in pages (a / 4096) (a % 4096 + 2)) (joined x (Some 0))))) e3

one_page : (m n : ℕ) → (nat_le m n && nat_lt n (m + 1)) ≡ nat_eq m n
one_page m n = grind (arith, nat_tests)

abbrev image_permission : Option ImagePage → Option ℕ
image_permission o = option_map (λ (p : ImagePage). p.perm) o

chosen : (b : Bool) (p : ImagePage) (o : Option ℕ) (rest : Option ImagePage) → o ≡ image_permission rest → cond b (Some p.perm) o ≡ image_permission (cond b (Some p) rest)
chosen true p o rest same = refl
chosen false p o rest same = same

-- the permission of a page of an image
permission-image : (pages : List ImagePage) (n : ℕ) → permission_of (map image_run pages) n ≡ image_permission (page_of pages n)
permission-image [] n = refl
permission-image (p ∷ pages) n =
    ap (λ b. let r : Option ℕ = cond b (Some p.perm) (permission_of (map image_run pages) n) in r) (one_page p.number n)
    ∙ chosen (nat_eq p.number n) p (permission_of (map image_run pages) n) (page_of pages n) (permission-image pages n)

last : (x b0 b1 b2 b3 : ℕ) → b0 + 256 * (b1 + 256 * (b2 + 256 * (b3 + 256 * 0))) ≡ b0 + 256 * (b1 + 256 * (b2 + 256 * b3))
last x b0 b1 b2 b3 = omega arith

-- a byte of a page of an image, where it may be executed
abbrev image_code : Option ImagePage → Option ℕ → ℕ → Option ℕ
image_code o permission k = cond (can_execute permission) (Some (image_byte o k)) None

by_page : (o : Option ImagePage) (permission : Option ℕ) (k : ℕ) → permission ≡ image_permission o →
    joined (image_code o permission k) (joined (image_code o permission (k + 1)) (joined (image_code o permission (k + 2)) (joined (image_code o permission (k + 3)) (Some 0)))) ≡ word_of_page o k
by_page None permission k is = rw is refl
by_page (Some p) permission k is = rw is (go (can_execute (Some p.perm)))
  where
    go : (b : Bool) → joined (cond b (Some (slice_index p.bytes k)) None) (joined (cond b (Some (slice_index p.bytes (k + 1))) None) (joined (cond b (Some (slice_index p.bytes (k + 2))) None) (joined (cond b (Some (slice_index p.bytes (k + 3))) None) (Some 0)))) ≡ cond b (Some (word_in p.bytes k)) None
    go true = ap Some (last 0 _ _ _ _)
    go false = refl

-- a page that a comparison of its number finds outside the stack
pub not_stack : (n : ℕ) (b : Bool) → b ≡ (is_le (nat_cmp 0x3FFFF00 n) && is_lt (nat_cmp n 0x3FFFF40)) → b ≡ false → is_in stack_run n ≡ false
not_stack n b is outside = grind (arith, nat_tests)

-- a page of the image
pub word_of_image : (pages : List ImagePage) (a : ℕ) → a % 4 ≡ 0 → is_in stack_run (a / 4096) ≡ false → a / 4096 ≢ 0x3FFFFF0 → code_word pages a ≡ word_of_page (page_of pages (a / 4096)) (a % 4096)
word_of_image pages a aligned stack other =
    let not_return : is_in return_run (a / 4096) ≡ false = one_page 0x3FFFFF0 (a / 4096) ∙ ne_eqb 0x3FFFFF0 (a / 4096) (λ e. other (sym e)) in
    four_bytes pages a aligned ∙ (rw (stack, not_return) (by_page (page_of pages (a / 4096)) (permission_of (map image_run pages) (a / 4096)) (a % 4096) (permission-image pages (a / 4096))))

-- THE RETURN PAGE

past_two : (a b k : ℕ) → 2 ≤ k → slice_index (a ∷ b ∷ []) k ≡ 0
past_two a b zero h = absurd (omega arith)
past_two a b (suc zero) h = absurd (omega arith)
past_two a b (suc (suc k)) h = refl

zero_past : (k : ℕ) → 16 ≤ k → return_byte k ≡ 0
zero_past k h =
    let none : slice_index return_words (k / 8) ≡ 0 = past_two 0x0000007308B00893 0x0000007308B00893 (k / 8) (omega arith) in
    ap (λ w. byte_of w (k % 8)) none ∙ ap (λ x. x % 256) (zero-div (256 ^ (k % 8)))

-- behind its two words it has zeros
pub return_past : (k : ℕ) → 16 ≤ k → 0 ≡ word_of return_byte k
return_past k h =
    let b0 = zero_past k h in
    let b1 = zero_past (k + 1) (omega arith) in
    let b2 = zero_past (k + 2) (omega arith) in
    let b3 = zero_past (k + 3) (omega arith) in
    sym (λ i. b0 i + 256 * (b1 i + 256 * (b2 i + 256 * b3 i)))
