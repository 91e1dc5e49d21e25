-- The words of the data are read where they stand.
use Rattle.std.proofs.Common.{◌≡◌, ℕ, zero, suc, ◌+◌, ◌*◌, ◌/◌, ◌%◌, ◌<◌, ◌≤◌, ◌^◌, List, [], ◌∷◌, length, Some, refl, ap, ◌∙◌}
use Rattle.std.proofs.Common.{arith, get_or, slice_get, length-append}
use Rattle.std.specs.Int.{to_le_bytes, w64}
use Rattle.std.specs.List.{flat_map}
use Rattle.std.proofs.Math.Nat.{mul-suc}
use Rattle.std.proofs.lemmas.List.{get_or_append_left, get_or-append-add}
use Rattle.std.proofs.lemmas.Option.{slice_get_within}
use Rattle.elf_load.specs.declared.image.ImagePage.{ImagePage}
use Rattle.elf_load.specs.Start.{image_byte, loaded_byte, page_byte, page_of}
use Rattle.guest_programs.specs.Blocks.{start_word}

abbrev encode : ℕ → List ℕ
encode w = to_le_bytes w64 w

pub length_words : (words : List ℕ) → length (flat_map encode words) ≡ 8 * length words
length_words [] = refl
length_words (w ∷ words) =
    let rest = length_words words in
    let front = length-append (encode w) (flat_map encode words) in
    omega arith

-- byte j of word k, where each word has n bytes
pub byte_at_word : (code : ℕ → List ℕ) (n : ℕ) → ((w : ℕ) → length (code w) ≡ n) → (words : List ℕ) (k j w : ℕ)
    → slice_get words k ≡ Some w → j < n → get_or (flat_map code words) (n * k + j) 0 ≡ get_or (code w) j 0
byte_at_word code n long [] k j w at lt = absurd cc
byte_at_word code n long (x ∷ words) zero j w at lt =
    let same : x ≡ w = cc in
    let place : n * 0 + j ≡ j = omega arith in
    let within : j < length (code x) = omega (arith, long x) in
    ap (λ m. get_or (flat_map code (x ∷ words)) m 0) place
    ∙ get_or_append_left (code x) (flat_map code words) 0 j within
    ∙ ap (λ y. get_or (code y) j 0) same
byte_at_word code n long (x ∷ words) (suc k) j w at lt =
    let place : n * suc k + j ≡ length (code x) + (n * k + j) = omega (arith, long x, mul-suc n k) in
    ap (λ m. get_or (flat_map code (x ∷ words)) m 0) place
    ∙ get_or-append-add (code x) (flat_map code words) (n * k + j) 0
    ∙ byte_at_word code n long words k j w at lt

eight_bytes : (n x0 x1 x2 x3 x4 x5 x6 x7 : ℕ) → n < 2 ^ 64 → x0 ≡ n % 256 → x1 ≡ n / 256 % 256
    → x2 ≡ n / 65536 % 256 → x3 ≡ n / 16777216 % 256 → x4 ≡ n / 4294967296 % 256 → x5 ≡ n / 1099511627776 % 256
    → x6 ≡ n / 281474976710656 % 256 → x7 ≡ n / 72057594037927936 % 256
    → x0 + 256 * (x1 + 256 * (x2 + 256 * (x3 + 256 * (x4 + 256 * (x5 + 256 * (x6 + 256 * (x7 + 256 * 0))))))) ≡ n
eight_bytes n x0 x1 x2 x3 x4 x5 x6 x7 lt e0 e1 e2 e3 e4 e5 e6 e7 = omega arith

-- bytes with which page 32 begins
abbrev pub AreData : List ImagePage → List ℕ → Type 0
AreData pages bytes = (j : ℕ) → j < length bytes → image_byte (page_of pages 32) j ≡ get_or bytes j 0

module _ (pages : List ImagePage) (bytes words : List ℕ) (are : AreData pages bytes)
    (bytes_are : bytes ≡ flat_map encode words) (few : length words ≤ 512) where
  byte_is : (m j w a : ℕ) → slice_get words m ≡ Some w → j < 8 → a ≡ 0x20000 + (8 * m + j)
      → loaded_byte pages a ≡ get_or (encode w) j 0
  byte_is m j w a at lt is =
      let short : m < length words = slice_get_within words m w at in
      let long : length bytes ≡ 8 * length words = ap length bytes_are ∙ length_words words in
      let number : a / 4096 ≡ 32 = omega arith in
      let offset : a % 4096 ≡ 8 * m + j = omega arith in
      ap (λ n. page_byte pages n (a % 4096)) number ∙ ap (page_byte pages 32) offset ∙ are (8 * m + j) (omega arith)
      ∙ ap (λ xs. get_or xs (8 * m + j) 0) bytes_are ∙ byte_at_word encode 8 (λ w. refl) words m j w at lt

  pub word_is : (m w : ℕ) → slice_get words m ≡ Some w → w < 2 ^ 64 → start_word pages (0x20000 + 8 * m) ≡ Some w
  word_is m w at fits =
      ap Some (eight_bytes w _ _ _ _ _ _ _ _ fits
      (byte_is m 0 w (0x20000 + 8 * m) at (omega arith) (omega arith))
      (byte_is m 1 w (0x20000 + 8 * m + 1) at (omega arith) (omega arith))
      (byte_is m 2 w (0x20000 + 8 * m + 1 + 1) at (omega arith) (omega arith))
      (byte_is m 3 w (0x20000 + 8 * m + 1 + 1 + 1) at (omega arith) (omega arith))
      (byte_is m 4 w (0x20000 + 8 * m + 1 + 1 + 1 + 1) at (omega arith) (omega arith))
      (byte_is m 5 w (0x20000 + 8 * m + 1 + 1 + 1 + 1 + 1) at (omega arith) (omega arith))
      (byte_is m 6 w (0x20000 + 8 * m + 1 + 1 + 1 + 1 + 1 + 1) at (omega arith) (omega arith))
      (byte_is m 7 w (0x20000 + 8 * m + 1 + 1 + 1 + 1 + 1 + 1 + 1) at (omega arith) (omega arith)))
