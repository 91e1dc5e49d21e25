-- The words of the code are fetched where they stand.
use Rattle.std.proofs.Common.{◌≡◌, ℕ, ◌+◌, ◌*◌, ◌%◌, ◌<◌, ◌^◌, List, [], ◌∷◌, length, Option, Some, None}
use Rattle.std.proofs.Common.{cond, refl, ap, ◌∙◌, arith, eq-eqb, get_or, slice_get, All, length-append}
use Rattle.std.specs.Int.{to_le_bytes, w32}
use Rattle.std.specs.List.{flat_map}
use Rattle.std.proofs.lemmas.Option.{get_or_from_slice_get, slice_get_within}
use Rattle.mach_types.specs.Bytes.{joined}
use Rattle.elf_load.specs.declared.image.ImagePage.{ImagePage}
use Rattle.elf_load.specs.Start.{code_byte, code_word}
use Rattle.block_model.specs.Instruction.{fetched}
use Rattle.guest_programs.proofs.Held.{bytes_join, joined_bytes}
use Rattle.guest_programs.proofs.Words.{byte_at_word}

abbrev encoded : List ℕ → List ℕ
encoded words = flat_map (λ w. to_le_bytes w32 w) words

pub length_encoded : (words : List ℕ) → length (encoded words) ≡ 4 * length words
length_encoded [] = refl
length_encoded (w ∷ words) =
    let rest = length_encoded words in
    let front = length-append (to_le_bytes w32 w) (encoded words) in
    omega arith

four : (x0 x1 x2 x3 : Option ℕ) (b0 b1 b2 b3 : ℕ) → x0 ≡ Some b0 → x1 ≡ Some b1 → x2 ≡ Some b2 → x3 ≡ Some b3
    → joined x0 (joined x1 (joined x2 (joined x3 (Some 0)))) ≡ Some (joined_bytes b0 b1 b2 b3)
four x0 x1 x2 x3 b0 b1 b2 b3 e0 e1 e2 e3 = rw (e0, e1, e2, e3) refl

-- bytes that can be executed from 0x10000 on
abbrev pub AreCode : List ImagePage → List ℕ → Type 0
AreCode pages bytes = (j : ℕ) → j < length bytes → code_byte pages (0x10000 + j) ≡ Some (get_or bytes j 0)

module _ (pages : List ImagePage) (bytes words : List ℕ) (are : AreCode pages bytes) (bytes_are : bytes ≡ encoded words)
    (small : All (λ w. w < 2 ^ 32) words) where
  byte_of_word : (k j w a : ℕ) → slice_get words k ≡ Some w → j < 4 → a ≡ 0x10000 + (4 * k + j)
      → code_byte pages a ≡ Some (get_or (to_le_bytes w32 w) j 0)
  byte_of_word k j w a at lt is =
      let short : k < length words = slice_get_within words k w at in
      let long : length bytes ≡ 4 * length words = ap length bytes_are ∙ length_encoded words in
      ap (code_byte pages) is ∙ are (4 * k + j) (omega arith)
      ∙ ap Some (ap (λ xs. get_or xs (4 * k + j) 0) bytes_are ∙ byte_at_word (to_le_bytes w32) 4 (λ w. refl) words k j w at lt)

  word_is : (k w : ℕ) → slice_get words k ≡ Some w → code_word pages (0x10000 + 4 * k) ≡ Some w
  word_is k w at =
      let low : get_or words k w < 2 ^ 32 = small k w (slice_get_within words k w at) in
      let is : get_or words k w ≡ w = get_or_from_slice_get words k w w at in
      let fits : w < 2 ^ 32 = omega arith in
      four _ _ _ _ _ _ _ _ (byte_of_word k 0 w (0x10000 + 4 * k) at (omega arith) (omega arith))
      (byte_of_word k 1 w (0x10000 + 4 * k + 1) at (omega arith) (omega arith))
      (byte_of_word k 2 w (0x10000 + 4 * k + 1 + 1) at (omega arith) (omega arith))
      (byte_of_word k 3 w (0x10000 + 4 * k + 1 + 1 + 1) at (omega arith) (omega arith))
      ∙ ap Some (bytes_join w fits)

  pub fetched_is : (k w : ℕ) → slice_get words k ≡ Some w → fetched pages (0x10000 + 4 * k) ≡ Some w
  fetched_is k w at =
      let whole : (0x10000 + 4 * k) % 4 ≡ 0 = omega arith in
      ap (λ b. cond b (code_word pages (0x10000 + 4 * k)) None) (eq-eqb ((0x10000 + 4 * k) % 4) 0 whole)
      ∙ word_is k w at
