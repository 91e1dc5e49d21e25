-- Instructions that are kept of a program.
use Rattle.process.proofs.Common.{◌≡◌, ℕ, ◌+◌, ◌-◌, ◌*◌, ◌/◌, ◌%◌, ◌^◌, ◌<◌, ◌≤◌, get_or, List, [], ◌∷◌, ◌++◌, length, ap, sym, ◌∙◌, refl, arith, Option, Some, slice_get, inl, inr, cases_eq, length_push, slice_get_read, ImagePage, Inst, code_word, instruction_of, AreDecoded, get_or_append_left, get_or_push, get_or_from_slice_get, slice_get_within}

-- as many words behind the first as an address lies behind it, where the difference is taken modulo 2^64
place_is : (at first n : ℕ) → n ≤ 65536 → first % 4 ≡ 0 → first < 2 ^ 39 → at % 4 ≡ 0 → at < 2 ^ 64 → (at + (2 ^ 64 - first)) % 2 ^ 64 / 4 < n → first + 4 * ((at + (2 ^ 64 - first)) % 2 ^ 64 / 4) ≡ at
place_is at first n few first_aligned first_small aligned small below = omega arith

-- the instruction that is kept at that place
pub kept_at : (pages : List ImagePage) (first at : ℕ) (insts : List (Option Inst)) (i : Option Inst) → AreDecoded pages first insts → length insts ≤ 65536 → first % 4 ≡ 0 → first < 2 ^ 39
    → at % 4 ≡ 0 → at < 2 ^ 64 → (at + (2 ^ 64 - first)) % 2 ^ 64 / 4 < length insts → i ≡ get_or insts ((at + (2 ^ 64 - first)) % 2 ^ 64 / 4) i → i ≡ instruction_of (code_word pages at)
kept_at pages first at insts i kept few first_aligned first_small aligned small below item =
    let place = (at + (2 ^ 64 - first)) % 2 ^ 64 / 4 in
    kept place i (slice_get_read insts (length insts) place i refl below item)
    ∙ ap (λ (a : ℕ). instruction_of (code_word pages a)) (place_is at first (length insts) few first_aligned first_small aligned small below)

-- none of them
pub none_decoded : (pages : List ImagePage) (first : ℕ) (insts : List (Option Inst)) → insts ≡ [] → AreDecoded pages first insts
none_decoded pages first insts none k inst at =
    let within : k < length insts = slice_get_within insts k inst at in
    let no_length : length insts ≡ 0 = ap length none in
    absurd (omega arith)

-- one more, which is that of the next word
pub one_decoded : (pages : List ImagePage) (first : ℕ) (insts later : List (Option Inst)) (i : Option Inst) (n : ℕ) → length insts ≡ n → AreDecoded pages first insts
    → later ≡ insts ++ i ∷ [] → i ≡ instruction_of (code_word pages (first + 4 * n)) → AreDecoded pages first later
one_decoded pages first insts later i n long kept is own k inst at =
    let here : slice_get (insts ++ i ∷ []) k ≡ Some inst = ap (λ (xs : List (Option Inst)). slice_get xs k) (sym is) ∙ at in
    let read = get_or_from_slice_get (insts ++ i ∷ []) k inst inst here in
    let within : k < length (insts ++ i ∷ []) = slice_get_within (insts ++ i ∷ []) k inst here in
    elim (cases_eq k (length insts)) [
      | inl same ↦ sym read ∙ get_or_push insts i inst k (sym same) ∙ own
          ∙ ap (λ (m : ℕ). instruction_of (code_word pages (first + 4 * m))) (sym (same ∙ long))
      | inr two ↦
          let before : k < length insts = omega (arith, length_push insts i) in
          kept k inst (slice_get_read insts (length insts) k inst refl before (sym read ∙ get_or_append_left insts (i ∷ []) inst k before))
    ]
