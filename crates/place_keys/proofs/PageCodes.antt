-- The words of pages tell the permission of each page, and each byte that is mapped.
use Rattle.std.proofs.Common.{◌≡◌, ℕ, ◌+◌, ◌-◌, ◌*◌, ◌/◌, ◌%◌, ◌<◌, ◌≤◌, Bool, true, false, ◌||◌, List, [], ◌∷◌, ◌++◌, Option, Some, None, IsSome, is_some, refl, sym, ap, ◌∙◌, append_assoc, arith, inl, inr}
use Rattle.std.specs.Option.{option_map, option_map_or}
use Rattle.std.proofs.lemmas.Bool.{cases_lt}
use Rattle.mach_types.specs.Kernel.Pages.{first_page}
use Rattle.mach_types.proofs.Laws.{first_page-no, first_page-some}
use Rattle.page_map.specs.Map.{Map, Page, break_in, byte_at, free_in, held_in, page_in, permission_in}
use Rattle.page_map.specs.declared.listing.TheConstants.{ALL_PAGES}
unfoldable use Rattle.place_keys.specs.Differences.{differences}
use Rattle.place_keys.specs.Differences.{IsWrittenOn, Written}
use Rattle.place_keys.specs.MappedPages.{is_page}
use Rattle.place_keys.specs.PageWords.{ALL_WORDS, memory_word, memory_words, page_word, pages_words, permission_word, permissions_words, start_word}
use Rattle.place_keys.specs.Words.{word}
use Rattle.place_keys.proofs.Alike.{HoldSamePages}
use Rattle.place_keys.proofs.FoundPages.{past_all}
use Rattle.place_keys.proofs.Codes.{after, word_key}
use Rattle.place_keys.proofs.DifferenceCodes.{differences_key, ended_on, moved, skipped, then_on}
use Rattle.place_keys.proofs.MemoryWords.{memory_there, unmapped_word, word_tells}

-- WHAT THEY TELL

permission_told : (o p : Option ℕ) → option_map_or (λ x. x + 1) o 0 ≡ option_map_or (λ x. x + 1) p 0 → o ≡ p
permission_told None None e = refl
permission_told None (Some b) e = let no : 0 ≡ b + 1 = e in absurd (omega arith)
permission_told (Some a) None e = let no : a + 1 ≡ 0 = e in absurd (omega arith)
permission_told (Some a) (Some b) e = let more : a + 1 ≡ b + 1 = e in let same : a ≡ b = omega arith in ap Some same

same_permissions : (start m m' : Map) → ((n : ℕ) → 0 ≤ n → n < 0 + ALL_PAGES → permission_word m n ≡ permission_word m' n) → (n : ℕ) → permission_in m n ≡ permission_in m' n
same_permissions start m m' told n = elim (cases_lt n ALL_PAGES) [
  | inl lt ↦ permission_told (permission_in m n) (permission_in m' n) (told n (omega arith) (omega arith))
  | inr past ↦
      ap (option_map (λ (p : Page). p.permission)) (past_all m n past) ∙ sym (ap (option_map (λ (p : Page). p.permission)) (past_all m' n past))
]

-- the byte of an address, on its page
abbrev byte_on : ℕ → Option Page → Option ℕ
byte_on a o = option_map (λ (p : Page). byte_at (a % 4096) p.bytes) o

module _ (start m m' : Map) (permissions : (n : ℕ) → permission_in m n ≡ permission_in m' n) (told : (n : ℕ) → 0 ≤ n → n < 0 + ALL_WORDS → memory_word start m n ≡ memory_word start m' n) where
  within : (n : ℕ) (p : Page) → page_in m n ≡ Some p → n < ALL_PAGES
  within n p at = elim (cases_lt n ALL_PAGES) [ inl lt ↦ lt | inr past ↦ let no : ⊥ = let none = past_all m n past in cc in absurd no ]

  small : (bytes : List ℕ) (i : ℕ) → byte_at i bytes < 256
  small bytes i = omega arith

  same_byte : (a : ℕ) (p q : Page) → page_in m (a / 4096) ≡ Some p → page_in m' (a / 4096) ≡ Some q → byte_at (a % 4096) p.bytes ≡ byte_at (a % 4096) q.bytes
  same_byte a p q at bt =
      let n = a / 4096 in
      let k = a % 4096 / 8 in
      let lt : k < 512 = omega arith in
      let high : n < ALL_PAGES = within n p at in
      let inside : 512 * n + k < 0 + ALL_WORDS = omega arith in
      let words : page_word p.bytes k ≡ page_word q.bytes k =
      sym (memory_there m n k lt start p at) ∙ told (512 * n + k) (omega arith) inside ∙ memory_there m' n k lt start q bt in
      let here : a % 4096 ≡ 8 * k + a % 8 = omega arith in
      ap (λ i. byte_at i p.bytes) here
      ∙ word_tells (λ i. byte_at i p.bytes) (λ i. byte_at i q.bytes) 8 (8 * k) (small p.bytes) (small q.bytes) words (a % 8) (omega arith)
      ∙ ap (λ i. byte_at i q.bytes) (sym here)

  pub same_held : (a : ℕ) → held_in m a ≡ held_in m' a
  same_held a = go (page_in m (a / 4096)) (page_in m' (a / 4096)) refl refl
    where
      go : (o p : Option Page) → page_in m (a / 4096) ≡ o → page_in m' (a / 4096) ≡ p → held_in m a ≡ held_in m' a
      go None None at bt = ap (byte_on a) at ∙ sym (ap (byte_on a) bt)
      go (Some x) (Some y) at bt = ap (byte_on a) at ∙ ap Some (same_byte a x y at bt) ∙ sym (ap (byte_on a) bt)
      go None (Some y) at bt =
          let no : None ≡ Some y.permission = sym (ap (option_map (λ (p : Page). p.permission)) at) ∙ permissions (a / 4096) ∙ ap (option_map (λ (p : Page). p.permission)) bt in cc
      go (Some x) None at bt =
          let no : Some x.permission ≡ None = sym (ap (option_map (λ (p : Page). p.permission)) at) ∙ permissions (a / 4096) ∙ ap (option_map (λ (p : Page). p.permission)) bt in cc

-- the permissions, the words of memory, and what follows
flat : (start m : Map) (x : List ℕ) → pages_words start m ++ x ≡ permissions_words start m ++ (memory_words start m ++ ((word (free_in m) ++ word (break_in m)) ++ x))
flat start m x =
    append_assoc (permissions_words start m) (memory_words start m ++ (word (free_in m) ++ word (break_in m))) x
    ∙ ap (λ ws. permissions_words start m ++ ws) (append_assoc (memory_words start m) (word (free_in m) ++ word (break_in m)) x)

pub pages_key : (start m m' : Map) (x y : List ℕ) → pages_words start m ++ x ≡ pages_words start m' ++ y → HoldSamePages m m' × (x ≡ y)
pages_key start m m' x y e =
    let first = differences_key (permission_word start) (permission_word m) (permission_word m') ALL_PAGES 0 0
    (memory_words start m ++ ((word (free_in m) ++ word (break_in m)) ++ x)) (memory_words start m' ++ ((word (free_in m') ++ word (break_in m')) ++ y)) (sym (flat start m x) ∙ e ∙ flat start m' y) in
    let second = differences_key (start_word start) (memory_word start m) (memory_word start m') ALL_WORDS 0 0
    ((word (free_in m) ++ word (break_in m)) ++ x) ((word (free_in m') ++ word (break_in m')) ++ y) first.rest in
    let free = after (λ n. n) word word_key (free_in m) (free_in m') (word (break_in m)) (word (break_in m')) x y second.rest in
    let at = word_key (break_in m) (break_in m') x y free.1 in
    let permissions = same_permissions start m m' first.same in
    (record { permissions = permissions; held = same_held start m m' permissions second.same; free = free.0; break_at = at.0 }, at.1)

-- HOW THEY ARE WRITTEN

no_permission : (o : Option ℕ) → is_some o ≡ false → option_map_or (λ x. x + 1) o 0 ≡ 0
no_permission None e = refl
no_permission (Some p) e = cc

neither : (b c : Bool) → (b || c) ≡ false → (b ≡ false) × (c ≡ false)
neither true c e = cc
neither false c e = (refl, e)

-- the permissions of pages that neither map has are 0
no_change : (start m : Map) (k : ℕ) → (is_page m k || is_page start k) ≡ false → permission_word m k ≡ permission_word start k
no_change start m k e =
    let both = neither (is_page m k) (is_page start k) e in
    no_permission (permission_in m k) both.0 ∙ sym (no_permission (permission_in start k) both.1)

abbrev at_place : List ℕ → ℕ → ℕ → Written
at_place words past next = record { words = words; past = past; next = next }

pub permission_step : (start m : Map) (from n : ℕ) (old words new : List ℕ) (past last : ℕ) → from ≤ ALL_PAGES → Some n ≡ first_page (λ k. is_page m k || is_page start k) from (ALL_PAGES - from)
    → IsWrittenOn (permission_word start) (permission_word m) (at_place old 0 0) (at_place words past from)
    → IsWrittenOn (permission_word start) (permission_word m) (at_place words past n) (at_place new last (n + 1))
    → IsWrittenOn (permission_word start) (permission_word m) (at_place old 0 0) (at_place new last (n + 1))
permission_step start m from n old words new past last within is done step =
    let found = first_page-some (λ k. is_page m k || is_page start k) from (ALL_PAGES - from) n (sym is) in
    let low = found.low in
    let skip = skipped (permission_word start) (permission_word m) words past from n done.order low (λ j above below. no_change start m j (found.before j above below)) in
    then_on (permission_word start) (permission_word m) (at_place old 0 0) (at_place words past n) (at_place new last (n + 1)) (omega arith) (omega arith)
    (then_on (permission_word start) (permission_word m) (at_place old 0 0) (at_place words past from) (at_place words past n) (omega arith) low done skip) step

pub permissions_end : (start m : Map) (from : ℕ) (old words new : List ℕ) (past : ℕ) → from ≤ ALL_PAGES → None ≡ first_page (λ k. is_page m k || is_page start k) from (ALL_PAGES - from)
    → IsWrittenOn (permission_word start) (permission_word m) (at_place old 0 0) (at_place words past from) → new ≡ words ++ 0 ∷ [] → new ≡ old ++ permissions_words start m
permissions_end start m from old words new past within none done is =
    let skip = skipped (permission_word start) (permission_word m) words past from ALL_PAGES done.order within
    (λ j above below. no_change start m j (first_page-no (λ k. is_page m k || is_page start k) from (ALL_PAGES - from) (sym none) j above (omega arith))) in
    ended_on (permission_word start) (permission_word m) old words new past ALL_PAGES
    (then_on (permission_word start) (permission_word m) (at_place old 0 0) (at_place words past from) (at_place words past ALL_PAGES) (omega arith) within done skip) is

-- the words of memory before the first page that may differ
pub memory_first : (start m : Map) (n : ℕ) (words : List ℕ) → ((j : ℕ) → 512 * 0 ≤ j → j < 512 * n → memory_word start m j ≡ start_word start j)
    → IsWrittenOn (start_word start) (memory_word start m) (at_place words 0 0) (at_place words 0 (512 * n))
memory_first start m n words same = skipped (start_word start) (memory_word start m) words 0 0 (512 * n) (omega arith) (omega arith) (λ j low high. same j (omega arith) high)

-- those of one page, and those up to the next one that may differ
pub memory_step : (start m : Map) (n next : ℕ) (old words new : List ℕ) (past last : ℕ) → n + 1 ≤ next → last ≤ 512 * n + 512
    → ((j : ℕ) → 512 * (n + 1) ≤ j → j < 512 * next → memory_word start m j ≡ start_word start j)
    → IsWrittenOn (start_word start) (memory_word start m) (at_place old 0 0) (at_place words past (512 * n))
    → IsWrittenOn (start_word start) (memory_word start m) (at_place words past (512 * n)) (at_place new last (512 * n + 512))
    → IsWrittenOn (start_word start) (memory_word start m) (at_place old 0 0) (at_place new last (512 * next))
memory_step start m n next old words new past last above order same done step =
    let skip = skipped (start_word start) (memory_word start m) new last (512 * n + 512) (512 * next) order (omega arith) (λ j low high. same j (omega arith) high) in
    then_on (start_word start) (memory_word start m) (at_place old 0 0) (at_place new last (512 * n + 512)) (at_place new last (512 * next)) (omega arith) (omega arith)
    (then_on (start_word start) (memory_word start m) (at_place old 0 0) (at_place words past (512 * n)) (at_place new last (512 * n + 512)) (omega arith) (omega arith) done step) skip

pub memory_end : (start m : Map) (n : ℕ) (old words new : List ℕ) (past : ℕ) → n ≡ ALL_PAGES
    → IsWrittenOn (start_word start) (memory_word start m) (at_place old 0 0) (at_place words past (512 * n)) → new ≡ words ++ 0 ∷ [] → new ≡ old ++ memory_words start m
memory_end start m n old words new past all done is =
    let whole : 512 * n ≡ ALL_WORDS = omega arith in
    ended_on (start_word start) (memory_word start m) old words new past ALL_WORDS
    (moved (start_word start) (memory_word start m) (at_place old 0 0) words past (512 * n) ALL_WORDS whole done) is
