-- Words that are written into a page, one behind the other.
use Rattle.std.proofs.Common.{◌≡◌, ◌≢◌, ℕ, suc, ◌+◌, ◌*◌, ◌/◌, ◌%◌, ◌<◌, ◌≤◌, inl, inr, Bool, true, false, cond, List, [], ◌∷◌, ◌++◌, Option, Some, None, length, get_or, take, nat_eq, refl, sym, ap, ◌∙◌, arith, eq-eqb}
use Rattle.std.specs.Option.{option_map}
use Rattle.std.specs.Prelude.{IfSome, IsSome}
use Rattle.std.proofs.lemmas.Bool.{cases_eq, ne_eqb}
use Rattle.std.proofs.lemmas.List.{length-take-le, take_more}
use Rattle.byte_views.specs.Words.{with_word}
use Rattle.mach_types.specs.Bytes.{byte_over, overlay}
use Rattle.mach_types.specs.Kernel.Pages.{lets}
use Rattle.elf_load.specs.Images.{IsPermission}
use Rattle.elf_load.specs.Start.{stored_from}
use Rattle.page_map.specs.Map.{Map, Page, byte_at, byte_if, bytes_if, code_in, held_in, may_write, page_in, page_with_words, permission_in, with_words}
use Rattle.page_map.proofs.Stores.{length-with_word, over-elsewhere, stored-in_page}
use Rattle.page_map.proofs.Writings.{writes_no_code}

with_words-push : (bytes : List ℕ) (at : ℕ) (ws : List ℕ) (w : ℕ) → with_words bytes at (ws ++ w ∷ []) ≡ with_word (with_words bytes at ws) (at + 8 * length ws) 8 w
with_words-push bytes at [] w =
    let same : at ≡ at + 8 * 0 = omega arith in
    ap (λ n. with_word bytes n 8 w) same
with_words-push bytes at (v ∷ ws) w =
    let same : at + 8 + 8 * length ws ≡ at + 8 * suc (length ws) = omega arith in
    with_words-push (with_word bytes at 8 v) (at + 8) ws w
    ∙ ap (λ n. with_word (with_words (with_word bytes at 8 v) (at + 8) ws) n 8 w) same

-- one word more
pub with_words-next : (bytes : List ℕ) (at k : ℕ) (ws : List ℕ) → k < length ws
    → with_word (with_words bytes at (take k ws)) (at + 8 * k) 8 (get_or ws k 0) ≡ with_words bytes at (take (k + 1) ws)
with_words-next bytes at k ws lt =
    let long : length (take k ws) ≡ k = length-take-le k ws (omega arith) in
    ap (λ n. with_word (with_words bytes at (take k ws)) (at + 8 * n) 8 (get_or ws k 0)) (sym long)
    ∙ sym (with_words-push bytes at (take k ws) (get_or ws k 0))
    ∙ ap (with_words bytes at) (sym (take_more ws k 0 lt))

pub length-with_words : (ws bytes : List ℕ) (at : ℕ) → at + 8 * length ws ≤ length bytes → length (with_words bytes at ws) ≡ length bytes
length-with_words [] bytes at fits = refl
length-with_words (w ∷ ws) bytes at fits =
    let one : length (with_word bytes at 8 w) ≡ length bytes = length-with_word bytes at 8 w (omega arith) in
    length-with_words ws (with_word bytes at 8 w) (at + 8) (omega arith) ∙ one

word-in_page : (bytes : List ℕ) (a at offset w : ℕ) → length bytes ≡ 4096 → offset ≡ at % 4096 → offset + 8 ≤ 4096 → a / 4096 ≡ at / 4096
    → byte_at (a % 4096) (with_word bytes offset 8 w) ≡ byte_over (record { at = at; size = 8; value = w }) a (byte_at (a % 4096) bytes)
word-in_page bytes a at offset w whole is fits page =
    ap (λ o. byte_at (a % 4096) (with_word bytes o 8 w)) is ∙ stored-in_page bytes a at 8 w whole (omega arith) page

words-in_page : (ws bytes : List ℕ) (a at offset : ℕ) → length bytes ≡ 4096 → offset ≡ at % 4096 → offset + 8 * length ws ≤ 4096 → a / 4096 ≡ at / 4096
    → byte_at (a % 4096) (with_words bytes offset ws) ≡ overlay (stored_from at ws) a (byte_at (a % 4096) bytes)
words-in_page [] bytes a at offset whole is fits page = refl
words-in_page (w ∷ []) bytes a at offset whole is fits page = word-in_page bytes a at offset w whole is (omega arith) page
words-in_page (w ∷ v ∷ ws) bytes a at offset whole is fits page =
    words-in_page (v ∷ ws) (with_word bytes offset 8 w) a (at + 8) (offset + 8) (length-with_word bytes offset 8 w (omega arith) ∙ whole)
    (omega arith) (omega arith) (omega arith)
    ∙ ap (overlay (stored_from (at + 8) (v ∷ ws)) a) (word-in_page bytes a at offset w whole is (omega arith) page)

words-elsewhere : (ws : List ℕ) (a at offset below : ℕ) → offset ≡ at % 4096 → offset + 8 * length ws ≤ 4096 → a / 4096 ≢ at / 4096
    → overlay (stored_from at ws) a below ≡ below
words-elsewhere [] a at offset below is fits two = refl
words-elsewhere (w ∷ []) a at offset below is fits two = over-elsewhere a at 8 w below (omega arith) two
words-elsewhere (w ∷ v ∷ ws) a at offset below is fits two =
    ap (overlay (stored_from (at + 8) (v ∷ ws)) a) (over-elsewhere a at 8 w below (omega arith) two)
    ∙ words-elsewhere (v ∷ ws) a (at + 8) (offset + 8) below (omega arith) (omega arith) (λ e. two (omega arith))

words-if : (allowed : Bool) (ws bytes : List ℕ) (a at : ℕ) → length bytes ≡ 4096 → at % 4096 + 8 * length ws ≤ 4096 → a / 4096 ≡ at / 4096
    → option_map (byte_at (a % 4096)) (cond allowed (Some (with_words bytes (at % 4096) ws)) None)
    ≡ option_map (overlay (stored_from at ws) a) (option_map (byte_at (a % 4096)) (cond allowed (Some bytes) None))
words-if true ws bytes a at whole fits page = ap Some (words-in_page ws bytes a at (at % 4096) whole refl fits page)
words-if false ws bytes a at whole fits page = refl

words-here : (bit : ℕ) (o : Option Page) (ws : List ℕ) (a at : ℕ) → IfSome o (λ p. length p.bytes ≡ 4096) → at % 4096 + 8 * length ws ≤ 4096
    → a / 4096 ≡ at / 4096
    → option_map (byte_at (a % 4096)) (bytes_if bit (option_map (page_with_words (at % 4096) ws) o))
    ≡ option_map (overlay (stored_from at ws) a) (option_map (byte_at (a % 4096)) (bytes_if bit o))
words-here bit None ws a at whole fits page = refl
words-here bit (Some p) ws a at whole fits page = words-if (lets bit (Some p.permission)) ws p.bytes a at whole fits page

held-words : (o : Option Page) (ws : List ℕ) (a at : ℕ) → IfSome o (λ p. length p.bytes ≡ 4096) → at % 4096 + 8 * length ws ≤ 4096
    → a / 4096 ≡ at / 4096
    → option_map (λ (p : Page). byte_at (a % 4096) p.bytes) (option_map (page_with_words (at % 4096) ws) o)
    ≡ option_map (overlay (stored_from at ws) a) (option_map (λ (p : Page). byte_at (a % 4096) p.bytes) o)
held-words None ws a at whole fits page = refl
held-words (Some p) ws a at whole fits page = ap Some (words-in_page ws p.bytes a at (at % 4096) whole refl fits page)

unchanged : (ws : List ℕ) (a at : ℕ) (o : Option ℕ) → at % 4096 + 8 * length ws ≤ 4096 → a / 4096 ≢ at / 4096
    → o ≡ option_map (overlay (stored_from at ws) a) o
unchanged ws a at None fits two = refl
unchanged ws a at (Some below) fits two = ap Some (sym (words-elsewhere ws a at (at % 4096) below refl fits two))

code-words : (o : Option Page) (offset place : ℕ) (ws : List ℕ) → IfSome o (λ p. IsPermission p.permission)
    → may_write (option_map (λ (p : Page). p.permission) o) ≡ true
    → option_map (byte_at place) (bytes_if 1 (option_map (page_with_words offset ws) o)) ≡ option_map (byte_at place) (bytes_if 1 o)
code-words None offset place ws allowed w = refl
code-words (Some p) offset place ws allowed w = rw (writes_no_code p.permission allowed w) refl

permission-words : (o : Option Page) (offset : ℕ) (ws : List ℕ)
    → option_map (λ (p : Page). p.permission) (option_map (page_with_words offset ws) o) ≡ option_map (λ (p : Page). p.permission) o
permission-words None offset ws = refl
permission-words (Some p) offset ws = refl

-- a page that can be written is mapped
pub mapped-writable : (o : Option Page) → may_write (option_map (λ (p : Page). p.permission) o) ≡ true → IsSome o
mapped-writable None w = absurd (cc)
mapped-writable (Some p) w = refl

-- words were written within one page
module _ (m m' : Map) (at : ℕ) (ws : List ℕ)
    (pages : (n : ℕ) → page_in m' n ≡ cond (nat_eq n (at / 4096)) (option_map (page_with_words (at % 4096) ws) (page_in m n)) (page_in m n))
    (fits : at % 4096 + 8 * length ws ≤ 4096) where
  page-here : (n : ℕ) → n ≡ at / 4096 → page_in m' n ≡ option_map (page_with_words (at % 4096) ws) (page_in m n)
  page-here n same = pages n ∙ (rw (eq-eqb n (at / 4096) same) refl)

  page-other : (n : ℕ) → n ≢ at / 4096 → page_in m' n ≡ page_in m n
  page-other n two = pages n ∙ (rw (ne_eqb n (at / 4096) two) refl)

  pub words-bytes : (bit : ℕ) → IfSome (page_in m (at / 4096)) (λ p. length p.bytes ≡ 4096) → (a : ℕ)
      → byte_if bit m' a ≡ option_map (overlay (stored_from at ws) a) (byte_if bit m a)
  words-bytes bit whole a = elim (cases_eq (a / 4096) (at / 4096)) [
    | inl same ↦
        ap (λ o. option_map (byte_at (a % 4096)) (bytes_if bit o)) (page-here (a / 4096) same)
        ∙ words-here bit (page_in m (a / 4096)) ws a at (rw same whole) fits same
    | inr two ↦
        ap (λ o. option_map (byte_at (a % 4096)) (bytes_if bit o)) (page-other (a / 4096) two)
        ∙ unchanged ws a at (byte_if bit m a) fits two
  ]

  pub words-held : IfSome (page_in m (at / 4096)) (λ p. length p.bytes ≡ 4096) → (a : ℕ)
      → held_in m' a ≡ option_map (overlay (stored_from at ws) a) (held_in m a)
  words-held whole a = elim (cases_eq (a / 4096) (at / 4096)) [
    | inl same ↦
        ap (option_map (λ (p : Page). byte_at (a % 4096) p.bytes)) (page-here (a / 4096) same)
        ∙ held-words (page_in m (a / 4096)) ws a at (rw same whole) fits same
    | inr two ↦
        ap (option_map (λ (p : Page). byte_at (a % 4096) p.bytes)) (page-other (a / 4096) two)
        ∙ unchanged ws a at (held_in m a) fits two
  ]

  pub words-code : may_write (permission_in m (at / 4096)) ≡ true → IfSome (page_in m (at / 4096)) (λ p. IsPermission p.permission) → (a : ℕ)
      → code_in m' a ≡ code_in m a
  words-code w allowed a = elim (cases_eq (a / 4096) (at / 4096)) [
    | inl same ↦
        ap (λ o. option_map (byte_at (a % 4096)) (bytes_if 1 o)) (page-here (a / 4096) same)
        ∙ code-words (page_in m (a / 4096)) (at % 4096) (a % 4096) ws (rw same allowed) (rw same w)
    | inr two ↦ ap (λ o. option_map (byte_at (a % 4096)) (bytes_if 1 o)) (page-other (a / 4096) two)
  ]

  pub words-permissions : (n : ℕ) → permission_in m' n ≡ permission_in m n
  words-permissions n = elim (cases_eq n (at / 4096)) [
    | inl same ↦ ap (option_map (λ (p : Page). p.permission)) (page-here n same) ∙ permission-words (page_in m n) (at % 4096) ws
    | inr two ↦ ap (option_map (λ (p : Page). p.permission)) (page-other n two)
  ]
