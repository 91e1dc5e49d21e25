-- Reads of a page map, and tests of its pages.
use Rattle.std.proofs.Common.{◌≡◌, ℕ, suc, ◌+◌, ◌-◌, ◌*◌, ◌/◌, ◌%◌, ◌^◌, ◌<◌, ◌≤◌, inl, inr, ◌&&◌, Bool, true, false, cond, List, length, set, Option, Some, None, is_some, SomeIff, slice_index, refl, sym, ap, ◌∙◌, arith}
use Rattle.std.specs.Option.{option_map}
use Rattle.std.proofs.lemmas.Bool.{cases_eq, cases_lt}
use Rattle.std.proofs.lemmas.List.{get_or-set_same, get_or-set_other}
use Rattle.byte_views.specs.Words.{word_at as number_at}
use Rattle.mach_types.specs.Bytes.{word_at, each_byte}
use Rattle.mach_types.specs.Kernel.Pages.{lets}
use Rattle.page_map.specs.Map.{Map, Page, byte_at, byte_if, byte_in, bytes_if, can_write_in, may_write, page_in, permission_in}
use Rattle.page_map.specs.MapLaws.{byte_in-ends, page_in-past}
use Rattle.page_map.proofs.Accesses.{both_differ, each_byte-all, each_byte-fails, either_page, some_where, word_missing, word_of_bytes}

small_byte : (x : ℕ) → x < 256 → x % 256 ≡ x
small_byte x lt = omega arith

-- a number in one page that has the bit
pub read_in_page : (bit : ℕ) (m : Map) (a n : ℕ) (bytes : List ℕ) (o : Option ℕ) → bytes_if bit (page_in m (a / 4096)) ≡ Some bytes
    → ((k : ℕ) → slice_index bytes k < 256) → length bytes ≡ 4096 → a % 4096 + n ≤ 4096
    → SomeIff o (a % 4096 + n ≤ length bytes) (number_at bytes (a % 4096) n) → o ≡ word_at (byte_if bit m) a n
read_in_page bit m a n bytes o page small whole fits answer =
    some_where o _ _ answer (omega arith)
    ∙ sym (word_of_bytes (byte_if bit m) bytes a (a % 4096) n (λ k lt.
    let number : (a + k) / 4096 ≡ a / 4096 = omega arith in
    let offset : (a + k) % 4096 ≡ a % 4096 + k = omega arith in
    ap (λ p. option_map (byte_at ((a + k) % 4096)) (bytes_if bit (page_in m p))) number
    ∙ ap (option_map (byte_at ((a + k) % 4096))) page
    ∙ ap Some (small_byte _ (small ((a + k) % 4096)))
    ∙ ap (λ j. Some (slice_index bytes j)) offset))

-- a number in one page that lacks the bit
pub read_nothing : (bit : ℕ) (m : Map) (a n : ℕ) → bytes_if bit (page_in m (a / 4096)) ≡ None → 0 < n → word_at (byte_if bit m) a n ≡ None
read_nothing bit m a n none some =
    let same : a + 0 ≡ a = omega arith in
    word_missing (byte_if bit m) a n 0 some (ap (byte_if bit m) same ∙ ap (option_map (byte_at (a % 4096))) none)

-- bytes that are read one by one
pub read_across : (byte : ℕ → Option ℕ) (a n : ℕ) (bs : List ℕ) (o : Option ℕ) → ((j : ℕ) → j < n → byte (a + j) ≡ Some (slice_index bs j))
    → n ≤ length bs → SomeIff o (0 + n ≤ length bs) (number_at bs 0 n) → o ≡ word_at byte a n
read_across byte a n bs o each room answer =
    some_where o _ _ answer (omega arith)
    ∙ sym (word_of_bytes byte bs a 0 n (λ k lt. let zeroth : k ≡ 0 + k = omega arith in each k lt ∙ ap (λ j. Some (slice_index bs j)) zeroth))

-- one byte more, read into its place
pub byte_more : (byte : ℕ → Option ℕ) (at k : ℕ) (bs : List ℕ) (b : ℕ) → k < length bs → ((j : ℕ) → j < k → byte (at + j) ≡ Some (slice_index bs j))
    → Some b ≡ byte (at + k) → (j : ℕ) → j < k + 1 → byte (at + j) ≡ Some (slice_index (set bs k b) j)
byte_more byte at k bs b within before next j lt = elim (cases_eq j k) [
  | inl same ↦ ap (λ i. byte (at + i)) same ∙ sym next ∙ ap Some (sym (get_or-set_same bs k b 0 within)) ∙ ap (λ i. Some (slice_index (set bs k b) i)) (sym same)
  | inr ne ↦ before j (omega arith) ∙ ap Some (sym (get_or-set_other bs k j b 0 ne))
]

mapped : (f : List ℕ → ℕ) (o : Option (List ℕ)) → is_some (option_map f o) ≡ is_some o
mapped f None = refl
mapped f (Some x) = refl

byte_some : (m : Map) (a : ℕ) → is_some (byte_in m a) ≡ is_some (bytes_if 4 (page_in m (a / 4096)))
byte_some m a = mapped (byte_at (a % 4096)) (bytes_if 4 (page_in m (a / 4096)))

-- bytes are readable where their pages are
pub readable_pages : (m : Map) (at len last : ℕ) (b : Bool) → 0 < len → at + (len - 1) < 2 ^ 64 → last ≡ at + (len - 1)
    → (b ≡ true → (n : ℕ) → at / 4096 ≤ n → n ≤ last / 4096 → is_some (bytes_if 4 (page_in m n)) ≡ true)
    → (b ≡ false → (n : ℕ) × (at / 4096 ≤ n) × (n ≤ last / 4096) × (is_some (bytes_if 4 (page_in m n)) ≡ false))
    → b ≡ each_byte (λ a. is_some (byte_in m a)) at len
readable_pages m at len last true some low is all one = sym (each_byte-all (λ a. is_some (byte_in m a)) at len (λ k lt.
    byte_some m (at + k) ∙ all refl ((at + k) / 4096) (omega arith) (omega arith)))
readable_pages m at len last false some low is all one =
    let page = one refl in
    let n = page.0 in
    let from : at / 4096 ≤ n = page.1 in
    let to : n ≤ last / 4096 = page.2 in
    let here : (at + (4096 * n - at)) / 4096 ≡ n = omega arith in
    sym (each_byte-fails (λ a. is_some (byte_in m a)) at len (4096 * n - at) (omega arith)
    (byte_some m (at + (4096 * n - at)) ∙ ap (λ p. is_some (bytes_if 4 (page_in m p))) here ∙ page.3))

pub readable_past : (m : Map) (at len : ℕ) → 0 < len → at < 2 ^ 64 → 2 ^ 64 ≤ at + (len - 1) → false ≡ each_byte (λ a. is_some (byte_in m a)) at len
readable_past m at len some low past =
    sym (each_byte-fails (λ a. is_some (byte_in m a)) at len (2 ^ 64 - at) (omega arith) (ap is_some (byte_in-ends m (at + (2 ^ 64 - at)) (omega arith))))

writable_by : (m : Map) (a n : ℕ) (b : Bool) → 0 < n → a % 4096 + n ≤ 4096 → may_write (permission_in m (a / 4096)) ≡ b → each_byte (can_write_in m) a n ≡ b
writable_by m a n true some fits e = each_byte-all (can_write_in m) a n (λ k lt.
    let number : (a + k) / 4096 ≡ a / 4096 = omega arith in
    ap (λ p. may_write (permission_in m p)) number ∙ e)
writable_by m a n false some fits e =
    let number : (a + 0) / 4096 ≡ a / 4096 = omega arith in
    each_byte-fails (can_write_in m) a n 0 some (ap (λ p. may_write (permission_in m p)) number ∙ e)

-- an access within one page
pub writable_in_page : (m : Map) (a n : ℕ) → 0 < n → a % 4096 + n ≤ 4096 → each_byte (can_write_in m) a n ≡ may_write (permission_in m (a / 4096))
writable_in_page m a n some fits = writable_by m a n (may_write (permission_in m (a / 4096))) some fits refl

across_by : (m : Map) (a n : ℕ) (b c : Bool) → n ≤ 8 → 4096 < a % 4096 + n → may_write (permission_in m (a / 4096)) ≡ b
    → may_write (permission_in m (a / 4096 + 1)) ≡ c → each_byte (can_write_in m) a n ≡ (b && c)
across_by m a n false c few past e f =
    let number : (a + 0) / 4096 ≡ a / 4096 = omega arith in
    each_byte-fails (can_write_in m) a n 0 (omega arith) (ap (λ p. may_write (permission_in m p)) number ∙ e)
across_by m a n true false few past e f =
    let number : (a + (n - 1)) / 4096 ≡ a / 4096 + 1 = omega arith in
    each_byte-fails (can_write_in m) a n (n - 1) (omega arith) (ap (λ p. may_write (permission_in m p)) number ∙ f)
across_by m a n true true few past e f = each_byte-all (can_write_in m) a n (λ k lt.
    elim (either_page a k (omega arith)) [
      | inl here ↦ ap (λ p. may_write (permission_in m p)) here ∙ e
      | inr next ↦ ap (λ p. may_write (permission_in m p)) next ∙ f
    ])

-- an access across the end of a page
pub writable_across_pages : (m : Map) (a n : ℕ) → n ≤ 8 → 4096 < a % 4096 + n
    → each_byte (can_write_in m) a n ≡ (may_write (permission_in m (a / 4096)) && may_write (permission_in m (a / 4096 + 1)))
writable_across_pages m a n few past = across_by m a n _ _ few past refl refl

-- what can be written lies below the addresses' end
pub can_write_in-below : (m : Map) (a : ℕ) → can_write_in m a ≡ true → a < 2 ^ 38
can_write_in-below m a e = elim (cases_lt a (2 ^ 38)) [
  | inl low ↦ low
  | inr past ↦
      let none : can_write_in m a ≡ false = ap (λ o. may_write (option_map (λ p. p.permission) o)) (page_in-past m (a / 4096) (omega arith)) in
      absurd (both_differ (can_write_in m a) e none)
]

chosen : (b : Bool) (offset : ℕ) (bytes : List ℕ) → is_some (option_map (byte_at offset) (cond b (Some bytes) None)) ≡ b
chosen true offset bytes = refl
chosen false offset bytes = refl

-- a byte is there exactly where the permission of its page has the bit
pub if-permission : (bit offset : ℕ) (o : Option Page) → is_some (option_map (byte_at offset) (bytes_if bit o)) ≡ lets bit (option_map (λ (p : Page). p.permission) o)
if-permission bit offset None = refl
if-permission bit offset (Some p) = chosen (lets bit (Some p.permission)) offset p.bytes

number-four : (bytes : List ℕ) (p : ℕ) → number_at bytes p 4
    ≡ slice_index bytes p + 256 * (slice_index bytes (p + 1) + 256 * (slice_index bytes (p + 2) + 256 * slice_index bytes (p + 3)))
unfolding number_at
number-four bytes p =
    let one : suc p ≡ p + 1 = omega arith in
    let two : suc (suc p) ≡ p + 2 = omega arith in
    let three : suc (suc (suc p)) ≡ p + 3 = omega arith in
    (λ i. slice_index bytes p + 256 * (slice_index bytes (one i) + 256 * (slice_index bytes (two i) + 256 * (slice_index bytes (three i) + 256 * 0))))
    ∙ omega arith

-- an instruction in one page that may be executed
pub fetch_in_page : (m : Map) (a : ℕ) (bytes : List ℕ) → bytes_if 1 (page_in m (a / 4096)) ≡ Some bytes
    → ((k : ℕ) → slice_index bytes k < 256) → length bytes ≡ 4096 → a % 4096 + 4 ≤ 4096
    → word_at (byte_if 1 m) a 4
    ≡ Some (slice_index bytes (a % 4096) + 256 * (slice_index bytes (a % 4096 + 1) + 256 * (slice_index bytes (a % 4096 + 2) + 256 * slice_index bytes (a % 4096 + 3))))
fetch_in_page m a bytes page small whole fits =
    sym (read_in_page 1 m a 4 bytes (Some (number_at bytes (a % 4096) 4)) page small whole fits (omega arith, refl))
    ∙ ap Some (number-four bytes (a % 4096))

-- a byte of a page whose permission has a bit is the one that the page holds
pub if-held : (bit offset : ℕ) (o : Option Page) → option_map (byte_at offset) (bytes_if bit o)
    ≡ cond (lets bit (option_map (λ (p : Page). p.permission) o)) (option_map (λ (p : Page). byte_at offset p.bytes) o) None
if-held bit offset None = refl
if-held bit offset (Some p) = by_bit (lets bit (Some p.permission))
  where
    by_bit : (b : Bool) → option_map (byte_at offset) (cond b (Some p.bytes) None) ≡ cond b (Some (byte_at offset p.bytes)) None
    by_bit true = refl
    by_bit false = refl
