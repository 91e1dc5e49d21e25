-- The pages of a process at its start.
use Rattle.std.proofs.Common.{◌≡◌, ◌≢◌, ℕ, zero, suc, ◌+◌, ◌-◌, ◌/◌, ◌%◌, ◌^◌, ◌<◌, ◌≤◌, ◌⊎◌, ◌&&◌, inl, inr, Bool, true, false, cond, List, [], ◌∷◌, ◌++◌, Option, Some, None, is_some, length, get_or, map, take, nat_eq, nat_le, nat_lt, slice_index, refl, sym, ap, ◌∙◌, subst, arith, eq-eqb}
use Rattle.std.specs.Prelude.{All, IfSome}
use Rattle.std.specs.Bool.{OnTrue}
use Rattle.std.specs.List.Sorted.{IsStrictlyIncreasing}
use Rattle.std.specs.Option.{option_map}
use Rattle.std.proofs.lemmas.Bool.{cases_eq, cases_lt, le-leb, leb-true, le-ltb, lt-leb, lt-ltb, ne_eqb}
use Rattle.std.proofs.lemmas.List.{take_more}
use Rattle.std.proofs.Math.Nat.{zero-div}
use Rattle.byte_views.specs.Words.{with_word}
use Rattle.mach_types.specs.Bytes.{byte_of, byte_over, overlay}
use Rattle.mach_types.specs.Kernel.Pages.{is_in, lets, pages_of, permission_of}
use Rattle.mach_types.specs.declared.address_space.TheConstants.{NAME_AT, START_SP}
use Rattle.mach_types.specs.declared.user_memory.Store.{Store}
use Rattle.elf_load.specs.Images.{end_of, numbers}
use Rattle.elf_load.specs.Start.{Program, image_byte, image_run, loaded_byte, page_byte, page_of, return_byte, return_run, name_word, return_words, stack_run, start_byte, start_runs, start_stores, start_words, stored_from}
use Rattle.elf_load.specs.declared.image.ImagePage.{ImagePage}
use Rattle.elf_load.proofs.Laws.{rises}
use Rattle.frame_pool.specs.Pool.{fresh}
use Rattle.frame_pool.proofs.Laws.{fresh-at}
use Rattle.page_map.specs.Map.{Map, Page, byte_at, byte_if, bytes_if, can_write_in, held_in, may_write, page_in, permission_in}
use Rattle.page_map.specs.Starting.{IsStartPage, image_page, mapped_page, stack_page}
use Rattle.page_map.proofs.Stores.{length-with_word, with_word-after, with_word-before, with_word-inside}

pub on-true : (b : Bool) (P : Type 0) → b ≡ true → OnTrue b P → P
on-true true P e p = p
on-true false P e p = cc

past_two : (a b k : ℕ) → 2 ≤ k → slice_index (a ∷ b ∷ []) k ≡ 0
past_two a b zero h = absurd (omega arith)
past_two a b (suc zero) h = absurd (omega arith)
past_two a b (suc (suc k)) h = refl

high_return : (k : ℕ) → 16 ≤ k → 0 ≡ return_byte k
high_return k h =
    let none : slice_index return_words (k / 8) ≡ 0 = past_two 0x0000007308B00893 0x0000007308B00893 (k / 8) (omega arith) in
    sym (ap (λ w. byte_of w (k % 8)) none ∙ ap (λ x. x % 256) (zero-div (256 ^ (k % 8))))

-- the return page has its two words, and else zeros
pub return-at : (zeros one two : List ℕ) (first second : Bool) → zeros ≡ fresh → length zeros ≡ 4096 → length one ≡ 4096
    → first ≡ true → OnTrue first (one ≡ with_word zeros 0 8 0x0000007308B00893)
    → second ≡ true → OnTrue second (two ≡ with_word one 8 8 0x0000007308B00893)
    → (k : ℕ) → slice_index two k ≡ return_byte k
return-at zeros one two first second empty long long' made write made' write' k =
    let is : one ≡ with_word zeros 0 8 0x0000007308B00893 = on-true first (one ≡ with_word zeros 0 8 0x0000007308B00893) made write in
    let is' : two ≡ with_word one 8 8 0x0000007308B00893 = on-true second (two ≡ with_word one 8 8 0x0000007308B00893) made' write' in
    ap (λ bs. slice_index bs k) is' ∙ elim (cases_lt k 8) [
      | inl low ↦
          let same : 0 + k ≡ k = omega arith in
          let word : k / 8 ≡ 0 = omega arith in
          let offset : k % 8 ≡ k = omega arith in
          with_word-before one 8 8 0x0000007308B00893 k (omega arith) low ∙ ap (λ bs. slice_index bs k) is
          ∙ ap (λ j. slice_index (with_word zeros 0 8 0x0000007308B00893) j) (sym same)
          ∙ with_word-inside zeros 0 8 0x0000007308B00893 k (omega arith) low
          ∙ sym (λ i. byte_of (slice_index return_words (word i)) (offset i))
      | inr past ↦ elim (cases_lt k 16) [
        | inl low ↦
            let same : k ≡ 8 + (k - 8) = omega arith in
            let word : k / 8 ≡ 1 = omega arith in
            let offset : k % 8 ≡ k - 8 = omega arith in
            ap (λ j. slice_index (with_word one 8 8 0x0000007308B00893) j) same
            ∙ with_word-inside one 8 8 0x0000007308B00893 (k - 8) (omega arith) (omega arith)
            ∙ sym (λ i. byte_of (slice_index return_words (word i)) (offset i))
        | inr high ↦
            with_word-after one 8 8 0x0000007308B00893 k (omega arith) (omega arith) ∙ ap (λ bs. slice_index bs k) is
            ∙ with_word-after zeros 0 8 0x0000007308B00893 k (omega arith) (omega arith) ∙ ap (λ bs. slice_index bs k) empty ∙ fresh-at k
            ∙ high_return k high
      ]
    ]

pub made-length : (zeros one : List ℕ) (v : ℕ) (made : Bool) → made ≡ true → OnTrue made (one ≡ with_word zeros 0 8 v) → length zeros ≡ 4096 → length one ≡ 4096
made-length zeros one v made done write long =
    ap length (on-true made (one ≡ with_word zeros 0 8 v) done write) ∙ length-with_word zeros 0 8 v (omega arith) ∙ long

none-take : (pages : List ImagePage) (n i : ℕ) → ((k : ℕ) → k < i → k < length (numbers pages) → get_or (numbers pages) k 0 ≢ n) → page_of (take i pages) n ≡ None
none-take [] n zero h = refl
none-take [] n (suc i) h = refl
none-take (p ∷ pages) n zero h = refl
none-take (p ∷ pages) n (suc i) h =
    rw (ne_eqb p.number n (h 0 (omega arith) (omega arith))) (none-take pages n i (λ k lt within. h (suc k) (omega arith) (omega arith)))

number-at : (pages : List ImagePage) (i : ℕ) (p : ImagePage) → p ≡ get_or pages i p → i < length pages → (get_or (numbers pages) i 0 ≡ p.number) × (i < length (numbers pages))
number-at [] i p is lt = absurd (omega arith)
number-at (q ∷ pages) zero p is lt = (ap (λ (x : ImagePage). x.number) (sym is), omega arith)
number-at (q ∷ pages) (suc i) p is lt = let rest = number-at pages i p is (omega arith) in (rest.0, omega (arith, rest.1))

-- the next page of an image isn't one of those before it
pub next-unmapped : (pages : List ImagePage) (i : ℕ) (p : ImagePage) → IsStrictlyIncreasing (numbers pages) → p ≡ get_or pages i p → i < length pages
    → page_of (take i pages) p.number ≡ None
next-unmapped pages i p up is lt =
    let at = number-at pages i p is lt in
    none-take pages p.number i (λ k before within same. let below = rises (numbers pages) k i up before at.1 in omega (arith, below, same, at.0))

skipped : (b : Bool) (q : ImagePage) (o more rest : Option ImagePage) → cond b (Some q) o ≡ None → (o ≡ None → more ≡ rest)
    → cond b (Some q) more ≡ rest
skipped true q o more rest none later = cc
skipped false q o more rest none later = later none

push-none : (xs ys : List ImagePage) (n : ℕ) → page_of xs n ≡ None → page_of (xs ++ ys) n ≡ page_of ys n
push-none [] ys n none = refl
push-none (q ∷ xs) ys n none = skipped (nat_eq q.number n) q (page_of xs n) (page_of (xs ++ ys) n) (page_of ys n) none (push-none xs ys n)

push-other : (xs : List ImagePage) (p : ImagePage) (n : ℕ) → p.number ≢ n → page_of (xs ++ p ∷ []) n ≡ page_of xs n
push-other [] p n two = rw (ne_eqb p.number n two) refl
push-other (q ∷ xs) p n two = ap (λ o. let r : Option ImagePage = cond (nat_eq q.number n) (Some q) o in r) (push-other xs p n two)

-- one page more of an image
pub image_page-next : (pages : List ImagePage) (i : ℕ) (p : ImagePage) → IsStrictlyIncreasing (numbers pages) → p ≡ get_or pages i p → i < length pages → (n : ℕ)
    → cond (nat_eq n p.number) (Some (record { permission = p.perm; bytes = p.bytes })) (image_page (take i pages) n) ≡ image_page (take (i + 1) pages) n
image_page-next pages i p up is lt n =
    let more : take (i + 1) pages ≡ take i pages ++ p ∷ [] = take_more pages i p lt ∙ ap (λ q. take i pages ++ q ∷ []) (sym is) in
    elim (cases_eq n p.number) [
      | inl same ↦
          let none : page_of (take i pages) n ≡ None = ap (page_of (take i pages)) same ∙ next-unmapped pages i p up is lt in
          let here : page_of (take i pages ++ p ∷ []) n ≡ Some p = push-none (take i pages) (p ∷ []) n none ∙ (rw (eq-eqb p.number n (sym same)) refl) in
          rw (eq-eqb n p.number same) (ap (option_map mapped_page) (sym here) ∙ ap (λ ps. image_page ps n) (sym more))
      | inr two ↦
          rw (ne_eqb n p.number two) (ap (option_map mapped_page) (sym (push-other (take i pages) p n (λ e. two (sym e)))) ∙ ap (λ ps. image_page ps n) (sym more))
    ]

-- no page of an image is where its pages end
pub none-below : (pages : List ImagePage) (n : ℕ) → All (λ (p : ImagePage). p.number < 33554432) pages → 33554432 ≤ n → page_of pages n ≡ None
none-below [] n below past = refl
none-below (p ∷ pages) n below past =
    let low : p.number < 33554432 = below 0 p (omega arith) in
    rw (ne_eqb p.number n (λ e. omega arith)) (none-below pages n (λ k d lt. below (suc k) d (omega arith)) past)

and-first : (b c : Bool) → (b && c) ≡ true → b ≡ true
and-first true c e = refl
and-first false c e = cc

pub stack-from : (n : ℕ) → is_in stack_run n ≡ true → 0x3FFFF00 ≤ n
stack-from n e = leb-true 0x3FFFF00 n (and-first (nat_le 0x3FFFF00 n) (nat_lt n 0x3FFFF40) e)

one-run : (m n : ℕ) → (nat_le m n && nat_lt n (m + 1)) ≡ nat_eq m n
one-run m n = elim (cases_lt m n) [
  | inl less ↦ rw (le-leb m n (omega arith), le-ltb n (m + 1) (omega arith), ne_eqb m n (λ e. omega arith)) refl
  | inr not_less ↦ elim (cases_eq m n) [
    | inl same ↦ rw (le-leb m n (omega arith), lt-ltb n (m + 1) (omega arith), eq-eqb m n same) refl
    | inr two ↦ rw (lt-leb m n (omega arith), ne_eqb m n two) refl
  ]
]

chosen : (b : Bool) (p : ImagePage) (o : Option ℕ) (rest : Option ImagePage) → o ≡ option_map (λ (q : Page). q.permission) (option_map mapped_page rest)
    → cond b (Some p.perm) o ≡ option_map (λ (q : Page). q.permission) (option_map mapped_page (cond b (Some p) rest))
chosen true p o rest same = refl
chosen false p o rest same = same

-- the permission of a page of an image
pub image-permission : (pages : List ImagePage) (n : ℕ) → permission_of (map image_run pages) n ≡ option_map (λ (p : Page). p.permission) (image_page pages n)
image-permission [] n = refl
image-permission (p ∷ pages) n =
    ap (λ b. let r : Option ℕ = cond b (Some p.perm) (permission_of (map image_run pages) n) in r) (one-run p.number n)
    ∙ chosen (nat_eq p.number n) p (permission_of (map image_run pages) n) (page_of pages n) (image-permission pages n)

small_byte : (x : ℕ) → x < 256 → x % 256 ≡ x
small_byte x lt = omega arith

image-bytes : (o : Option ImagePage) → IfSome (option_map mapped_page o) (λ p. (k : ℕ) → slice_index p.bytes k < 256)
    → IfSome (option_map mapped_page o) (λ p. (k : ℕ) → slice_index p.bytes k % 256 ≡ image_byte o k)
image-bytes None small = tt
image-bytes (Some p) small = λ k. small_byte (slice_index p.bytes k) (small k)

pub stack-run : (n : ℕ) → 0x3FFFF00 ≤ n → n < 0x3FFFF40 → is_in stack_run n ≡ true
stack-run n from to = rw (le-leb 0x3FFFF00 n from, lt-ltb n 0x3FFFF40 to) refl

pub not-stack : (n : ℕ) → (n < 0x3FFFF00) ⊎ (0x3FFFF40 ≤ n) → is_in stack_run n ≡ false
not-stack n (inl low) = rw (lt-leb 0x3FFFF00 n low) refl
not-stack n (inr high) = rw (le-leb 0x3FFFF00 n (omega arith), le-ltb n 0x3FFFF40 high) refl

pub not-return : (n : ℕ) → is_in stack_run n ≡ true → nat_eq n 0x3FFFFF0 ≡ false
not-return n stack = elim (cases_lt n 0x3FFFF40) [
  | inl to ↦ ne_eqb n 0x3FFFFF0 (λ e. omega arith)
  | inr high ↦ let out : is_in stack_run n ≡ false = not-stack n (inr high) in absurd (cc)
]

zero-stack : (k : ℕ) → slice_index fresh k % 256 ≡ 0
zero-stack k = ap (λ x. x % 256) (fresh-at k)

pub return-run : (n : ℕ) → is_in return_run n ≡ nat_eq 0x3FFFFF0 n
return-run n = one-run 0x3FFFFF0 n

-- a page is the program's, or of the stack, or the one that handlers return to
pub by-place : {P : Type 0} (n : ℕ) → ((n < 0x3FFFF00) ⊎ (0x3FFFF40 ≤ n) → n ≢ 0x3FFFFF0 → P) → (0x3FFFF00 ≤ n → n < 0x3FFFF40 → P) → (n ≡ 0x3FFFFF0 → P) → P
by-place n image stack return = elim (cases_lt n 0x3FFFF00) [
  | inl low ↦ image (inl low) (λ e. omega arith)
  | inr from ↦ elim (cases_lt n 0x3FFFF40) [
    | inl to ↦ stack from to
    | inr high ↦ elim (cases_eq n 0x3FFFFF0) [
      | inl same ↦ return same
      | inr two ↦ image (inr high) two
    ]
  ]
]

-- the pages of an image, the return page and those of the stack, mapped in this order, are those of the start
module _ (pages : List ImagePage) (n : ℕ) (image laid after : Option Page) (bytes : List ℕ)
    (mapped : image ≡ image_page pages n) (small : IfSome image (λ p. (k : ℕ) → slice_index p.bytes k < 256))
    (return : laid ≡ cond (nat_eq n 0x3FFFFF0) (Some (record { permission = 5; bytes = bytes })) image)
    (stack : after ≡ cond (is_in stack_run n) (Some stack_page) laid)
    (return_bytes : (k : ℕ) → slice_index bytes k ≡ return_byte k) (return_small : (k : ℕ) → slice_index bytes k < 256) where
  start-stack : 0x3FFFF00 ≤ n → n < 0x3FFFF40 → IsStartPage pages n after
  start-stack from to =
      let run : is_in stack_run n ≡ true = stack-run n from to in
      let page : after ≡ Some stack_page = stack ∙ (rw run refl) in
      subst (IsStartPage pages n) (sym page) (record { permission = rw run refl; bytes = λ k. zero-stack k ∙ (rw run refl) })

  start-return : n ≡ 0x3FFFFF0 → IsStartPage pages n after
  start-return same =
      let run : is_in stack_run n ≡ false = not-stack n (inr (omega arith)) in
      let other : is_in return_run n ≡ true = return-run n ∙ eq-eqb 0x3FFFFF0 n (sym same) in
      let page : after ≡ Some (record { permission = 5; bytes = bytes }) = stack ∙ (rw run (return ∙ (rw (eq-eqb n 0x3FFFFF0 same) refl))) in
      subst (IsStartPage pages n) (sym page) (record {
        permission = rw (run, other) refl;
        bytes = λ k. small_byte (slice_index bytes k) (return_small k) ∙ return_bytes k ∙ (rw (run, other) refl);
      })

  start-image : (n < 0x3FFFF00) ⊎ (0x3FFFF40 ≤ n) → n ≢ 0x3FFFFF0 → IsStartPage pages n after
  start-image out two =
      let run : is_in stack_run n ≡ false = not-stack n out in
      let other : is_in return_run n ≡ false = return-run n ∙ ne_eqb 0x3FFFFF0 n (λ e. two (sym e)) in
      let page : after ≡ image_page pages n = stack ∙ (rw run (return ∙ (rw (ne_eqb n 0x3FFFFF0 two) mapped))) in
      subst (IsStartPage pages n) (sym page) (record {
        permission = sym (image-permission pages n) ∙ (rw (run, other) refl);
        bytes = rw (run, other) (image-bytes (page_of pages n) (rw (← mapped) small));
      })

  pub start-page : IsStartPage pages n after
  start-page = by-place n start-image start-stack start-return

byte-if : (bit offset byte : ℕ) (o : Option Page) (permission : Option ℕ) → option_map (λ (p : Page). p.permission) o ≡ permission
    → IfSome o (λ p. slice_index p.bytes offset % 256 ≡ byte) → option_map (byte_at offset) (bytes_if bit o) ≡ cond (lets bit permission) (Some byte) None
byte-if bit offset byte None permission is there = rw (← is) refl
byte-if bit offset byte (Some p) permission is there = rw (← is) (by_bit (lets bit (Some p.permission)) there)
  where
    by_bit : (b : Bool) → slice_index p.bytes offset % 256 ≡ byte → option_map (byte_at offset) (cond b (Some p.bytes) None) ≡ cond b (Some byte) None
    by_bit true e = ap Some e
    by_bit false e = refl

at-offset : (o : Option Page) (offset : ℕ) (byte : ℕ → ℕ) → IfSome o (λ p. (k : ℕ) → slice_index p.bytes k % 256 ≡ byte k) → IfSome o (λ p. slice_index p.bytes offset % 256 ≡ byte offset)
at-offset None offset byte all = tt
at-offset (Some p) offset byte all = all offset

-- a byte before the kernel writes the stack, where its page's permission has a bit
pub laid-byte : (bit : ℕ) (m : Map) (pages : List ImagePage) (a : ℕ) → IsStartPage pages (a / 4096) (page_in m (a / 4096))
    → byte_if bit m a ≡ cond (lets bit (permission_of (start_runs pages) (a / 4096))) (Some (loaded_byte pages a)) None
laid-byte bit m pages a start =
    byte-if bit (a % 4096) (loaded_byte pages a) (page_in m (a / 4096)) (permission_of (start_runs pages) (a / 4096)) start.permission
    (at-offset (page_in m (a / 4096)) (a % 4096) (page_byte pages (a / 4096)) start.bytes)

-- each byte of the stack can be written
pub stack-writable : (m : Map) (pages : List ImagePage) (a : ℕ) → ((n : ℕ) → IsStartPage pages n (page_in m n)) → 0x3FFFF00000 ≤ a → a < 0x3FFFF40000
    → can_write_in m a ≡ true
stack-writable m pages a laid from to =
    let run : is_in stack_run (a / 4096) ≡ true = stack-run (a / 4096) (omega arith) (omega arith) in
    let start = laid (a / 4096) in
    let permission : permission_in m (a / 4096) ≡ Some 6 = start.permission ∙ (rw run refl) in
    ap may_write permission

overlay-append : (ss ts : List Store) (a b : ℕ) → overlay (ss ++ ts) a b ≡ overlay ts a (overlay ss a b)
overlay-append [] ts a b = refl
overlay-append (s ∷ ss) ts a b = overlay-append ss ts a (byte_over s a b)

two_maps : (ss ts : List Store) (a : ℕ) (o : Option ℕ) → option_map (overlay ts a) (option_map (overlay ss a) o) ≡ option_map (overlay (ss ++ ts) a) o
two_maps ss ts a None = refl
two_maps ss ts a (Some b) = ap Some (sym (overlay-append ss ts a b))

mapped_if : (b : Bool) (f : ℕ → ℕ) (x : ℕ) → option_map f (cond b (Some x) None) ≡ cond b (Some (f x)) None
mapped_if true f x = refl
mapped_if false f x = refl

-- within a list, the default doesn't matter
pub get_or-default : (xs : List ImagePage) (i : ℕ) (d : ImagePage) → i < length xs → get_or xs i d ≡ get_or xs i (get_or xs i d)
get_or-default [] i d lt = absurd (omega arith)
get_or-default (x ∷ xs) zero d lt = refl
get_or-default (x ∷ xs) (suc i) d lt = get_or-default xs i d (omega arith)

length-numbers : (pages : List ImagePage) → length (numbers pages) ≡ length pages
length-numbers [] = refl
length-numbers (p ∷ pages) = ap suc (length-numbers pages)

-- a byte once the kernel has written the stack
pub booted : (byte0 byte1 byte2 : Option ℕ) (there : Bool) (p : Program) (words : List ℕ) (a : ℕ) → words ≡ start_words p
    → byte0 ≡ cond there (Some (loaded_byte p.pages a)) None
    → byte1 ≡ option_map (overlay (stored_from START_SP words) a) byte0
    → byte2 ≡ option_map (overlay (stored_from NAME_AT (name_word ∷ [])) a) byte1
    → byte2 ≡ cond there (Some (start_byte p a)) None
booted byte0 byte1 byte2 there p words a are start first second =
    let name : List Store = stored_from NAME_AT (name_word ∷ []) in
    second ∙ ap (option_map (overlay name a)) (first ∙ ap (option_map (overlay (stored_from START_SP words) a)) start)
    ∙ two_maps (stored_from START_SP words) name a (cond there (Some (loaded_byte p.pages a)) None)
    ∙ ap (λ (ws : List ℕ). option_map (overlay (stored_from START_SP ws ++ name) a) (cond there (Some (loaded_byte p.pages a)) None)) are
    ∙ mapped_if there (overlay (start_stores p) a) (loaded_byte p.pages a)

held-if : (offset byte : ℕ) (o : Option Page) (permission : Option ℕ) → option_map (λ (p : Page). p.permission) o ≡ permission
    → IfSome o (λ p. slice_index p.bytes offset % 256 ≡ byte) → option_map (λ (p : Page). byte_at offset p.bytes) o ≡ cond (is_some permission) (Some byte) None
held-if offset byte None permission is there = rw (← is) refl
held-if offset byte (Some p) permission is there = rw (← is) (ap Some there)

-- a byte before the kernel writes the stack, where its page is mapped
pub laid-held : (m : Map) (pages : List ImagePage) (a : ℕ) → IsStartPage pages (a / 4096) (page_in m (a / 4096))
    → held_in m a ≡ cond (is_some (permission_of (start_runs pages) (a / 4096))) (Some (loaded_byte pages a)) None
laid-held m pages a start =
    held-if (a % 4096) (loaded_byte pages a) (page_in m (a / 4096)) (permission_of (start_runs pages) (a / 4096)) start.permission
    (at-offset (page_in m (a / 4096)) (a % 4096) (page_byte pages (a / 4096)) start.bytes)

-- each page of an image lies below the end of its last one
pub below-end : (pages : List ImagePage) (at : ℕ) → IsStrictlyIncreasing (numbers pages) → at ≡ end_of pages
    → All (λ (p : ImagePage). p.number < pages_of at) pages
below-end pages at up is k d lt =
    let here = number-at pages k (get_or pages k d) (get_or-default pages k d lt) lt in
    let size : length (numbers pages) ≡ length pages = length-numbers pages in
    let last : get_or (numbers pages) k 0 ≤ get_or (numbers pages) (length pages - 1) 0 = elim (cases_eq k (length pages - 1)) [
      | inl same ↦ rw same (omega arith)
      | inr two ↦ let less = rises (numbers pages) k (length pages - 1) up (omega arith) (omega arith) in omega (arith, less)
    ] in
    let number : get_or (numbers pages) k 0 ≡ (get_or pages k d).number = here.0 in
    omega arith

-- and so the end is at most where mappings begin
pub end-below : (pages : List ImagePage) → All (λ (p : ImagePage). p.number < 33554432) pages → 0 < length pages → end_of pages ≤ 137438953472
end-below [] below some = absurd (omega arith)
end-below (p ∷ pages) below some =
    let all : List ImagePage = p ∷ pages in
    let last : ImagePage = get_or all (length all - 1) p in
    let here = number-at all (length all - 1) last (get_or-default all (length all - 1) p (omega arith)) (omega arith) in
    let small : last.number < 33554432 = below (length all - 1) p (omega arith) in
    let number : get_or (numbers all) (length all - 1) 0 ≡ last.number = here.0 in
    omega arith

-- a page more has small bytes
pub small-next : (o new : Option Page) (here : Bool) (permission : ℕ) (bytes : List ℕ)
    → new ≡ cond here (Some (record { permission = permission; bytes = bytes })) o
    → IfSome o (λ p. (k : ℕ) → slice_index p.bytes k < 256) → ((k : ℕ) → slice_index bytes k < 256)
    → IfSome new (λ p. (k : ℕ) → slice_index p.bytes k < 256)
small-next o new true permission bytes is small all = subst (λ (q : Option Page). IfSome q (λ p. (k : ℕ) → slice_index p.bytes k < 256)) (sym is) all
small-next o new false permission bytes is small all = subst (λ (q : Option Page). IfSome q (λ p. (k : ℕ) → slice_index p.bytes k < 256)) (sym is) small
