-- A machine that runs the image of a file fetches the words of the code that stands in the file.
use Rattle.std.proofs.Common.{◌≡◌, ◌≢◌, ℕ, zero, suc, ◌+◌, ◌*◌, ◌/◌, ◌%◌, ◌^◌, ◌<◌, ◌≤◌, ◌⊎◌, inl, inr, List, []}
use Rattle.std.proofs.Common.{◌∷◌, ◌++◌, length, map, find, refl, sym, ap, ◌∙◌, subst, arith, Bool, true, false, cond}
use Rattle.std.proofs.Common.{◌&&◌, ◌||◌, eqb, leb, ltb, All, Option, Some, None, slice_get, slice_index, unwrap_or}
use Rattle.std.specs.Option.{option_map}
use Rattle.std.specs.List.{Contains, flat_map, list_any}
use Rattle.std.specs.Int.{to_le_bytes, w32}
use Rattle.std.proofs.lemmas.Bool.{cases_eq, cases_lt, eqb-true, eqb-false, false≢true, le-leb, le-ltb, lt-leb, lt-ltb}
use Rattle.std.proofs.lemmas.Bool.{ne_eqb}
use Rattle.std.proofs.lemmas.List.Elements.{All-head, All-tail}
use Rattle.std.proofs.lemmas.List.Concat.{flat_map-cons}
use Rattle.std.proofs.lemmas.Option.{slice_get_within}
use Rattle.mach_types.proofs.Laws.{eqb_same}
use Rattle.mach_types.specs.Bytes.{byte_of, word_at}
use Rattle.mach_types.specs.Kernel.Pages.{can_execute, is_in, permission_of}
use Rattle.elf_load.specs.Fields.{has_page, program_headers}
use Rattle.elf_load.specs.Images.{IsImage, IsPage, memory_byte, numbers, page_permission, permission}
use Rattle.elf_load.specs.Start.{code_byte, code_word, image_byte, image_run, loaded_byte, page_of, return_byte}
use Rattle.elf_load.specs.Start.{return_run, stack_run, start_runs}
use Rattle.mach_types.specs.declared.address_space.TheConstants.{FIRST_STACK_PAGE, PAGE_SIZE, RETURN_PAGE}
use Rattle.mach_types.specs.declared.address_space.TheConstants.{STACK_PAGES}
use Rattle.elf_load.specs.declared.image.Image.{Image}
use Rattle.elf_load.specs.declared.image.ImagePage.{ImagePage}
use Rattle.elf_load.specs.declared.program_headers.ProgramHeader.{ProgramHeader}
use Rattle.rv_asm.specs.Assembly.{AreAssembled}
use Rattle.rv_asm.specs.declared.item.Item.{Item}
use Rattle.block_model.specs.Instruction.{fetched}
use Rattle.store_buffers.proofs.WordsSeen.{word_at-from}
use Rattle.percpu_lib.specs.Files.{HoldsCode}

-- PAGES

-- a run of one page has that page, and no other
one_page : (m n : ℕ) → (leb m n && ltb n (m + 1)) ≡ eqb m n
one_page m n = by_order (cases_lt m n)
  where
    by_order : (m < n) ⊎ (n ≤ m) → (leb m n && ltb n (m + 1)) ≡ eqb m n
    by_order (inl less) =
        ap (λ b. leb m n && b) (le-ltb n (m + 1) (omega arith)) ∙ ap (λ b. b && false) (le-leb m n (omega arith))
        ∙ sym (ne_eqb m n (λ same. absurd (omega arith)))
    by_order (inr most) = by_same (cases_eq m n)
      where
        by_same : (m ≡ n) ⊎ (m ≢ n) → (leb m n && ltb n (m + 1)) ≡ eqb m n
        by_same (inl same) =
            ap (λ b. leb m n && b) (lt-ltb n (m + 1) (omega (arith, same)))
            ∙ ap (λ b. b && true) (le-leb m n (omega (arith, same)))
            ∙ sym (ap (λ k. eqb m k) (sym same) ∙ eqb_same m)
        by_same (inr two) =
            ap (λ b. b && ltb n (m + 1)) (lt-leb m n (omega arith)) ∙ sym (ne_eqb m n two)

-- the page with a number, of a file's pages
record IsPageOf (file : List ℕ) (pages : List ImagePage) (n : ℕ) : Type 0 where
  page : ImagePage
  is : IsPage file page
  number : page.number ≡ n
  found : page_of pages n ≡ Some page
  mapped : permission_of (map image_run pages) n ≡ Some page.perm

nothing_there : (n : ℕ) → Contains [] n → ⊥
nothing_there n (k, lt, is) = absurd (omega arith)

first_or_later : (x : ℕ) (xs : List ℕ) (n : ℕ) → Contains (x ∷ xs) n → (n ≡ x) ⊎ Contains xs n
first_or_later x xs n (zero, lt, is) = inl (sym is)
first_or_later x xs n (suc k, lt, is) = inr (k, omega arith, is)

page_there : (file : List ℕ) (pages : List ImagePage) (n : ℕ) → All (IsPage file) pages
    → Contains (numbers pages) n → IsPageOf file pages n
page_there file [] n whole there = absurd (nothing_there n there)
page_there file (p ∷ pages) n whole there =
    by_number (eqb p.number n) refl
    (page_there file pages n (All-tail (IsPage file) p pages whole))
  where
    in_first : is_in (image_run p) n ≡ eqb p.number n
    in_first = one_page p.number n

    later : (n ≡ p.number) ⊎ Contains (numbers pages) n → p.number ≢ n → Contains (numbers pages) n
    later (inl same) other = absurd (other (sym same))
    later (inr behind) other = behind

    by_number : (c : Bool) → eqb p.number n ≡ c → (Contains (numbers pages) n → IsPageOf file pages n)
        → IsPageOf file (p ∷ pages) n
    by_number true same rest = record {
      page = p;
      is = All-head (IsPage file) p pages whole;
      number = eqb-true p.number n same;
      found = ap (λ c. cond c (Some p) (page_of pages n)) same;
      mapped = ap (λ c. cond c (image_run p).permission (permission_of (map image_run pages) n)) (in_first ∙ same);
    }
    by_number false other rest =
        let its = rest (later (first_or_later p.number (numbers pages) n there) (eqb-false p.number n other)) in
        record {
          page = its.page;
          is = its.is;
          number = its.number;
          found = ap (λ c. cond c (Some p) (page_of pages n)) other ∙ its.found;
          mapped = ap (λ c. cond c (image_run p).permission (permission_of (map image_run pages) n))
              (in_first ∙ other) ∙ its.mapped;
        }

-- a page that may be executed is there
some_header : (n : ℕ) (hs : List ProgramHeader)
    → can_execute (Some (unwrap_or (option_map permission (find (has_page n) hs)) 0)) ≡ true
    → list_any (has_page n) hs ≡ true
some_header n [] may = absurd (false≢true may)
some_header n (x ∷ hs) may = by_first (has_page n x) refl (some_header n hs)
  where
    by_first : (c : Bool) → has_page n x ≡ c
        → (can_execute (Some (unwrap_or (option_map permission (find (has_page n) hs)) 0)) ≡ true
        → list_any (has_page n) hs ≡ true)
        → list_any (has_page n) (x ∷ hs) ≡ true
    by_first true has rest = ap (λ c. c || list_any (has_page n) hs) has
    by_first false lacks rest =
        ap (λ c. c || list_any (has_page n) hs) lacks
        ∙ rest (sym (ap (λ c. can_execute
        (Some (unwrap_or (option_map permission (cond c (Some x) (find (has_page n) hs))) 0))) lacks) ∙ may)

header_of : (file : List ℕ) (n : ℕ) → can_execute (Some (page_permission file n)) ≡ true
    → list_any (has_page n) (program_headers file) ≡ true
unfolding page_permission
header_of file n may = some_header n (program_headers file) may

-- below the stack and the return page
off_stack : (n : ℕ) → n < 33554432 → is_in stack_run n ≡ false
off_stack n low = ap (λ b. b && ltb n (FIRST_STACK_PAGE + STACK_PAGES)) (lt-leb FIRST_STACK_PAGE n (omega arith))

off_return : (n : ℕ) → n < 33554432 → is_in return_run n ≡ false
off_return n low = ap (λ b. b && ltb n (RETURN_PAGE + 1)) (lt-leb RETURN_PAGE n (omega arith))

-- BYTES OF WORDS

abbrev all_bytes : List ℕ → List ℕ
all_bytes words = flat_map (λ v. to_le_bytes w32 v) words

flat_length : (words : List ℕ) → length (all_bytes words) ≡ 4 * length words
flat_length [] = refl
flat_length (x ∷ words) =
    let more = flat_length words in
    let longer : length (all_bytes (x ∷ words)) ≡ suc (suc (suc (suc (length (all_bytes words))))) =
    ap (λ (bs : List ℕ). length bs) (flat_map-cons (λ v. to_le_bytes w32 v) x words) in
    omega (arith, more, longer)

first_four : (x : ℕ) (rest : List ℕ) (j : ℕ) → j < 4 → slice_index (to_le_bytes w32 x ++ rest) j ≡ byte_of x j
first_four x rest zero lt = omega arith
first_four x rest (suc zero) lt = refl
first_four x rest (suc (suc zero)) lt = refl
first_four x rest (suc (suc (suc zero))) lt = refl
first_four x rest (suc (suc (suc (suc j)))) lt = absurd (omega arith)

byte_in_word : (words : List ℕ) (k j w : ℕ) → slice_get words k ≡ Some w → j < 4
    → slice_index (all_bytes words) (4 * k + j) ≡ byte_of w j
byte_in_word [] k j w is lt = absurd cc
byte_in_word (x ∷ words) zero j w is lt =
    let same : x ≡ w = ap (λ (o : Option ℕ). unwrap_or o 0) is in
    let here : 4 * zero + j ≡ j = omega arith in
    ap (λ i. slice_index (all_bytes (x ∷ words)) i) here
    ∙ ap (λ (bs : List ℕ). slice_index bs j) (flat_map-cons (λ v. to_le_bytes w32 v) x words)
    ∙ first_four x (all_bytes words) j lt ∙ ap (λ v. byte_of v j) same
byte_in_word (x ∷ words) (suc k) j w is lt =
    let there : 4 * suc k + j ≡ suc (suc (suc (suc (4 * k + j)))) = omega arith in
    ap (λ i. slice_index (all_bytes (x ∷ words)) i) there
    ∙ ap (λ (bs : List ℕ). slice_index bs (suc (suc (suc (suc (4 * k + j))))))
    (flat_map-cons (λ v. to_le_bytes w32 v) x words)
    ∙ byte_in_word words k j w is lt

has_32_bits : (words : List ℕ) (k w : ℕ) → All (λ v. v < 2 ^ 32) words → slice_get words k ≡ Some w → w < 2 ^ 32
has_32_bits [] k w all is = absurd cc
has_32_bits (x ∷ words) zero w all is =
    let same : x ≡ w = ap (λ (o : Option ℕ). unwrap_or o 0) is in
    subst (λ v. v < 2 ^ 32) same (All-head (λ v. v < 2 ^ 32) x words all)
has_32_bits (x ∷ words) (suc k) w all is = has_32_bits words k w (All-tail (λ v. v < 2 ^ 32) x words all) is

module _ (file : List ℕ) (image : Image) (its : IsImage file image) (at : ℕ) (bytes : List ℕ)
    (holds : HoldsCode file at bytes) where
  abbrev pages : List ImagePage
  pages = image.pages.items

  -- each byte is that of the file
  module _ (k : ℕ) (lt : k < length bytes) where
    abbrev n : ℕ
    n = (at + k) / PAGE_SIZE

    abbrev o : ℕ
    o = (at + k) % PAGE_SIZE

    low_page : n < 33554432
    low_page = let low = holds.low in omega arith

    its_page : IsPageOf file pages n
    its_page = page_there file pages n its.pages.whole
        ((its.pages.present n).1 (header_of file n (holds.executable k lt)))

    executes : can_execute (permission_of (start_runs pages) n) ≡ true
    executes =
        ap (λ c. can_execute (cond c stack_run.permission (cond (is_in return_run n) return_run.permission
        (permission_of (map image_run pages) n)))) (off_stack n low_page)
        ∙ ap (λ c. can_execute (cond c return_run.permission (permission_of (map image_run pages) n)))
        (off_return n low_page)
        ∙ ap can_execute its_page.mapped ∙ ap (λ m. can_execute (Some m)) its_page.is.permission
        ∙ ap (λ m. can_execute (Some (page_permission file m))) its_page.number ∙ holds.executable k lt

    loaded_is : loaded_byte pages (at + k) ≡ slice_index bytes k
    loaded_is =
        let within : o < 4096 = omega arith in
        let place : 4096 * n + o ≡ at + k = omega arith in
        ap (λ c. cond c 0 (cond (is_in return_run n) (return_byte o) (image_byte (page_of pages n) o)))
        (off_stack n low_page)
        ∙ ap (λ c. cond c (return_byte o) (image_byte (page_of pages n) o)) (off_return n low_page)
        ∙ ap (λ (q : Option ImagePage). image_byte q o) its_page.found
        ∙ its_page.is.bytes o within
        ∙ ap (λ m. memory_byte file (4096 * m + o)) its_page.number
        ∙ ap (memory_byte file) place ∙ holds.bytes_are k lt

    pub byte_there : code_byte pages (at + k) ≡ Some (slice_index bytes k)
    byte_there =
        ap (λ c. cond c (Some (loaded_byte pages (at + k))) None) executes ∙ ap Some loaded_is

  -- WORDS
  module _ (labels : List (Option ℕ)) (items : List Item) (code : AreAssembled labels items bytes) where
    -- a word of bytes that are those of the code
    word_from : (bytes_at : ℕ → Option ℕ) → ((j : ℕ) → j < length bytes → bytes_at (at + j) ≡ Some (slice_index bytes j))
        → (k w : ℕ) → slice_get code.words k ≡ Some w → word_at bytes_at (at + 4 * k) 4 ≡ Some w
    word_from bytes_at there k w is =
        let within : k < length code.words = slice_get_within code.words k w is in
        let long : length bytes ≡ 4 * length code.words =
        ap (λ (bs : List ℕ). length bs) code.bytes_are ∙ flat_length code.words in
        let small = has_32_bits code.words k w code.have_32_bits is in
        word_at-from bytes_at (at + 4 * k) 4 w (omega arith)
        (λ j lt.
        let place : at + 4 * k + j ≡ at + (4 * k + j) = omega arith in
        ap bytes_at place ∙ there (4 * k + j) (omega (arith, long))
        ∙ ap (λ (bs : List ℕ). Some (slice_index bs (4 * k + j))) code.bytes_are
        ∙ ap Some (byte_in_word code.words k j w is lt))

    pub word_fetched : (k w : ℕ) → slice_get code.words k ≡ Some w → fetched pages (at + 4 * k) ≡ Some w
    word_fetched k w is =
        let aligned = holds.aligned in
        let even : (at + 4 * k) % 4 ≡ 0 = omega arith in
        ap (λ n. cond (eqb n 0) (code_word pages (at + 4 * k)) None) even
        ∙ word_from (code_byte pages) byte_there k w is

    -- and they are in memory
    pub word_loaded : (k w : ℕ) → slice_get code.words k ≡ Some w
        → word_at (λ a. Some (loaded_byte pages a)) (at + 4 * k) 4 ≡ Some w
    word_loaded = word_from (λ a. Some (loaded_byte pages a)) (λ k lt. ap Some (loaded_is k lt))
