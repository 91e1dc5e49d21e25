-- Pages of an image that is that of two parts: page 16 has the code, and page 32 begins with the data.
use Rattle.std.proofs.Common.{◌≡◌, ℕ, zero, suc, ◌+◌, ◌*◌, ◌/◌, ◌%◌, ◌<◌, ◌≤◌, ◌&&◌, inl, inr, List, [], ◌∷◌, map, Option, Some, None, Bool, true, false, cond, nat_le, nat_lt, nat_eq, refl, ap, subst, ◌∙◌, arith, eq-eqb, slice_index, slice_index_or, option_map, length, get_or, All, IsTrue}
use Rattle.std.specs.List.{Contains, list_any}
use Rattle.std.proofs.lemmas.Bool.{ne_eqb, cases_eq, cases_lt, le-leb, lt-leb, le-ltb, lt-ltb}
use Rattle.mach_types.specs.Kernel.Pages.{can_execute, permission_of}
use Rattle.elf_load.specs.declared.image.ImagePage.{ImagePage}
use Rattle.elf_load.specs.Fields.{has_page}
use Rattle.elf_load.specs.Images.{numbers}
use Rattle.elf_load.specs.Start.{code_byte, image_byte, image_run, page_byte, page_of, start_runs}
use Rattle.elf_make.specs.Parts.{ArePagesOf, parts_byte, parts_permission, segment_of}
use Rattle.elf_make.specs.declared.parts.Part.{Part}

-- ---- the page with a number

-- a page that is found: what holds of all pages holds of it
pub record IsFound (pages : List ImagePage) (n : ℕ) : Type 0 where
  pub page : ImagePage
  pub index : ℕ
  pub below : index < length pages
  pub at : (d : ImagePage) → get_or pages index d ≡ page
  pub is : page_of pages n ≡ Some page
  pub number : page.number ≡ n

first_found : (p : ImagePage) (pages : List ImagePage) (n : ℕ) → nat_eq p.number n ≡ true → p.number ≡ n
    → IsFound (p ∷ pages) n
first_found p pages n same number = record {
  page = p;
  index = 0;
  below = omega arith;
  at = λ d. refl;
  is = ap (λ b. cond b (Some p) (page_of pages n)) same;
  number = number;
}

later_found : (p : ImagePage) (pages : List ImagePage) (n : ℕ) → nat_eq p.number n ≡ false → IsFound pages n
    → IsFound (p ∷ pages) n
later_found p pages n other found = record {
  page = found.page;
  index = suc found.index;
  below = let h = found.below in omega arith;
  at = found.at;
  is = ap (λ b. cond b (Some p) (page_of pages n)) other ∙ found.is;
  number = found.number;
}

pub found_at : (pages : List ImagePage) (n k : ℕ) → k < length (numbers pages) → slice_index_or (numbers pages) k n ≡ n
    → IsFound pages n
found_at [] n k lt is = absurd (omega arith)
found_at (p ∷ pages) n zero lt is = first_found p pages n (eq-eqb p.number n is) is
found_at (p ∷ pages) n (suc k) lt is = elim (cases_eq p.number n) [
  | inl same ↦ first_found p pages n (eq-eqb p.number n same) same
  | inr other ↦ later_found p pages n (ne_eqb p.number n other) (found_at pages n k (omega arith) is)
]

-- what holds of all pages holds of it
pub holds_of : (P : ImagePage → Type 0) (pages : List ImagePage) (n : ℕ) (found : IsFound pages n) → All P pages
    → P found.page
holds_of P pages n found all = subst P (found.at found.page) (all found.index found.page found.below)

-- ---- its permission

one_page : (m n : ℕ) → (nat_le m n && nat_lt n (m + 1)) ≡ nat_eq m n
one_page m n = elim (cases_lt m n) [
  | inl less ↦ rw (le-leb m n (omega arith), le-ltb n (m + 1) (omega arith), ne_eqb m n (λ e. omega arith)) refl
  | inr not_less ↦ elim (cases_eq m n) [
    | inl same ↦ rw (le-leb m n (omega arith), lt-ltb n (m + 1) (omega arith), eq-eqb m n same) refl
    | inr two ↦ rw (lt-leb m n (omega arith), ne_eqb m n two) refl
  ]
]

abbrev image_permission : Option ImagePage → Option ℕ
image_permission o = option_map (λ (p : ImagePage). p.perm) o

chosen : (b : Bool) (p : ImagePage) (o : Option ℕ) (rest : Option ImagePage) → o ≡ image_permission rest
    → cond b (Some p.perm) o ≡ image_permission (cond b (Some p) rest)
chosen true p o rest same = refl
chosen false p o rest same = same

permission-image : (pages : List ImagePage) (n : ℕ) → permission_of (map image_run pages) n ≡ image_permission (page_of pages n)
permission-image [] n = refl
permission-image (p ∷ pages) n =
    ap (λ b. let r : Option ℕ = cond b (Some p.perm) (permission_of (map image_run pages) n) in r) (one_page p.number n)
    ∙ chosen (nat_eq p.number n) p (permission_of (map image_run pages) n) (page_of pages n) (permission-image pages n)

-- a byte of page n at an offset, where it may be executed
abbrev code_in : List ImagePage → ℕ → ℕ → Option ℕ
code_in pages n offset = cond (can_execute (permission_of (start_runs pages) n)) (Some (page_byte pages n offset)) None

-- ---- code and data

module _ (code data_part : Part) (pages : List ImagePage) (are : ArePagesOf (code ∷ data_part ∷ []) pages)
    (code_at : code.at ≡ 0x10000) (code_size : code.memsz ≡ 0x1000) (code_perm : code.perm ≡ 5)
    (data_at : data_part.at ≡ 0x20000) (data_size : data_part.memsz ≡ 0x30000)
    (short : length code.bytes.items ≤ 0x1000) where
  abbrev parts : List Part
  parts = code ∷ data_part ∷ []

  -- the page of the code
  code_there : IsTrue (list_any (λ p. has_page 16 (segment_of p)) parts)
  code_there = rw (code_at, code_size) refl

  pub code_page : IsFound pages 16
  code_page = let there : Contains (numbers pages) 16 = (are.present 16).1 code_there in
      found_at pages 16 there.0 there.1 there.2

  code_permission_is : parts_permission parts 16 ≡ 5
  unfolding parts_permission
  code_permission_is = rw (code_at, code_size, code_perm) refl

  code_permission : code_page.page.perm ≡ 5
  code_permission =
      holds_of (λ p. p.perm ≡ parts_permission parts p.number) pages 16 code_page are.permissions
      ∙ ap (parts_permission parts) code_page.number ∙ code_permission_is

  code_byte_is : (j : ℕ) → j < length code.bytes.items → parts_byte parts (0x10000 + j) ≡ get_or code.bytes.items j 0
  unfolding parts_byte
  code_byte_is j lt =
      rw (code_at, le-leb 0x10000 (0x10000 + j) (omega arith), lt-ltb (0x10000 + j) (0x10000 + length code.bytes.items) (omega arith))
      (ap (λ m. get_or code.bytes.items m 0) (omega arith))

  code_bytes : (j : ℕ) → j < length code.bytes.items
      → slice_index code_page.page.bytes j ≡ get_or code.bytes.items j 0
  code_bytes j lt =
      holds_of (λ p. (m : ℕ) → m < 4096 → slice_index p.bytes m ≡ parts_byte parts (4096 * p.number + m)) pages 16
      code_page are.bytes j (omega arith)
      ∙ ap (λ n. parts_byte parts (4096 * n + j)) code_page.number ∙ code_byte_is j lt

  -- a byte of the code, where the thread may execute it
  pub code_byte_at : (j : ℕ) → j < length code.bytes.items
      → code_byte pages (0x10000 + j) ≡ Some (get_or code.bytes.items j 0)
  code_byte_at j lt =
      let number : (0x10000 + j) / 4096 ≡ 16 = omega arith in
      let offset : (0x10000 + j) % 4096 ≡ j = omega arith in
      ap (λ n. code_in pages n ((0x10000 + j) % 4096)) number ∙ ap (code_in pages 16) offset
      ∙ ap (λ p. cond (can_execute p) (Some (page_byte pages 16 j)) None)
      (permission-image pages 16 ∙ ap image_permission code_page.is ∙ ap Some code_permission)
      ∙ ap (λ o. Some (image_byte o j)) code_page.is ∙ ap Some (code_bytes j lt)

  -- the page with which the data begin
  data_there : IsTrue (list_any (λ p. has_page 32 (segment_of p)) parts)
  data_there = rw (code_at, code_size, data_at, data_size) refl

  pub data_page : IsFound pages 32
  data_page = let there : Contains (numbers pages) 32 = (are.present 32).1 data_there in
      found_at pages 32 there.0 there.1 there.2

  data_byte_is : (j : ℕ) → j < length data_part.bytes.items
      → parts_byte parts (0x20000 + j) ≡ get_or data_part.bytes.items j 0
  unfolding parts_byte
  data_byte_is j lt =
      rw (code_at, data_at, le-leb 0x10000 (0x20000 + j) (omega arith), le-ltb (0x20000 + j) (0x10000 + length code.bytes.items) (omega arith), le-leb 0x20000 (0x20000 + j) (omega arith), lt-ltb (0x20000 + j) (0x20000 + length data_part.bytes.items) (omega arith))
      (ap (λ m. get_or data_part.bytes.items m 0) (omega arith))

  pub data_byte_at : (j : ℕ) → j < length data_part.bytes.items → j < 4096
      → image_byte (page_of pages 32) j ≡ get_or data_part.bytes.items j 0
  data_byte_at j lt low =
      ap (λ o. image_byte o j) data_page.is
      ∙ holds_of (λ p. (m : ℕ) → m < 4096 → slice_index p.bytes m ≡ parts_byte parts (4096 * p.number + m)) pages 32
      data_page are.bytes j low
      ∙ ap (λ n. parts_byte parts (4096 * n + j)) data_page.number ∙ data_byte_is j lt
