-- Which program a made file starts: that of its code and its data, page by page.
use Rattle.std.proofs.Common.{◌≡◌, ℕ, zero, suc, ◌+◌, ◌-◌, ◌*◌, ◌<◌, ◌≤◌, ◌⊎◌, inl, inr, List, [], ◌∷◌, ◌++◌}
use Rattle.std.proofs.Common.{length, refl, sym, ap, ◌∙◌, arith, subst, Bool, true, false, ◌||◌, ◌&&◌, IsTrue}
use Rattle.std.proofs.Common.{All, get_or, slice_index, replicate, map, length-append, nat_le}
use Rattle.std.specs.Prelude.{Contains, sum_by}
use Rattle.std.specs.List.{list_any}
use Rattle.std.specs.List.Sorted.{IsStrictlyIncreasing}
use Rattle.std.proofs.lemmas.Bool.{false≢true, cases_eq, cases_lt, le-leb, lt-leb, le-ltb, lt-ltb, leb-true}
use Rattle.std.proofs.lemmas.List.{length-replicate}
use Rattle.elf_load.specs.Fields.{has_page, page_count, program_headers}
use Rattle.elf_load.specs.Images.{ArePages, IsImage, IsPage, memory_byte, numbers}
use Rattle.elf_load.specs.declared.image.Image.{Image}
use Rattle.elf_load.specs.declared.image.ImagePage.{ImagePage}
use Rattle.elf_make.specs.Parts.{parts_byte, parts_permission, segment_of}
use Rattle.elf_make.specs.declared.parts.Part.{Part}
use Rattle.elf_make.proofs.Standing.{stand-any, stand-sum}
use Rattle.guest_names.specs.declared.names.Name.{Name}
use Rattle.mach_types.specs.declared.limits.Limits.{Limits}
use Rattle.block_model.specs.Setting.{Setting, setting_of}
use Rattle.block_model.proofs.Laws.{one_setting}
use Rattle.guest_programs.specs.Programs.{IsGuestElf, data_bytes, data_pages, filled, guest_program}
use Rattle.guest_programs.specs.declared.layout.TheConstants.{CODE}
use Rattle.guest_programs.specs.declared.parts.TheConstants.{CODE_PERM}
use Rattle.guest_programs.proofs.Exact.{byte_is, code_part_byte, code_part_permission, code_short, data_short}
use Rattle.guest_programs.proofs.Exact.{permission_is, short, written}

-- BYTES OF A PAGE

zeros_byte : (n j : ℕ) → slice_index (replicate n 0) j ≡ 0
zeros_byte zero j = refl
zeros_byte (suc n) zero = refl
zeros_byte (suc n) (suc j) = zeros_byte n j

filled_byte : (bytes : List ℕ) (n j : ℕ) → slice_index (bytes ++ replicate n 0) j ≡ get_or bytes j 0
filled_byte [] n j = zeros_byte n j
filled_byte (b ∷ bytes) n zero = refl
filled_byte (b ∷ bytes) n (suc j) = filled_byte bytes n j

behind : (bytes : List ℕ) (j : ℕ) → length bytes ≤ j → get_or bytes j 0 ≡ 0
behind [] j past = refl
behind (b ∷ bytes) zero past = absurd (omega arith)
behind (b ∷ bytes) (suc j) past = behind bytes j (omega arith)

filled_long : (bytes : List ℕ) → length bytes ≤ 4096 → length (filled bytes) ≡ 4096
filled_long bytes short =
    length-append bytes (replicate (4096 - length bytes) 0)
    ∙ ap (λ n. length bytes + n) (length-replicate {A = ℕ} (4096 - length bytes) 0) ∙ omega arith

-- NUMBERS OF PAGES

many : (count number : ℕ) (bytes : List ℕ) → length (numbers (data_pages number bytes count)) ≡ count
many zero number bytes = refl
many (suc count) number bytes = let rest = many count (number + 1) [] in omega arith

as_long : (count number : ℕ) (bytes : List ℕ) → length (data_pages number bytes count) ≡ count
as_long zero number bytes = refl
as_long (suc count) number bytes = let rest = as_long count (number + 1) [] in omega arith

number_of_page : (count number : ℕ) (bytes : List ℕ) (k : ℕ) → k < count
    → slice_index (numbers (data_pages number bytes count)) k ≡ number + k
number_of_page zero number bytes k lt = absurd (omega arith)
number_of_page (suc count) number bytes zero lt = omega arith
number_of_page (suc count) number bytes (suc k) lt =
    number_of_page count (number + 1) [] k (omega arith) ∙ omega arith

in_pages : (count number : ℕ) (bytes : List ℕ) (n : ℕ) → Contains (numbers (data_pages number bytes count)) n
    → (number ≤ n) × (n < number + count)
in_pages zero number bytes n (k, lt, is) = absurd (omega arith)
in_pages (suc count) number bytes n (zero, lt, is) = (omega (arith, is), omega (arith, is))
in_pages (suc count) number bytes n (suc k, lt, is) =
    let rest = in_pages count (number + 1) [] n (k, omega arith, is) in
    (omega (arith, rest.0), omega (arith, rest.1))

has_pages : (count number : ℕ) (bytes : List ℕ) (n : ℕ) → number ≤ n → n < number + count
    → Contains (numbers (data_pages number bytes count)) n
has_pages zero number bytes n low high = absurd (omega arith)
has_pages (suc count) number bytes n low high = by_place (cases_eq number n) (has_pages count (number + 1) [] n)
  where
    by_place : (number ≡ n) ⊎ ((number ≡ n) → ⊥) → (number + 1 ≤ n → n < (number + 1) + count
        → Contains (numbers (data_pages (number + 1) [] count)) n)
        → Contains (numbers (data_pages number bytes (suc count))) n
    by_place (inl same) later = (0, omega arith, same)
    by_place (inr other) later =
        let rest = later (omega (arith, other)) (omega arith) in
        (suc rest.0, let lt = rest.1 in omega arith, rest.2)

rising : (bytes : List ℕ) (count : ℕ) → IsStrictlyIncreasing (16 ∷ numbers (data_pages 32 bytes count))
rising bytes count zero lt =
    let long = many count 32 bytes in
    let first = number_of_page count 32 bytes 0 (omega arith) in
    omega arith
rising bytes count (suc k) lt =
    let long = many count 32 bytes in
    let step : suc k + 1 ≡ suc (k + 1) = omega arith in
    let here = number_of_page count 32 bytes k (omega arith) in
    let next = number_of_page count 32 bytes (k + 1) (omega arith) in
    let xs = numbers (data_pages 32 bytes count) in
    subst (λ j. slice_index xs k < slice_index (16 ∷ xs) j) (sym step) (omega arith)

-- BYTES AND PERMISSIONS OF TWO PARTS

past_code : (c d : Part) (k : ℕ) → c.at ≡ 0x10000 → d.at ≡ 0x20000 → length c.bytes.items ≤ k → k < 4096
    → parts_byte (c ∷ d ∷ []) (0x10000 + k) ≡ 0
unfolding parts_byte
past_code c d k c_at d_at past lt =
    rw (c_at, d_at, le-leb 0x10000 (0x10000 + k) (omega arith), le-ltb (0x10000 + k) (0x10000 + length c.bytes.items) (omega arith), lt-leb 0x20000 (0x10000 + k) (omega arith))
    refl

in_data : (c d : Part) (k : ℕ) → c.at ≡ 0x10000 → d.at ≡ 0x20000 → length c.bytes.items ≤ 4096
    → k < length d.bytes.items → parts_byte (c ∷ d ∷ []) (0x20000 + k) ≡ get_or d.bytes.items k 0
unfolding parts_byte
in_data c d k c_at d_at short lt =
    rw (c_at, d_at, le-leb 0x10000 (0x20000 + k) (omega arith), le-ltb (0x20000 + k) (0x10000 + length c.bytes.items) (omega arith), le-leb 0x20000 (0x20000 + k) (omega arith), lt-ltb (0x20000 + k) (0x20000 + length d.bytes.items) (omega arith))
    (ap (λ m. get_or d.bytes.items m 0) (omega arith))

past_data : (c d : Part) (k : ℕ) → c.at ≡ 0x10000 → d.at ≡ 0x20000 → length c.bytes.items ≤ 4096
    → length d.bytes.items ≤ k → parts_byte (c ∷ d ∷ []) (0x20000 + k) ≡ 0
unfolding parts_byte
past_data c d k c_at d_at short past =
    rw (c_at, d_at, le-leb 0x10000 (0x20000 + k) (omega arith), le-ltb (0x20000 + k) (0x10000 + length c.bytes.items) (omega arith), le-leb 0x20000 (0x20000 + k) (omega arith), le-ltb (0x20000 + k) (0x20000 + length d.bytes.items) (omega arith))
    refl

data_permission : (c d : Part) (m : ℕ) → c.at ≡ 0x10000 → c.memsz ≡ 0x1000 → d.at ≡ 0x20000 → d.memsz ≡ 0x30000
    → d.perm ≡ 6 → 32 ≤ m → m ≤ 79 → parts_permission (c ∷ d ∷ []) m ≡ 6
unfolding parts_permission
data_permission c d m c_at c_size d_at d_size d_perm low high =
    rw (c_at, c_size, d_at, d_size, d_perm, le-leb 16 m (omega arith), lt-leb m 16 (omega arith), le-leb 32 m low, le-leb m 79 high)
    refl

-- which pages two parts have
abbrev is_page : ℕ → Bool
is_page n = (nat_le 16 n && nat_le n 16) || ((nat_le 32 n && nat_le n 79) || false)

any_page : (c d : Part) (n : ℕ) → c.at ≡ 0x10000 → c.memsz ≡ 0x1000 → d.at ≡ 0x20000 → d.memsz ≡ 0x30000
    → list_any (λ p. has_page n (segment_of p)) (c ∷ d ∷ []) ≡ is_page n
any_page c d n c_at c_size d_at d_size = rw (c_at, c_size, d_at, d_size) refl

page_sum : (c d : Part) → c.at ≡ 0x10000 → c.memsz ≡ 0x1000 → d.at ≡ 0x20000 → d.memsz ≡ 0x30000
    → sum_by page_count (map segment_of (c ∷ d ∷ [])) ≡ 49
page_sum c d c_at c_size d_at d_size = rw (c_at, c_size, d_at, d_size) refl

or_right : (a b : Bool) → b ≡ true → a || b ≡ true
or_right true b is = refl
or_right false b is = is

page_of_code : (n : ℕ) → n ≡ 16 → is_page n ≡ true
page_of_code n is = ap is_page is

page_of_data : (n : ℕ) → 32 ≤ n → n ≤ 79 → is_page n ≡ true
page_of_data n low high =
    or_right (nat_le 16 n && nat_le n 16) ((nat_le 32 n && nat_le n 79) || false)
    (rw (le-leb 32 n low, le-leb n 79 high) refl)

either_page : (n : ℕ) → is_page n ≡ true → (n ≡ 16) ⊎ ((32 ≤ n) × (n ≤ 79))
either_page n is = by_first (nat_le 16 n) refl (nat_le n 16) refl is
  where
    by_data : (a b : Bool) → nat_le 32 n ≡ a → nat_le n 79 ≡ b → (a && b) || false ≡ true
        → (n ≡ 16) ⊎ ((32 ≤ n) × (n ≤ 79))
    by_data true true low high is = inr (leb-true 32 n low, leb-true n 79 high)
    by_data true false low high is = absurd (false≢true is)
    by_data false b low high is = absurd (false≢true is)

    by_first : (a : Bool) → nat_le 16 n ≡ a → (b : Bool) → nat_le n 16 ≡ b
        → (a && b) || ((nat_le 32 n && nat_le n 79) || false) ≡ true → (n ≡ 16) ⊎ ((32 ≤ n) × (n ≤ 79))
    by_first true low true high is =
        let under = leb-true 16 n low in let over = leb-true n 16 high in inl (omega arith)
    by_first true low false high is = by_data (nat_le 32 n) (nat_le n 79) refl refl is
    by_first false low b high is = by_data (nat_le 32 n) (nat_le n 79) refl refl is

-- THE PAGES OF A MADE FILE

module _ (name : Name) (n : ℕ) (file : List ℕ) (elf : IsGuestElf name n file) where
  abbrev c : Part
  c = elf.code_part

  abbrev d : Part
  d = elf.data_part

  abbrev first_bytes : List ℕ
  first_bytes = data_bytes elf.asm n

  abbrev pages : List ImagePage
  pages = record { number = 16; perm = CODE_PERM; bytes = filled elf.code } ∷ data_pages 32 first_bytes 48

  few : length elf.code ≤ 4096
  few = short name n file elf

  few_parts : length c.bytes.items ≤ 4096
  few_parts = code_short name n file elf

  data_few : length d.bytes.items ≡ 96
  data_few = data_short name n file elf

  -- the page of the code
  code_byte_at : (j : ℕ) → j < 4096 → get_or elf.code j 0 ≡ memory_byte file (4096 * 16 + j)
  code_byte_at j lt =
      ap (λ (xs : List ℕ). get_or xs j 0) (sym elf.code_is.holds) ∙ sym (by_place (cases_lt j (length c.bytes.items)))
      ∙ sym (byte_is name n file elf (0x10000 + j)) ∙ ap (memory_byte file) (omega arith)
    where
      by_place : (j < length c.bytes.items) ⊎ (length c.bytes.items ≤ j)
          → parts_byte (c ∷ d ∷ []) (0x10000 + j) ≡ get_or c.bytes.items j 0
      by_place (inl within) = code_part_byte c d j elf.code_is.begins within
      by_place (inr past) =
          past_code c d j elf.code_is.begins elf.data_is.begins past lt ∙ sym (behind c.bytes.items j past)

  code_page_is : IsPage file (record { number = 16; perm = CODE_PERM; bytes = filled elf.code })
  code_page_is = record {
    size = filled_long elf.code few;
    bytes = λ j lt. filled_byte elf.code (4096 - length elf.code) j ∙ code_byte_at j lt;
    permission = sym (permission_is name n file elf 16
        ∙ code_part_permission c d elf.code_is.begins elf.code_is.size elf.code_is.allowed);
  }

  -- those of the data
  data_byte_at : (k : ℕ) → get_or first_bytes k 0 ≡ memory_byte file (0x20000 + k)
  data_byte_at k =
      ap (λ (xs : List ℕ). get_or xs k 0) (sym elf.data_is.holds) ∙ sym (by_place (cases_lt k (length d.bytes.items)))
      ∙ sym (byte_is name n file elf (0x20000 + k))
    where
      by_place : (k < length d.bytes.items) ⊎ (length d.bytes.items ≤ k)
          → parts_byte (c ∷ d ∷ []) (0x20000 + k) ≡ get_or d.bytes.items k 0
      by_place (inl within) = in_data c d k elf.code_is.begins elf.data_is.begins few_parts within
      by_place (inr past) =
          past_data c d k elf.code_is.begins elf.data_is.begins few_parts past ∙ sym (behind d.bytes.items k past)

  past_first : (k : ℕ) → 4096 ≤ k → get_or first_bytes k 0 ≡ 0
  past_first k past =
      ap (λ (xs : List ℕ). get_or xs k 0) (sym elf.data_is.holds) ∙ behind d.bytes.items k (omega (arith, data_few))

  data_whole : (count i number : ℕ) (bytes : List ℕ) → number ≡ 32 + i → i + count ≤ 48 → length bytes ≤ 4096
      → ((j : ℕ) → j < 4096 → get_or bytes j 0 ≡ get_or first_bytes (4096 * i + j) 0)
      → All (IsPage file) (data_pages number bytes count)
  data_whole zero i number bytes place room few_bytes same k page lt = absurd (omega arith)
  data_whole (suc count) i number bytes place room few_bytes same zero page lt = record {
    size = filled_long bytes few_bytes;
    bytes = λ j below.
        filled_byte bytes (4096 - length bytes) j ∙ same j below ∙ data_byte_at (4096 * i + j)
        ∙ ap (memory_byte file) (omega (arith, place));
    permission = sym (permission_is name n file elf number
        ∙ data_permission c d number elf.code_is.begins elf.code_is.size elf.data_is.begins elf.data_is.size
        elf.data_is.allowed (omega (arith, place)) (omega (arith, place)));
  }
  data_whole (suc count) i number bytes place room few_bytes same (suc k) page lt =
      data_whole count (i + 1) (number + 1) [] (omega (arith, place)) (omega arith) (omega arith)
      (λ j below. sym (past_first (4096 * (i + 1) + j) (omega arith))) k page (omega arith)

  whole : All (IsPage file) pages
  whole zero page lt = code_page_is
  whole (suc k) page lt =
      data_whole 48 0 32 first_bytes refl (omega arith)
      (let long : length first_bytes ≡ 96 = ap length (sym elf.data_is.holds) ∙ data_few in omega arith)
      (λ j below.
      let place : j ≡ 4096 * 0 + j = omega arith in ap (λ m. get_or first_bytes m 0) place) k page (omega arith)

  any_is : (m : ℕ) → list_any (has_page m) (program_headers file) ≡ is_page m
  any_is m =
      let w = written name n file elf in
      ap (list_any (has_page m)) w.table
      ∙ stand-any (has_page m) file w.headers elf.parts.segments.items (λ o q. refl) w.stand
      ∙ ap (λ (ps : List Part). list_any (λ p. has_page m (segment_of p)) ps) elf.segments
      ∙ any_page c d m elf.code_is.begins elf.code_is.size elf.data_is.begins elf.data_is.size

  sum_is : sum_by page_count (program_headers file) ≡ 49
  sum_is =
      let w = written name n file elf in
      ap (sum_by page_count) w.table
      ∙ stand-sum page_count file w.headers elf.parts.segments.items (λ o q. refl) w.stand
      ∙ ap (λ (ps : List Part). sum_by page_count (map segment_of ps)) elf.segments
      ∙ page_sum c d elf.code_is.begins elf.code_is.size elf.data_is.begins elf.data_is.size

  page_there : (m : ℕ) → Contains (numbers pages) m → is_page m ≡ true
  page_there m (zero, lt, is) = page_of_code m (sym is)
  page_there m (suc k, lt, is) =
      let place = in_pages 48 32 first_bytes m (k, omega arith, is) in
      page_of_data m place.0 (let high = place.1 in omega arith)

  there_page : (m : ℕ) → is_page m ≡ true → Contains (numbers pages) m
  there_page m is = by_place (either_page m is)
    where
      by_place : (m ≡ 16) ⊎ ((32 ≤ m) × (m ≤ 79)) → Contains (numbers pages) m
      by_place (inl same) = (0, omega arith, sym same)
      by_place (inr place) =
          let rest = has_pages 48 32 first_bytes m place.0 (let high = place.1 in omega arith) in
          (suc rest.0, let lt = rest.1 in omega arith, rest.2)

  are_pages : ArePages file pages
  are_pages = record {
    rising = rising first_bytes 48;
    present = λ m. (λ here. subst IsTrue (sym (any_is m)) (page_there m here), λ there. there_page m (subst IsTrue (any_is m) there));
    whole = whole;
    count = let long = as_long 48 32 first_bytes in sym (sum_is ∙ omega arith);
  }

  -- an image with these pages is one of the file, and so is like any other
  module _ (image : Image) (is : IsImage file image) where
    long_image : length image.pages.items ≡ length pages
    long_image = is.pages.count ∙ sym are_pages.count

    same_image : Image
    same_image = record image {
      pages = record image.pages { items = pages; ok = (image.pages.ok.0 ∙ long_image, image.pages.ok.1) };
      break_at = 0x50000;
    }

    is_image : IsImage file same_image
    unfolding same_image
    is_image = record {
      pages = are_pages;
      entry = is.entry;
      table = is.table;
      table_length = is.table_length;
      break_at = refl;
    }

    entry_is : image.entry ≡ CODE
    entry_is = is.entry ∙ (written name n file elf).header.entry_is ∙ elf.entry

    two_headers : image.phnum ≡ 2
    two_headers =
        is.table_length ∙ (written name n file elf).header.count_is
        ∙ ap (λ (ps : List Part). length ps) elf.segments

    pub starts : (limits : Limits)
        → (setting_of image limits).program ≡ record (guest_program elf.code first_bytes) { phdr = image.phdr }
    unfolding same_image
    starts limits =
        let same : setting_of image limits ≡ setting_of same_image limits =
        one_setting file image same_image limits is is_image in
        ap (λ (s : Setting). s.program) same
        ∙ (λ i. record (guest_program elf.code first_bytes) { entry = entry_is i; phdr = image.phdr; phnum = two_headers i })
