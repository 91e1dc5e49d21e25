-- What the tests of a program header say, as facts on numbers.
use Rattle.std.proofs.Common.{◌≡◌, ℕ, ◌+◌, ◌-◌, ◌<◌, ◌≤◌, true, false, List, slice_index, refl, arith}
use Rattle.std.proofs.lemmas.Bool.Decides.{nat_tests}
use Rattle.elf_load.specs.declared.program_headers.ProgramHeader.{ProgramHeader}
use Rattle.elf_load.specs.Fields.{is_load, has_pages, has_page, first_page, last_page}
use Rattle.elf_load.specs.Faults.{is_misplaced}
use Rattle.elf_load.specs.Images.{covers}
use Rattle.elf_load.specs.Paging.{segment_byte}

-- a load segment that lies in the file and in the addresses of a user
pub record IsPlaced (file_length : ℕ) (h : ProgramHeader) : Type 0 where
  pub in_memory : h.filesz ≤ h.memsz
  pub in_file : h.offset + h.filesz ≤ file_length
  pub above : 4096 ≤ h.vaddr
  pub below : h.vaddr + h.memsz ≤ 137438953472

pub is_placed : (n : ℕ) (h : ProgramHeader) → is_load h ≡ true → is_misplaced n h ≡ false → IsPlaced n h
is_placed n h load placed = record {
  in_memory = grind (arith, nat_tests);
  in_file = grind (arith, nat_tests);
  above = grind (arith, nat_tests);
  below = grind (arith, nat_tests);
}

-- a segment with memory
pub record HasPages (h : ProgramHeader) : Type 0 where
  pub load : is_load h ≡ true
  pub memory : 0 < h.memsz

pub pages_are : (h : ProgramHeader) → has_pages h ≡ true → HasPages h
pages_are h e = record { load = grind (arith, nat_tests); memory = grind (arith, nat_tests) }

-- a page of a segment
pub record HasPage (n : ℕ) (h : ProgramHeader) : Type 0 where
  pub pages : has_pages h ≡ true
  pub from : first_page h ≤ n
  pub to : n ≤ last_page h

pub page_is : (n : ℕ) (h : ProgramHeader) → has_page n h ≡ true → HasPage n h
page_is n h e = record { pages = grind (arith, nat_tests); from = grind (arith, nat_tests); to = grind (arith, nat_tests) }

pub has_page-true : (n : ℕ) (h : ProgramHeader) → has_pages h ≡ true → first_page h ≤ n → n ≤ last_page h → has_page n h ≡ true
has_page-true n h pages from to = grind (arith, nat_tests)

-- the byte that a segment has at an address
pub segment_byte-in : (file : List ℕ) (h : ProgramHeader) (a : ℕ) → is_load h ≡ true → h.vaddr ≤ a → a < h.vaddr + h.filesz → segment_byte file h a ≡ slice_index file (h.offset + (a - h.vaddr))
segment_byte-in file h a load from to =
    let covered : covers a h ≡ true = grind (arith, nat_tests) in
    rw covered refl

pub segment_byte-below : (file : List ℕ) (h : ProgramHeader) (a : ℕ) → a < h.vaddr → segment_byte file h a ≡ 0
segment_byte-below file h a below =
    let bare : covers a h ≡ false = grind (arith, nat_tests) in
    rw bare refl

pub segment_byte-above : (file : List ℕ) (h : ProgramHeader) (a : ℕ) → h.vaddr + h.filesz ≤ a → segment_byte file h a ≡ 0
segment_byte-above file h a above =
    let bare : covers a h ≡ false = grind (arith, nat_tests) in
    rw bare refl
