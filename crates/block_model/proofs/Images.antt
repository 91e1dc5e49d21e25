-- A file has one image, which is laid out, and its bytes are those of memory.
use Rattle.block_model.proofs.Common.{◌≡◌, ◌≢◌, ◌⊎◌, ◌↔◌, ℕ, zero, suc, ◌+◌, ◌*◌, ◌<◌, List, [], ◌∷◌, length, refl, sym, ap, ◌∙◌, subst, arith, inl, inr, get_or, ◌-◌, ◌≤◌, map, None, ◌/◌, ◌%◌, ◌^◌, ◌==◌, ◌&&◌, nat_le, nat_lt, find, Bool, true, false, cond, Option, Some, slice_index, unwrap_or, All, All-from_recursion, All-head, All-tail, AllByRecursion, FIRST_MAPPING_PAGE, FIRST_STACK_PAGE, Here, MAPPING_START, PAGE_SIZE, Saved, Store, Stored, Write, Zeroed, byte_after, byte_of, byte_over, can_read, cases_eq, frame_read, is_in, length-map, memory, mod-lt, overlay, pages_of, permission_at, permission_of, word_at, word_before, words_at, written, option_map, stack_pointer, take, drop, ◌++◌}
use Rattle.mach_types.specs.Kernel.SignalFrames.{returns_with_info, without_info}
use Rattle.std.proofs.lemmas.Grind.{same_number_lists}
use Rattle.std.proofs.lemmas.List.Elements.{Contains-append_right}
use Rattle.std.proofs.lemmas.List.Kept.{AllPairs-from_increasing}
use Rattle.std.proofs.lemmas.Map.Made.{Contains-tail}
use Rattle.std.specs.List.{Contains}
use Rattle.std.specs.List.Sorted.{IsStrictlyIncreasing}
use Rattle.mach_types.specs.declared.limits.Limits.{Limits}
use Rattle.elf_load.specs.Images.{IsImage, IsPage, ArePages, numbers, end_of, memory_byte, page_permission, IsBootable, number_of, byte_of_segment, covers as covers_file}
use Rattle.elf_load.specs.declared.image.Image.{Image}
use Rattle.elf_load.specs.declared.image.ImagePage.{ImagePage}
use Rattle.block_model.specs.Setting.{setting_of}
use Rattle.mach_types.specs.declared.address_space.TheConstants.{RETURN_PAGE, STACK_PAGES}
use Rattle.elf_load.specs.Start.{image_run, program_of, return_run, stack_run, start_runs, Program, image_byte, loaded_byte, page_of, return_byte, return_words, start_byte, start_stores}
use Rattle.block_model.specs.Layouts.{IsLaidOut}
use Rattle.block_model.proofs.Pages.{outside_above, outside_below}
use Rattle.mach_types.proofs.Laws.{word_at-fits}
use Rattle.mach_types.specs.Bytes.{covers}
use Rattle.elf_load.specs.Fields.{program_headers}
use Rattle.elf_load.specs.declared.program_headers.ProgramHeader.{ProgramHeader}
use Rattle.block_model.specs.Calls.Answers.{number_at}

-- in a rising list the first is the least
least : (x : ℕ) (xs : List ℕ) → IsStrictlyIncreasing (x ∷ xs) → (n : ℕ) → Contains xs n → x < n
least x xs rising n (k, lt, is) =
    let up = AllPairs-from_increasing (x ∷ xs) rising 0 (suc k) n (omega arith) (omega arith) in omega (arith, up, is)

rising_tail : (x : ℕ) (xs : List ℕ) → IsStrictlyIncreasing (x ∷ xs) → IsStrictlyIncreasing xs
rising_tail x xs rising k lt =
    let step : suc k + 1 ≡ suc (k + 1) = omega arith in
    subst (λ j. get_or xs k 0 < get_or (x ∷ xs) j 0) step (rising (suc k) (omega arith))

contains_cases : (x : ℕ) (xs : List ℕ) (n : ℕ) → Contains (x ∷ xs) n → (n ≡ x) ⊎ Contains xs n
contains_cases x xs n (zero, lt, is) = inl (sym is)
contains_cases x xs n (suc k, lt, is) = inr (k, omega arith, is)

contains_first : (x : ℕ) (xs : List ℕ) → Contains (x ∷ xs) x
contains_first x xs = (0, omega arith, refl)

nothing_in : (n : ℕ) → Contains [] n → n ≢ n
nothing_in n (k, lt, is) = λ same. absurd (omega arith)

-- two rising lists of the same numbers are one
same_first : (x y : ℕ) (xs ys : List ℕ) → IsStrictlyIncreasing (x ∷ xs) → IsStrictlyIncreasing (y ∷ ys) → Contains (y ∷ ys) x → Contains (x ∷ xs) y → x ≡ y
same_first x y xs ys up over there here = go (contains_cases y ys x there) (contains_cases x xs y here)
  where
    go : (x ≡ y) ⊎ Contains ys x → (y ≡ x) ⊎ Contains xs y → x ≡ y
    go (inl same) c = same
    go (inr later) (inl same) = sym same
    go (inr later) (inr other) = let below = least y ys over x later in let above = least x xs up y other in omega arith

in_rest : (x y : ℕ) (xs ys : List ℕ) → IsStrictlyIncreasing (x ∷ xs) → x ≡ y → (n : ℕ) → Contains xs n → Contains (y ∷ ys) n → Contains ys n
in_rest x y xs ys up same n here there =
    Contains-tail y ys n (λ first. let above = least x xs up n here in omega arith) there

same_rising : (xs ys : List ℕ) → IsStrictlyIncreasing xs → IsStrictlyIncreasing ys → ((n : ℕ) → Contains xs n ↔ Contains ys n) → xs ≡ ys
same_rising [] [] up over both = refl
same_rising [] (y ∷ ys) up over both = absurd (nothing_in y ((both y).1 (contains_first y ys)) refl)
same_rising (x ∷ xs) [] up over both = absurd (nothing_in x ((both x).0 (contains_first x xs)) refl)
same_rising (x ∷ xs) (y ∷ ys) up over both =
    let first : x ≡ y = same_first x y xs ys up over ((both x).0 (contains_first x xs)) ((both y).1 (contains_first y ys)) in
    let rest : xs ≡ ys =
    same_rising xs ys (rising_tail x xs up) (rising_tail y ys over) (λ n.
    (λ here. in_rest x y xs ys up first n here ((both n).0 (Contains-append_right (x ∷ []) xs n here)), λ there. in_rest y x ys xs over (sym first) n there ((both n).1 (Contains-append_right (y ∷ []) ys n there)))) in
    cc

-- the number of a page fixes it
abbrev pub page_with : ℕ → ℕ → List ℕ → ImagePage
page_with number perm bytes = record { number = number; perm = perm; bytes = bytes }

same_parts : (n m a b : ℕ) (xs ys : List ℕ) → n ≡ m → a ≡ b → xs ≡ ys → page_with n a xs ≡ page_with m b ys
same_parts n m a b xs ys number permission bytes = cc

same_page : (file : List ℕ) (p q : ImagePage) → IsPage file p → IsPage file q → p.number ≡ q.number → p ≡ q
same_page file p q one other same =
    let permission : p.perm ≡ q.perm = one.permission ∙ ap (page_permission file) same ∙ sym other.permission in
    let bytes : p.bytes ≡ q.bytes =
    same_number_lists p.bytes q.bytes (one.size ∙ sym other.size) (λ k lt.
    let below : k < 4096 = omega (arith, one.size) in one.bytes k below ∙ ap (λ n. memory_byte file (4096 * n + k)) same ∙ sym (other.bytes k below)) in
    same_parts p.number q.number p.perm q.perm p.bytes q.bytes same permission bytes

same_pages : (file : List ℕ) (ps qs : List ImagePage) → numbers ps ≡ numbers qs → All (IsPage file) ps → All (IsPage file) qs → ps ≡ qs
same_pages file [] [] same one other = refl
same_pages file (p ∷ ps) (q ∷ qs) same one other =
    let number : p.number ≡ q.number = cc in
    let others : numbers ps ≡ numbers qs = cc in
    let first : p ≡ q = same_page file p q (All-head (IsPage file) p ps one) (All-head (IsPage file) q qs other) number in
    let rest : ps ≡ qs = same_pages file ps qs others (All-tail (IsPage file) p ps one) (All-tail (IsPage file) q qs other) in
    cc
same_pages file ps qs same one other = absurd cc

one_list : (file : List ℕ) (ps qs : List ImagePage) → ArePages file ps → ArePages file qs → ps ≡ qs
one_list file ps qs one other =
    let same : numbers ps ≡ numbers qs =
    same_rising (numbers ps) (numbers qs) one.rising other.rising (λ n. (λ here. (other.present n).1 ((one.present n).0 here), λ there. (one.present n).1 ((other.present n).0 there))) in
    same_pages file ps qs same one.whole other.whole

-- so a file has one setting
pub one_setting : (file : List ℕ) (a b : Image) (limits : Limits) → IsImage file a → IsImage file b → setting_of a limits ≡ setting_of b limits
one_setting file a b limits one other =
    let pages : a.pages.items ≡ b.pages.items = one_list file a.pages.items b.pages.items one.pages other.pages in
    let entry : a.entry ≡ b.entry = one.entry ∙ sym other.entry in
    let phdr : a.phdr ≡ b.phdr = one.table ∙ sym other.table in
    let phnum : a.phnum ≡ b.phnum = one.table_length ∙ sym other.table_length in
    let break_at : a.break_at ≡ b.break_at = one.break_at ∙ ap end_of pages ∙ sym other.break_at in
    cc

number_of_page : (pages : List ImagePage) (k : ℕ) (d : ImagePage) → k < length pages → get_or (numbers pages) k 0 ≡ (get_or pages k d).number
number_of_page [] k d lt = absurd (omega arith)
number_of_page (p ∷ pages) zero d lt = refl
number_of_page (p ∷ pages) (suc k) d lt = number_of_page pages k d (omega arith)

-- each page lies below the end of the last one, and none at that end or past it is mapped
below_end : (pages : List ImagePage) → IsStrictlyIncreasing (numbers pages) → (k : ℕ) (d : ImagePage) → k < length pages
    → (get_or pages k d).number < pages_of (end_of pages)
below_end pages up k d lt =
    let here = number_of_page pages k d lt in
    let size : length (numbers pages) ≡ length pages = length-map pages number_of in
    let last : get_or (numbers pages) k 0 ≤ get_or (numbers pages) (length pages - 1) 0 = elim (cases_eq k (length pages - 1)) [
      | inl same ↦ rw same (omega arith)
      | inr two ↦ let less = AllPairs-from_increasing (numbers pages) up k (length pages - 1) 0 (omega arith) (omega arith) in omega (arith, less)
    ] in
    omega (arith, here, last)

none_mapped : (pages : List ImagePage) (n : ℕ) → ((k : ℕ) (d : ImagePage) → k < length pages → (get_or pages k d).number < n)
    → permission_of (map image_run pages) n ≡ None
none_mapped [] n below = refl
none_mapped (p ∷ pages) n below =
    let first : p.number < n = below 0 p (omega arith) in
    rw (outside_above (image_run p) n (omega arith)) (none_mapped pages n (λ k d lt. below (suc k) d (omega arith)))

clear_at : (pages : List ImagePage) (n : ℕ) → IsStrictlyIncreasing (numbers pages) → pages_of (end_of pages) ≤ n → n < FIRST_MAPPING_PAGE
    → permission_of (start_runs pages) n ≡ None
clear_at pages n up from to =
    rw (outside_below stack_run n (omega arith), outside_below return_run n (omega arith))
    (none_mapped pages n (λ k d lt. let low = below_end pages up k d lt in omega (arith, low)))

end_at : (pages : List ImagePage) → ((k : ℕ) (d : ImagePage) → k < length pages → (get_or pages k d).number < 33554432) → 0 < length pages
    → end_of pages ≤ MAPPING_START
end_at [] below some = absurd (omega arith)
end_at (p ∷ pages) below some =
    let all : List ImagePage = p ∷ pages in
    let here = number_of_page all (length all - 1) p (omega arith) in
    let small = below (length all - 1) p (omega arith) in
    omega (arith, here, small)

pub loaded_is_laid_out : (frames : ℕ) (image : Image) → IsBootable frames image → IsLaidOut (program_of image)
loaded_is_laid_out frames image is =
    let pages = image.pages.items in
    let end = is.break_at in
    let most = end_at pages is.below is.some_page in
    record {
      low = omega (arith, end, most);
      clear = λ n from to. clear_at pages n is.rising (omega (arith, end, from)) to;
    }

-- and none of its pages lies between the stack and the page that signal handlers return to
pub none_in_gap : (frames : ℕ) (image : Image) → IsBootable frames image → (n : ℕ) → FIRST_STACK_PAGE + STACK_PAGES ≤ n → n < RETURN_PAGE
    → permission_of (start_runs image.pages.items) n ≡ None
none_in_gap frames image is n from to =
    rw (outside_above stack_run n (omega arith), outside_below return_run n (omega arith))
    (none_mapped image.pages.items n (λ k d lt. let low = is.below k d lt in omega (arith, low)))

-- each byte of these pages is below 256
abbrev pub HaveBytes : List ImagePage → Type 0
HaveBytes pages = All (λ (p : ImagePage). All (λ b. b < 256) p.bytes) pages

-- WRITES

byte_small : (value k : ℕ) → byte_of value k < 256
byte_small value k = mod-lt (value / 256 ^ k) (omega arith)

either_small : (b : Bool) (x y n : ℕ) → x < n → y < n → cond b x y < n
either_small true x y n p q = p
either_small false x y n p q = q

over_small : (w : Store) (a below : ℕ) → below < 256 → byte_over w a below < 256
over_small w a below small = either_small (covers w a) (byte_of w.value (a - w.at)) below 256 (byte_small w.value (a - w.at)) small

after_small : (w : Write) (a below : ℕ) → below < 256 → byte_after w a below < 256
after_small (Stored w) a below small = over_small w a below small
after_small (Zeroed at n) a below small = either_small (nat_le at a && nat_lt a (at + n)) 0 below 256 (omega arith) small

pub written_small : (ws : List Write) (a below : ℕ) → below < 256 → written ws a below < 256
written_small [] a below small = small
written_small (w ∷ ws) a below small = written_small ws a (byte_after w a below) (after_small w a below small)

-- AT THE START

in_page : (bytes : List ℕ) (k : ℕ) → All (λ b. b < 256) bytes → slice_index bytes k < 256
in_page [] k all = omega arith
in_page (b ∷ bytes) zero all = All-head (λ b. b < 256) b bytes all
in_page (b ∷ bytes) (suc k) all = in_page bytes k (All-tail (λ b. b < 256) b bytes all)

in_image : (pages : List ImagePage) (n offset : ℕ) → HaveBytes pages → image_byte (page_of pages n) offset < 256
in_image [] n offset all = omega arith
in_image (p ∷ pages) n offset all =
    elim (p.number == n) as (λ b. image_byte (cond b (Some p) (page_of pages n)) offset < 256) [
      | true ↦ in_page p.bytes offset (All-head (λ (p : ImagePage). All (λ b. b < 256) p.bytes) p pages all)
      | false ↦ in_image pages n offset (All-tail (λ (p : ImagePage). All (λ b. b < 256) p.bytes) p pages all)
    ]

loaded_small : (pages : List ImagePage) (a : ℕ) → HaveBytes pages → loaded_byte pages a < 256
loaded_small pages a all =
    let n = a / PAGE_SIZE in
    let offset = a % PAGE_SIZE in
    either_small (is_in stack_run n) 0 (cond (is_in return_run n) (return_byte offset) (image_byte (page_of pages n) offset)) 256 (omega arith)
    (either_small (is_in return_run n) (return_byte offset) (image_byte (page_of pages n) offset) 256
    (byte_small (slice_index return_words (offset / 8)) (offset % 8)) (in_image pages n offset all))

overlay_small : (ws : List Store) (a below : ℕ) → below < 256 → overlay ws a below < 256
overlay_small [] a below small = small
overlay_small (w ∷ ws) a below small = overlay_small ws a (byte_over w a below) (over_small w a below small)

pub start_small : (p : Program) (a : ℕ) → HaveBytes p.pages → start_byte p a < 256
start_small p a all = overlay_small (start_stores p) a (loaded_byte p.pages a) (loaded_small p.pages a all)

-- the pages of the image of a file have bytes, since they are the file's, or 0
of_segment : (file : List ℕ) (address : ℕ) (segment : Option ProgramHeader) → All (λ b. b < 256) file → byte_of_segment file address segment < 256
of_segment file address None all = omega arith
of_segment file address (Some h) all = in_page file (h.offset + (address - h.vaddr)) all

file_small : (file : List ℕ) (address : ℕ) → All (λ b. b < 256) file → memory_byte file address < 256
unfolding memory_byte
file_small file address all = of_segment file address (find (covers_file address) (program_headers file)) all

by_index : (bytes : List ℕ) → ((k : ℕ) → k < length bytes → slice_index bytes k < 256) → AllByRecursion (λ b. b < 256) bytes
by_index [] small = tt
by_index (b ∷ bytes) small = (small zero (omega arith), by_index bytes (λ k lt. small (suc k) (omega arith)))

page_small : (file : List ℕ) (p : ImagePage) → All (λ b. b < 256) file → IsPage file p → All (λ b. b < 256) p.bytes
page_small file p all is =
    let size = is.size in
    All-from_recursion (λ b. b < 256) p.bytes
    (by_index p.bytes (λ k lt. subst (λ b. b < 256) (sym (is.bytes k (omega (arith, size, lt)))) (file_small file (4096 * p.number + k) all)))

pub image_bytes : (file : List ℕ) (image : Image) → All (λ b. b < 256) file → IsImage file image → HaveBytes image.pages.items
image_bytes file image all is = λ k d lt. page_small file (get_or image.pages.items k d) all (is.pages.whole k d lt)

-- NUMBERS THAT ARE READ

module _ (here : Here) (bytes : (a : ℕ) → here.byte a < 256) where
  read_small : (c : Bool) (n b : ℕ) → n < 256 → cond c (Some n) None ≡ Some b → b < 256
  read_small true n b small is = let same : n ≡ b = cc in subst (λ k. k < 256) same small
  read_small false n b small is = cc

  memory_small : (a b : ℕ) → memory here a ≡ Some b → b < 256
  memory_small a b is = read_small (can_read (permission_at here.kernel.pages a)) (here.byte a) b (bytes a) is

  word_small : (at w : ℕ) → word_at (memory here) at 8 ≡ Some w → w < 2 ^ 64
  word_small at w is = let fits = word_at-fits (memory here) memory_small at 8 w is in omega (arith, fits)

  number_by : (o : Option ℕ) → ((w : ℕ) → o ≡ Some w → w < 2 ^ 64) → unwrap_or o 0 < 2 ^ 64
  number_by None small = omega arith
  number_by (Some w) small = small w refl

  pub number_small : (at : ℕ) → number_at here at 8 < 2 ^ 64
  number_small at = number_by (word_at (memory here) at 8) (word_small at)

  -- the first word of a frame
  first_small : (o : Option ℕ) (rest : Option (List ℕ)) (words : List ℕ) → ((w : ℕ) → o ≡ Some w → w < 2 ^ 64) → word_before o rest ≡ Some words
      → slice_index words 0 < 2 ^ 64
  first_small (Some w) (Some ws) words small is = let same : w ∷ ws ≡ words = cc in subst (λ (xs : List ℕ). slice_index xs 0 < 2 ^ 64) same (small w refl)
  first_small o rest words small is = cc

  words_small : (at n : ℕ) (words : List ℕ) → words_at (memory here) at (suc n) ≡ Some words → slice_index words 0 < 2 ^ 64
  words_small at n words is = first_small (word_at (memory here) at 8) (words_at (memory here) (at + 8) n) words (word_small at) is

  -- each word of a frame
  all_small : (n at : ℕ) (ws : List ℕ) → words_at (memory here) at n ≡ Some ws → (k : ℕ) → slice_index ws k < 2 ^ 64
  all_small zero at ws is k =
      let none : [] ≡ ws = cc in
      subst (λ (xs : List ℕ). slice_index xs k < 2 ^ 64) none (omega arith)
  all_small (suc n) at ws is k = by_parts (word_at (memory here) at 8) (words_at (memory here) (at + 8) n) (word_small at) (λ vs. all_small n (at + 8) vs) is k
    where
      by_parts : (o : Option ℕ) (rest : Option (List ℕ)) → ((w : ℕ) → o ≡ Some w → w < 2 ^ 64)
          → ((vs : List ℕ) → rest ≡ Some vs → (j : ℕ) → slice_index vs j < 2 ^ 64) → word_before o rest ≡ Some ws → (j : ℕ) → slice_index ws j < 2 ^ 64
      by_parts (Some w) (Some vs) small others same j =
          let its : w ∷ vs ≡ ws = cc in
          subst (λ (xs : List ℕ). slice_index xs j < 2 ^ 64) its (index j)
        where
          index : (i : ℕ) → slice_index (w ∷ vs) i < 2 ^ 64
          index zero = small w refl
          index (suc i) = others vs refl i
      by_parts o rest small others same j = cc

  index_after : (ws : List ℕ) (i : ℕ) → slice_index (drop i ws) 0 ≡ slice_index ws i
  index_after ws zero = refl
  index_after [] (suc i) = refl
  index_after (w ∷ ws) (suc i) = index_after ws i

  first_of : (ws : List ℕ) (mask : ℕ) → slice_index ws 0 < 2 ^ 64 → mask < 2 ^ 64 → slice_index (take 32 ws ++ (mask ∷ 0 ∷ [])) 0 < 2 ^ 64
  first_of [] mask small mask_small = mask_small
  first_of (w ∷ ws) mask small mask_small = small

  pub frame_small : (saved : Saved) (words : List ℕ) → frame_read (memory here) saved ≡ Some words → slice_index words 0 < 2 ^ 64
  unfolding frame_read
  frame_small saved words is = by_form (returns_with_info saved) is
    where
      -- word 38 of a frame with SA_SIGINFO is the pc
      info_small : (us : List ℕ) → words_at (memory here) (stack_pointer saved) 136 ≡ Some us → slice_index (without_info us) 0 < 2 ^ 64
      info_small us found =
          let small = all_small 136 (stack_pointer saved) us found in
          first_of (drop 38 us) (slice_index us 21) (subst (λ n. n < 2 ^ 64) (sym (index_after us 38)) (small 38)) (small 21)

      by_info : (o : Option (List ℕ)) → words_at (memory here) (stack_pointer saved) 136 ≡ o → option_map without_info o ≡ Some words → slice_index words 0 < 2 ^ 64
      by_info None found same = cc
      by_info (Some us) found same =
          let its : without_info us ≡ words = cc in
          subst (λ (xs : List ℕ). slice_index xs 0 < 2 ^ 64) its (info_small us found)

      by_form : (form : Bool) → cond form (option_map without_info (words_at (memory here) (stack_pointer saved) 136)) (words_at (memory here) (stack_pointer saved) 34) ≡ Some words → slice_index words 0 < 2 ^ 64
      by_form true same = by_info (words_at (memory here) (stack_pointer saved) 136) refl same
      by_form false same = words_small _ 33 words same
