-- What is known of a file that has no fault.
use Rattle.std.proofs.Common.{◌≡◌, ℕ, ◌+◌, ◌*◌, ◌%◌, ◌<◌, ◌≤◌, ◌||◌, Bool, true, false, not, nat_eq, List, [], ◌∷◌, ◌++◌, length, get_or, take, nat_lt, Option, Some, None, Result, Ok, Err, IfErr, IsErrAnd, sum_by, refl, sym, ap, subst, ◌∙◌, arith}
use Rattle.std.specs.List.{list_any, enumerate_from, position}
use Rattle.std.specs.Option.{option_map}
use Rattle.std.proofs.lemmas.Bool.Decides.{nat_tests}
use Rattle.std.proofs.lemmas.List.{get_or_default, get_or-take, length-take-le}
use Rattle.std.proofs.lemmas.List.FromFn.{get_or-enumerate_from, length-enumerate_from, length-map-range_with_len}
use Rattle.std.proofs.lemmas.List.Folds.{list_any-from_Any}
use Rattle.elf_load.specs.declared.fault.ElfFault.{ElfFault}
use Rattle.elf_load.specs.declared.fault.ElfFault.TheVariants.{Short, Headers, Segment, WritableCode, Overlap, Entry, TooLarge}
use Rattle.elf_load.specs.declared.program_headers.ProgramHeader.{ProgramHeader}
use Rattle.elf_load.specs.Fields.{e_entry, e_phoff, e_phnum, program_header, program_headers, page_count}
use Rattle.elf_load.specs.Faults.{AreApart, row, first_of, first_fault, file_rows, segment_rows, frame_rows, frames_needed, has_bad_table, has_code, is_bad_entry, is_misplaced, is_writable_code, overlaps, share_page, shares_page}
use Rattle.elf_load.proofs.Positions.{position-never}

-- no fault among several rows
abbrev pub AreNone : List (Option ElfFault) → Type 0
AreNone [] = Unit {0}
AreNone (found ∷ rest) = (found ≡ None) × AreNone rest

pub are_none : (rows : List (Option ElfFault)) → first_of rows ≡ None → AreNone rows
are_none [] e = tt
are_none (None ∷ rest) e = (refl, are_none rest e)
are_none (Some fault ∷ rest) e = absurd (cc)

pub first_of-append-none : (front rest : List (Option ElfFault)) → first_of front ≡ None → first_of (front ++ rest) ≡ first_of rest
first_of-append-none [] rest e = refl
first_of-append-none (None ∷ front) rest e = first_of-append-none front rest e
first_of-append-none (Some fault ∷ front) rest e = absurd (cc)

pub first_of-append-some : (front rest : List (Option ElfFault)) (fault : ElfFault) → first_of front ≡ Some fault → first_of (front ++ rest) ≡ Some fault
first_of-append-some [] rest fault e = absurd (cc)
first_of-append-some (None ∷ front) rest fault e = first_of-append-some front rest fault e
first_of-append-some (Some other ∷ front) rest fault e = e

first_of-front : (front rest : List (Option ElfFault)) → first_of (front ++ rest) ≡ None → first_of front ≡ None
first_of-front [] rest e = refl
first_of-front (None ∷ front) rest e = first_of-front front rest e
first_of-front (Some fault ∷ front) rest e = e

row-none : (b : Bool) (fault : ElfFault) → row b fault ≡ None → b ≡ false
row-none true fault e = absurd (cc)
row-none false fault e = refl

option_map-none : (f : ℕ → ElfFault) (found : Option ℕ) → option_map f found ≡ None → found ≡ None
option_map-none f None e = refl
option_map-none f (Some k) e = absurd (cc)

-- the table lies in the file, and has 1 to 64 entries
pub record HasTable (file : List ℕ) : Type 0 where
  pub header : 64 ≤ length file
  pub inside : e_phoff file + 56 * e_phnum file ≤ length file
  pub some : 0 < e_phnum file
  pub few : e_phnum file ≤ 64

pub has_table : (file : List ℕ) → first_of (file_rows file) ≡ None → HasTable file
unfolding file_rows
has_table file e =
    let all : AreNone (file_rows file) = are_none (file_rows file) e in
    let long : nat_lt (length file) 64 ≡ false = row-none (nat_lt (length file) 64) Short all.0 in
    let good : has_bad_table file ≡ false = row-none (has_bad_table file) Headers all.1.1.1.1.1.1.1.1.0 in
    table (length file) (e_phnum file) (e_phoff file + 56 * e_phnum file) long good
  where
    table : ℕ → ℕ → ℕ → nat_lt (length file) 64 ≡ false → has_bad_table file ≡ false → HasTable file
    table n many end long good = record {
      header = grind (arith, nat_tests);
      inside = grind (arith, nat_tests);
      some = grind (arith, nat_tests);
      few = grind (arith, nat_tests);
    }

-- an earlier segment shares no page
apart_pair : (headers : List ProgramHeader) → position (overlaps headers) (enumerate_from 0 headers) ≡ None → (j k : ℕ) (d : ProgramHeader) → j < k → k < length headers → share_page (get_or headers j d) (get_or headers k d) ≡ false
apart_pair headers none j k d before lt =
    let never : overlaps headers (get_or (enumerate_from 0 headers) k (0, d)) ≡ false = position-never (overlaps headers) (enumerate_from 0 headers) none k (0, d) (omega (arith, length-enumerate_from 0 headers)) in
    let here : get_or (enumerate_from 0 headers) k (0, d) ≡ (0 + k, get_or headers k d) = get_or-enumerate_from 0 headers k (0, d) lt in
    let place : 0 + k ≡ k = omega arith in
    let none_earlier : shares_page (take k headers) (get_or headers k d) ≡ false = ap (λ (i : ℕ). shares_page (take i headers) (get_or headers k d)) (sym place) ∙ sym (ap (overlaps headers) here) ∙ never in
    go (share_page (get_or headers j d) (get_or headers k d)) refl none_earlier
  where
    go : (b : Bool) → share_page (get_or headers j d) (get_or headers k d) ≡ b → shares_page (take k headers) (get_or headers k d) ≡ false → share_page (get_or headers j d) (get_or headers k d) ≡ false
    go false e none_earlier = e
    go true e none_earlier =
        let at : get_or (take k headers) j (get_or headers j d) ≡ get_or headers j d = get_or-take k headers j (get_or headers j d) before ∙ get_or_default headers j (get_or headers j d) d (omega arith) in
        let some_earlier : shares_page (take k headers) (get_or headers k d) ≡ true =
        list_any-from_Any (λ g. share_page g (get_or headers k d)) (take k headers) (j, get_or headers j d, (let many = length-take-le k headers (omega arith) in omega arith), at, e) in
        absurd (cc)

-- the segments lie where they may, and the entry is code of one of them
pub record HasSegments (file_length entry : ℕ) (headers : List ProgramHeader) : Type 0 where
  pub apart : AreApart file_length headers
  pub aligned : entry % 4 ≡ 0
  pub code : list_any (has_code entry) headers ≡ true

pub has_segments : (n entry : ℕ) (headers : List ProgramHeader) → first_of (segment_rows n entry headers) ≡ None → HasSegments n entry headers
unfolding segment_rows
has_segments n entry headers e =
    let all : AreNone (segment_rows n entry headers) = are_none (segment_rows n entry headers) e in
    let misplaced : position (is_misplaced n) headers ≡ None = option_map-none Segment (position (is_misplaced n) headers) all.1.0 in
    let writable : position is_writable_code headers ≡ None = option_map-none WritableCode (position is_writable_code headers) all.1.1.1.0 in
    let overlap : position (overlaps headers) (enumerate_from 0 headers) ≡ None = option_map-none Overlap (position (overlaps headers) (enumerate_from 0 headers)) all.1.1.1.1.0 in
    let good : is_bad_entry entry headers ≡ false = row-none (is_bad_entry entry headers) Entry all.1.1.1.1.1.0 in
    record {
      apart = record {
        placed = position-never (is_misplaced n) headers misplaced;
        exclusive = position-never is_writable_code headers writable;
        apart = apart_pair headers overlap;
      };
      aligned = aligned (entry % 4) (list_any (has_code entry) headers) good;
      code = code (entry % 4) (list_any (has_code entry) headers) good;
    }
  where
    aligned : (r : ℕ) (b : Bool) → (not (nat_eq r 0) || not b) ≡ false → r ≡ 0
    aligned r b e = grind (arith, nat_tests)

    code : (r : ℕ) (b : Bool) → (not (nat_eq r 0) || not b) ≡ false → b ≡ true
    code r true e = refl
    code r false e = grind (arith, nat_tests)

pub has_room : (frames : ℕ) (headers : List ProgramHeader) → first_of (frame_rows frames headers) ≡ None → sum_by page_count headers + 65 ≤ frames
unfolding frame_rows
has_room frames headers e =
    let enough : nat_lt frames (frames_needed headers) ≡ false = row-none (nat_lt frames (frames_needed headers)) (TooLarge (frames_needed headers)) (are_none (frame_rows frames headers) e).0 in
    grind (arith, nat_tests)

-- all that at once
pub record HasNoFault (file : List ℕ) (frames : ℕ) : Type 0 where
  pub table : HasTable file
  pub segments : HasSegments (length file) (e_entry file) (program_headers file)
  pub room : sum_by page_count (program_headers file) + 65 ≤ frames

pub has_no_fault : (file : List ℕ) (frames : ℕ) → first_fault file frames ≡ None → HasNoFault file frames
unfolding first_fault
has_no_fault file frames e =
    let first : List (Option ElfFault) = file_rows file in
    let second : List (Option ElfFault) = segment_rows (length file) (e_entry file) (program_headers file) in
    let third : List (Option ElfFault) = frame_rows frames (program_headers file) in
    let front : first_of (first ++ second) ≡ None = first_of-front (first ++ second) third e in
    let none_first : first_of first ≡ None = first_of-front first second front in
    let none_second : first_of second ≡ None = sym (first_of-append-none first second none_first) ∙ front in
    let none_third : first_of third ≡ None = sym (first_of-append-none (first ++ second) third front) ∙ e in
    record { table = has_table file none_first; segments = has_segments _ _ _ none_second; room = has_room frames _ none_third }

segment_rows-same : (file : List ℕ) (headers : List ProgramHeader) (n entry : ℕ) → headers ≡ program_headers file → n ≡ length file → entry ≡ e_entry file → segment_rows n entry headers ≡ segment_rows (length file) (e_entry file) (program_headers file)
segment_rows-same file headers n entry table n_is entry_is =
    ap (λ (k : ℕ). segment_rows k entry headers) n_is ∙ ap (λ (a : ℕ). segment_rows (length file) a headers) entry_is ∙ ap (λ (hs : List ProgramHeader). segment_rows (length file) (e_entry file) hs) table

-- the first fault, by the part in which it is
pub fault-of_file : (file : List ℕ) (frames : ℕ) (fault : ElfFault) → first_of (file_rows file) ≡ Some fault → first_fault file frames ≡ Some fault
unfolding first_fault
fault-of_file file frames fault e =
    let second : List (Option ElfFault) = segment_rows (length file) (e_entry file) (program_headers file) in
    let third : List (Option ElfFault) = frame_rows frames (program_headers file) in
    first_of-append-some (file_rows file ++ second) third fault (first_of-append-some (file_rows file) second fault e)

pub fault-of_segments : (file : List ℕ) (frames : ℕ) (headers : List ProgramHeader) (n entry : ℕ) (fault : ElfFault) → headers ≡ program_headers file → n ≡ length file → entry ≡ e_entry file → first_of (file_rows file) ≡ None → first_of (segment_rows n entry headers) ≡ Some fault → first_fault file frames ≡ Some fault
unfolding first_fault
fault-of_segments file frames headers n entry fault table n_is entry_is none e =
    let second : List (Option ElfFault) = segment_rows (length file) (e_entry file) (program_headers file) in
    let third : List (Option ElfFault) = frame_rows frames (program_headers file) in
    let same : segment_rows n entry headers ≡ second = segment_rows-same file headers n entry table n_is entry_is in
    first_of-append-some (file_rows file ++ second) third fault (first_of-append-none (file_rows file) second none ∙ ap first_of (sym same) ∙ e)

pub fault-of_frames : (file : List ℕ) (frames : ℕ) (headers : List ProgramHeader) (n entry : ℕ) (found : Option ElfFault) → headers ≡ program_headers file → n ≡ length file → entry ≡ e_entry file → first_of (file_rows file) ≡ None → first_of (segment_rows n entry headers) ≡ None → first_of (frame_rows frames headers) ≡ found → first_fault file frames ≡ found
unfolding first_fault
fault-of_frames file frames headers n entry found table n_is entry_is none none_segments e =
    let second : List (Option ElfFault) = segment_rows (length file) (e_entry file) (program_headers file) in
    let third : List (Option ElfFault) = frame_rows frames (program_headers file) in
    let same : segment_rows n entry headers ≡ second = segment_rows-same file headers n entry table n_is entry_is in
    let front : first_of (file_rows file ++ second) ≡ None = first_of-append-none (file_rows file) second none ∙ ap first_of (sym same) ∙ none_segments in
    first_of-append-none (file_rows file ++ second) third front ∙ ap (λ (hs : List ProgramHeader). first_of (frame_rows frames hs)) (sym table) ∙ e

-- a fault that a test found is passed on
pub passed_on : {X : Type 0} (result : Result X ElfFault) (fault : ElfFault) (P : ElfFault → Type 0) → IsErrAnd result (λ e. e ≡ fault) → P fault → IfErr result P
passed_on (Ok x) fault P is p = tt
passed_on (Err e) fault P is p = subst P (sym is) p

-- the table has as many entries as it says
pub length-headers : (file : List ℕ) → length (program_headers file) ≡ e_phnum file
unfolding program_headers
length-headers file = length-map-range_with_len (λ k. program_header file (e_phoff file + 56 * k)) 0 (e_phnum file)
