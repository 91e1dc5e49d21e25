-- What the first fault of a file is about: where it names a program header, the table lies in the file and has
-- that header.
use Rattle.std.proofs.Common.{◌≡◌, ℕ, ◌+◌, ◌*◌, ◌<◌, ◌≤◌, inl, inr, ◌⊎◌, Bool, true, false, List, [], ◌∷◌, ◌++◌, length, append_assoc, zero-add}
use Rattle.std.proofs.Common.{Option, Some, None, nat_lt, refl, sym, ap, ◌∙◌, subst, arith}
use Rattle.std.specs.List.{enumerate_from, position, slice_get}
use Rattle.std.specs.Option.{option_map}
use Rattle.std.specs.Prelude.{IfSome}
use Rattle.std.proofs.lemmas.Bool.Decides.{nat_tests}
use Rattle.std.proofs.lemmas.List.FromFn.{get_or-map-range_with_len, length-enumerate_from, length-map-range_with_len}
use Rattle.std.proofs.lemmas.List.Quantifiers.{position-Some}
use Rattle.std.proofs.lemmas.Option.{slice_get-get_or}
use Rattle.elf_load.specs.declared.fault.ElfFault.{ElfFault}
use Rattle.elf_load.specs.declared.fault.ElfFault.TheVariants as elf
use Rattle.elf_load.specs.declared.program_headers.ProgramHeader.{ProgramHeader}
use Rattle.elf_load.specs.Fields.{e_entry, e_flags, e_phnum, e_phoff, program_header, program_headers}
use Rattle.elf_load.specs.Faults.{file_rows, first_fault, first_of, frame_rows, frames_needed, has_bad_table}
use Rattle.elf_load.specs.Faults.{is_misplaced, is_unaligned, is_writable_code, overlaps, row, segment_rows}
use Rattle.elf_load.specs.Numbers.{fault_number}

-- each fault among some rows has a property
abbrev AreAll : (ElfFault → Type 0) → List (Option ElfFault) → Type 0
AreAll P [] = Unit {0}
AreAll P (found ∷ rest) = IfSome found P × AreAll P rest

all-append : (P : ElfFault → Type 0) (front rest : List (Option ElfFault)) → AreAll P front → AreAll P rest
    → AreAll P (front ++ rest)
all-append P [] rest first second = second
all-append P (found ∷ front) rest first second = (first.0, all-append P front rest first.1 second)

-- so has the first of them
first_is : (P : ElfFault → Type 0) (rows : List (Option ElfFault)) (fault : ElfFault) → AreAll P rows
    → first_of rows ≡ Some fault → P fault
first_is P [] fault all e = absurd cc
first_is P (None ∷ rest) fault all e = first_is P rest fault all.1 e
first_is P (Some other ∷ rest) fault all e = let same : other ≡ fault = cc in subst P same all.0

row_is : (P : ElfFault → Type 0) (b : Bool) (fault : ElfFault) → P fault → IfSome (row b fault) P
row_is P true fault p = p
row_is P false fault p = tt

-- where the first fault isn't among the front rows, these have none
front_none : (P : ElfFault → Type 0) (front rest : List (Option ElfFault)) (fault : ElfFault) → AreAll P front
    → ¬ (P fault) → first_of (front ++ rest) ≡ Some fault → first_of front ≡ None
front_none P [] rest fault all not e = refl
front_none P (None ∷ front) rest fault all not e = front_none P front rest fault all.1 not e
front_none P (Some other ∷ front) rest fault all not e =
    let same : other ≡ fault = cc in absurd (not (subst P same all.0))

-- the faults of the file header have the numbers up to 9
abbrev IsOfHeader : ElfFault → Type 0
IsOfHeader fault = fault_number fault ≤ 9

file_rows_are : (file : List ℕ) → AreAll IsOfHeader (file_rows file)
unfolding file_rows
file_rows_are file = (
  row_is IsOfHeader (nat_lt (length file) 64) elf.Short (omega arith),
  (
    row_is IsOfHeader _ elf.Magic (omega arith),
    (
      row_is IsOfHeader _ elf.Class (omega arith),
      (
        row_is IsOfHeader _ elf.Endian (omega arith),
        (
          row_is IsOfHeader _ elf.Version (omega arith),
          (
            row_is IsOfHeader _ elf.FileKind (omega arith),
            (
              row_is IsOfHeader _ elf.Machine (omega arith),
              (
                row_is IsOfHeader _ (elf.Flags (e_flags file)) (omega arith),
                (row_is IsOfHeader (has_bad_table file) elf.Headers (omega arith), tt),
              ),
            ),
          ),
        ),
      ),
    ),
  ),
)

-- rows of which none has a fault
abbrev AreNone : List (Option ElfFault) → Type 0
AreNone [] = Unit {0}
AreNone (found ∷ rest) = (found ≡ None) × AreNone rest

are_none : (rows : List (Option ElfFault)) → first_of rows ≡ None → AreNone rows
are_none [] e = tt
are_none (None ∷ rest) e = (refl, are_none rest e)
are_none (Some fault ∷ rest) e = absurd cc

row_none : (b : Bool) (fault : ElfFault) → row b fault ≡ None → b ≡ false
row_none true fault e = absurd cc
row_none false fault e = refl

-- the file header and the table of program headers lie in the file
pub record HasTable (file : List ℕ) : Type 0 where
  pub header : 64 ≤ length file
  pub table : e_phoff file + 56 * e_phnum file ≤ length file

has_table : (file : List ℕ) → first_of (file_rows file) ≡ None → HasTable file
unfolding file_rows
has_table file e =
    let all : AreNone (file_rows file) = are_none (file_rows file) e in
    let long : nat_lt (length file) 64 ≡ false = row_none (nat_lt (length file) 64) elf.Short all.0 in
    let good : has_bad_table file ≡ false = row_none (has_bad_table file) elf.Headers all.1.1.1.1.1.1.1.1.0 in
    record { header = grind (arith, nat_tests); table = grind (arith, nat_tests) }

-- where the first fault isn't one of the file header
pub table_of : (file : List ℕ) (frames : ℕ) (fault : ElfFault) → 9 < fault_number fault
    → first_fault file frames ≡ Some fault → HasTable file
unfolding first_fault
table_of file frames fault later e =
    let headers = program_headers file in
    let segments = segment_rows (length file) (e_entry file) headers in
    let last = frame_rows frames headers in
    let parts = ap first_of (sym (append_assoc (file_rows file) segments last)) ∙ e in
    has_table file
    (front_none IsOfHeader (file_rows file) (segments ++ last) fault (file_rows_are file)
    (λ small. omega (arith, small, later)) parts)

-- an index that a fault names is one of a table of so many entries
abbrev IsWithin : ℕ → ElfFault → Type 0
IsWithin n elf.Short = Unit {0}
IsWithin n elf.Magic = Unit {0}
IsWithin n elf.Class = Unit {0}
IsWithin n elf.Endian = Unit {0}
IsWithin n elf.Version = Unit {0}
IsWithin n elf.FileKind = Unit {0}
IsWithin n elf.Machine = Unit {0}
IsWithin n (elf.Flags flags) = Unit {0}
IsWithin n elf.Headers = Unit {0}
IsWithin n elf.Dynamic = Unit {0}
IsWithin n (elf.Segment k) = k < n
IsWithin n (elf.Align k) = k < n
IsWithin n (elf.WritableCode k) = k < n
IsWithin n (elf.Overlap k) = k < n
IsWithin n elf.Entry = Unit {0}
IsWithin n (elf.TooLarge needed) = Unit {0}
IsWithin n elf.NoMemory = Unit {0}

-- the place at which a test passes is one of the list
place_is : {X : Type 0} (p : X → Bool) (xs : List X) (d : X) (n : ℕ) (fault_at : ℕ → ElfFault)
    → length xs ≡ n → ((k : ℕ) → k < n → IsWithin n (fault_at k))
    → IfSome (option_map fault_at (position p xs)) (IsWithin n)
place_is p xs d n fault_at many within = go (position p xs) refl
  where
    go : (found : Option ℕ) → position p xs ≡ found → IfSome (option_map fault_at found) (IsWithin n)
    go None e = tt
    go (Some k) e = within k (omega (arith, (position-Some p xs k d e).0, many))

segment_rows_are : (file_length entry : ℕ) (headers : List ProgramHeader)
    → AreAll (IsWithin (length headers)) (segment_rows file_length entry headers)
unfolding segment_rows
segment_rows_are file_length entry headers =
    let n = length headers in
    let d = program_header [] 0 in (
      row_is (IsWithin n) _ elf.Dynamic tt,
      (
        place_is (is_misplaced file_length) headers d n elf.Segment refl (λ k lt. lt),
        (
          place_is is_unaligned headers d n elf.Align refl (λ k lt. lt),
          (
            place_is is_writable_code headers d n elf.WritableCode refl (λ k lt. lt),
            (
              place_is (overlaps headers) (enumerate_from 0 headers) (0, d) n elf.Overlap
                  (length-enumerate_from 0 headers) (λ k lt. lt),
              (row_is (IsWithin n) _ elf.Entry tt, tt),
            ),
          ),
        ),
      ),
    )

frame_rows_are : (n frames : ℕ) (headers : List ProgramHeader) → AreAll (IsWithin n) (frame_rows frames headers)
unfolding frame_rows
frame_rows_are n frames headers = (row_is (IsWithin n) _ (elf.TooLarge (frames_needed headers)) tt, tt)

header_rows_are : (n : ℕ) (file : List ℕ) → AreAll (IsWithin n) (file_rows file)
unfolding file_rows
header_rows_are n file = (
  row_is (IsWithin n) _ elf.Short tt,
  (
    row_is (IsWithin n) _ elf.Magic tt,
    (
      row_is (IsWithin n) _ elf.Class tt,
      (
        row_is (IsWithin n) _ elf.Endian tt,
        (
          row_is (IsWithin n) _ elf.Version tt,
          (
            row_is (IsWithin n) _ elf.FileKind tt,
            (
              row_is (IsWithin n) _ elf.Machine tt,
              (
                row_is (IsWithin n) _ (elf.Flags (e_flags file)) tt,
                (row_is (IsWithin n) _ elf.Headers tt, tt),
              ),
            ),
          ),
        ),
      ),
    ),
  ),
)

length-headers : (file : List ℕ) → length (program_headers file) ≡ e_phnum file
unfolding program_headers
length-headers file = length-map-range_with_len (λ k. program_header file (e_phoff file + 56 * k)) 0 (e_phnum file)

-- the index that the first fault names is one of the table
index_of : (file : List ℕ) (frames : ℕ) (fault : ElfFault) → first_fault file frames ≡ Some fault
    → IsWithin (e_phnum file) fault
unfolding first_fault
index_of file frames fault e =
    let headers = program_headers file in
    let n = length headers in
    let segments = segment_rows (length file) (e_entry file) headers in
    let front = all-append (IsWithin n) (file_rows file) segments (header_rows_are n file)
    (segment_rows_are (length file) (e_entry file) headers) in
    let all = all-append (IsWithin n) (file_rows file ++ segments) (frame_rows frames headers) front
    (frame_rows_are n frames headers) in
    subst (λ m. IsWithin m fault) (length-headers file) (first_is (IsWithin n) _ fault all e)

-- the program header at an index of the table
pub header_at : (file : List ℕ) (k : ℕ) → k < e_phnum file
    → slice_get (program_headers file) k ≡ Some (program_header file (e_phoff file + 56 * k))
unfolding program_headers
header_at file k lt =
    let read = λ (j : ℕ). program_header file (e_phoff file + 56 * j) in
    let within : k < length (program_headers file) = omega (arith, length-headers file, lt) in
    slice_get-get_or (program_headers file) k (read k) within
    ∙ ap Some (get_or-map-range_with_len read 0 (e_phnum file) k k (read k) lt (zero-add k))

-- a fault names the program header at this index
abbrev pub IsAbout : ℕ → ElfFault → Type 0
IsAbout k fault =
    (fault ≡ elf.Segment k) ⊎ (fault ≡ elf.Align k) ⊎ (fault ≡ elf.WritableCode k) ⊎ (fault ≡ elf.Overlap k)

about_within : (n k : ℕ) (fault : ElfFault) → IsAbout k fault → IsWithin n fault → k < n
about_within n k fault (inl is) within = subst (IsWithin n) is within
about_within n k fault (inr (inl is)) within = subst (IsWithin n) is within
about_within n k fault (inr (inr (inl is))) within = subst (IsWithin n) is within
about_within n k fault (inr (inr (inr is))) within = subst (IsWithin n) is within

about_later : (k : ℕ) (fault : ElfFault) → IsAbout k fault → 9 < fault_number fault
about_later k fault (inl is) = omega (arith, ap fault_number is)
about_later k fault (inr (inl is)) = omega (arith, ap fault_number is)
about_later k fault (inr (inr (inl is))) = omega (arith, ap fault_number is)
about_later k fault (inr (inr (inr is))) = omega (arith, ap fault_number is)

-- so the table lies in the file, and has that header
pub about_index : (file : List ℕ) (frames k : ℕ) (fault : ElfFault) → IsAbout k fault
    → first_fault file frames ≡ Some fault → k < e_phnum file
about_index file frames k fault about e = about_within (e_phnum file) k fault about (index_of file frames fault e)

pub about_table : (file : List ℕ) (frames k : ℕ) (fault : ElfFault) → IsAbout k fault
    → first_fault file frames ≡ Some fault → HasTable file
about_table file frames k fault about e = table_of file frames fault (about_later k fault about) e
