-- When parts are refused, and what is known of parts that are not.
use Rattle.std.proofs.Common.{◌≡◌, ℕ, ◌+◌, ◌^◌, ◌<◌, ◌≤◌, ◌⊎◌, ◌||◌, ◌&&◌, not, Bool, true, false, List, length, get_or, take, nat_lt, ◌==◌, All, Option, Some, None, refl, sym, ap, subst, ◌∙◌, arith}
use Rattle.std.specs.Option.{option_map}
use Rattle.std.proofs.lemmas.Bool.Decides.{nat_tests}
use Rattle.std.proofs.lemmas.List.{get_or-map, get_or-take, get_or_default, length-map, length-take-le}
use Rattle.std.proofs.lemmas.List.Folds.{list_any-from_Any}
use Rattle.elf_load.specs.declared.program_headers.ProgramHeader.{ProgramHeader}
use Rattle.elf_load.specs.Faults.{is_bad_entry, is_misplaced, is_writable_code, share_page, shares_page}
use Rattle.elf_make.specs.declared.parts.MakeFault.TheVariants.{BadParts}
use Rattle.elf_make.specs.declared.parts.Part.{Part}
use Rattle.elf_make.specs.declared.parts.Parts.{Parts}
use Rattle.elf_make.specs.Parts.{segment_of}
use Rattle.elf_make.specs.Refusals.{bad_index, first_bad_segment, is_bad_after, is_bad_segment, is_bad_whole, refusal, segments_of}
use Rattle.elf_make.proofs.Indexes.{indexed-never}

-- the refusal, where the index is known
pub refused : (parts : Parts) (segments : List ProgramHeader) (found : Option ℕ) (k : ℕ) → segments ≡ segments_of parts → found ≡ bad_index (first_bad_segment segments) (is_bad_whole parts.entry parts.flags segments) (length segments) → found ≡ Some k → refusal parts ≡ Some (BadParts k)
unfolding refusal
refused parts segments found k are is some =
    let index : List ProgramHeader → ℕ → Option ℕ = λ (s : List ProgramHeader) (n : ℕ). bad_index (first_bad_segment s) (is_bad_whole parts.entry parts.flags s) n in
    let count : length segments ≡ length parts.segments.items = ap length are ∙ length-map parts.segments.items segment_of in
    ap (option_map BadParts) (ap (λ (s : List ProgramHeader). index s (length parts.segments.items)) (sym are) ∙ ap (index segments) (sym count) ∙ sym is ∙ some)

pub taken : (parts : Parts) (segments : List ProgramHeader) (found : Option ℕ) → segments ≡ segments_of parts → found ≡ bad_index (first_bad_segment segments) (is_bad_whole parts.entry parts.flags segments) (length segments) → found ≡ None → refusal parts ≡ None
unfolding refusal
taken parts segments found are is none =
    let index : List ProgramHeader → ℕ → Option ℕ = λ (s : List ProgramHeader) (n : ℕ). bad_index (first_bad_segment s) (is_bad_whole parts.entry parts.flags s) n in
    let count : length segments ≡ length parts.segments.items = ap length are ∙ length-map parts.segments.items segment_of in
    ap (option_map BadParts) (ap (λ (s : List ProgramHeader). index s (length parts.segments.items)) (sym are) ∙ ap (index segments) (sym count) ∙ sym is ∙ none)

-- no index: no bad segment, and a good whole
option_map-none : {X Y : Type 0} (f : X → Y) (found : Option X) → option_map f found ≡ None → found ≡ None
option_map-none f None e = refl
option_map-none f (Some x) e = absurd (cc)

no-segment : (found : Option ℕ) (whole : Bool) (count : ℕ) → bad_index found whole count ≡ None → found ≡ None
no-segment None whole count e = refl
no-segment (Some k) whole count e = absurd (cc)

good-whole : (found : Option ℕ) (whole : Bool) (count : ℕ) → bad_index found whole count ≡ None → whole ≡ false
good-whole None true count e = absurd (cc)
good-whole None false count e = refl
good-whole (Some k) whole count e = absurd (cc)

-- what is known of one part
pub record IsGood (p : Part) : Type 0 where
  pub bytes : length p.bytes.items ≤ p.memsz
  pub above : 4096 ≤ p.at
  pub below : p.at + p.memsz ≤ 137438953472
  pub exclusive : is_writable_code (segment_of p) ≡ false

-- what is known of the parts
pub record AreGood (parts : Parts) : Type 0 where
  pub some : 0 < length parts.segments.items
  pub few : length parts.segments.items ≤ 64
  pub flags : (parts.flags ≡ 0) ⊎ (parts.flags ≡ 16)
  pub entry : is_bad_entry parts.entry (segments_of parts) ≡ false
  pub each : (k : ℕ) (d : Part) → k < length parts.segments.items → IsGood (get_or parts.segments.items k d)
  pub apart : (j k : ℕ) (d : Part) → j < k → k < length parts.segments.items → share_page (segment_of (get_or parts.segments.items j d)) (segment_of (get_or parts.segments.items k d)) ≡ false

or-left : (a b : Bool) → (a || b) ≡ false → a ≡ false
or-left true b e = e
or-left false b e = refl

or-right : (a b : Bool) → (a || b) ≡ false → b ≡ false
or-right true b e = absurd (cc)
or-right false b e = e

good-part : (earlier : List ProgramHeader) (p : Part) → is_bad_after earlier (segment_of p) ≡ false → IsGood p
good-part earlier p e =
    let first : (is_misplaced (length p.bytes.items) (segment_of p) || is_writable_code (segment_of p)) ≡ false = or-left (is_misplaced (length p.bytes.items) (segment_of p) || is_writable_code (segment_of p)) (shares_page earlier (segment_of p)) e in
    let placed : is_misplaced (length p.bytes.items) (segment_of p) ≡ false = or-left (is_misplaced (length p.bytes.items) (segment_of p)) (is_writable_code (segment_of p)) first in
    record {
      bytes = bytes (length p.bytes.items) p.at p.memsz placed;
      above = above (length p.bytes.items) p.at p.memsz placed;
      below = below (length p.bytes.items) p.at p.memsz placed;
      exclusive = or-right (is_misplaced (length p.bytes.items) (segment_of p)) (is_writable_code (segment_of p)) first;
    }
  where
    bytes : (n at memsz : ℕ) → (nat_lt memsz n || nat_lt n (0 + n) || nat_lt at 4096 || nat_lt 0x2000000000 (at + memsz)) ≡ false → n ≤ memsz
    bytes n at memsz e = grind (arith, nat_tests)

    above : (n at memsz : ℕ) → (nat_lt memsz n || nat_lt n (0 + n) || nat_lt at 4096 || nat_lt 0x2000000000 (at + memsz)) ≡ false → 4096 ≤ at
    above n at memsz e = grind (arith, nat_tests)

    below : (n at memsz : ℕ) → (nat_lt memsz n || nat_lt n (0 + n) || nat_lt at 4096 || nat_lt 0x2000000000 (at + memsz)) ≡ false → at + memsz ≤ 137438953472
    below n at memsz e = grind (arith, nat_tests)

-- the segment at an index is that of the part
segment-at : (parts : Parts) (k : ℕ) (d : Part) → k < length parts.segments.items → get_or (segments_of parts) k (segment_of d) ≡ segment_of (get_or parts.segments.items k d)
segment-at parts k d lt = get_or-map segment_of parts.segments.items k d (segment_of d) lt

never-bad : (parts : Parts) → first_bad_segment (segments_of parts) ≡ None → (k : ℕ) (d : Part) → k < length parts.segments.items → is_bad_after (take k (segments_of parts)) (segment_of (get_or parts.segments.items k d)) ≡ false
never-bad parts none k d lt =
    let many : k < length (segments_of parts) = omega (arith, length-map parts.segments.items segment_of) in
    ap (is_bad_after (take k (segments_of parts))) (sym (segment-at parts k d lt)) ∙ indexed-never (is_bad_segment (segments_of parts)) (segments_of parts) none k (segment_of d) many

apart-pair : (parts : Parts) → first_bad_segment (segments_of parts) ≡ None → (j k : ℕ) (d : Part) → j < k → k < length parts.segments.items → share_page (segment_of (get_or parts.segments.items j d)) (segment_of (get_or parts.segments.items k d)) ≡ false
apart-pair parts none j k d before lt = go (share_page g h) refl
  where
    g : ProgramHeader
    g = segment_of (get_or parts.segments.items j d)

    h : ProgramHeader
    h = segment_of (get_or parts.segments.items k d)

    go : (b : Bool) → share_page g h ≡ b → share_page g h ≡ false
    go false e = e
    go true e =
        let segments : List ProgramHeader = segments_of parts in
        let many : length segments ≡ length parts.segments.items = length-map parts.segments.items segment_of in
        let lone : shares_page (take k segments) h ≡ false = or-right (is_misplaced h.filesz h || is_writable_code h) (shares_page (take k segments) h) (never-bad parts none k d lt) in
        let at : get_or (take k segments) j g ≡ g = get_or-take k segments j g before ∙ get_or_default segments j g (segment_of d) (omega arith) ∙ segment-at parts j d (omega arith) in
        let shared : shares_page (take k segments) h ≡ true = list_any-from_Any (λ x. share_page x h) (take k segments) (j, g, (let few = length-take-le k segments (omega arith) in omega arith), at, e) in
        absurd (cc)

pub are_good : (parts : Parts) → refusal parts ≡ None → AreGood parts
unfolding refusal
are_good parts e =
    let segments : List ProgramHeader = segments_of parts in
    let index = option_map-none BadParts (bad_index (first_bad_segment segments) (is_bad_whole parts.entry parts.flags segments) (length parts.segments.items)) e in
    let none = no-segment (first_bad_segment segments) (is_bad_whole parts.entry parts.flags segments) (length parts.segments.items) index in
    let whole = good-whole (first_bad_segment segments) (is_bad_whole parts.entry parts.flags segments) (length parts.segments.items) index in
    let many : length segments ≡ length parts.segments.items = length-map parts.segments.items segment_of in
    let front : ((length segments == 0) || nat_lt 64 (length segments) || (not (parts.flags == 0) && not (parts.flags == 16))) ≡ false = or-left ((length segments == 0) || nat_lt 64 (length segments) || (not (parts.flags == 0) && not (parts.flags == 16))) (is_bad_entry parts.entry segments) whole in
    record {
      some = subst (λ (n : ℕ). 0 < n) many (some (length segments) parts.flags front);
      few = subst (λ (n : ℕ). n ≤ 64) many (few (length segments) parts.flags front);
      flags = flags (length segments) parts.flags front;
      entry = or-right ((length segments == 0) || nat_lt 64 (length segments) || (not (parts.flags == 0) && not (parts.flags == 16))) (is_bad_entry parts.entry segments) whole;
      each = λ k d lt. good-part (take k segments) (get_or parts.segments.items k d) (never-bad parts none k d lt);
      apart = apart-pair parts none;
    }
  where
    some : (n f : ℕ) → ((n == 0) || nat_lt 64 n || (not (f == 0) && not (f == 16))) ≡ false → 0 < n
    some n f e = grind (arith, nat_tests)

    few : (n f : ℕ) → ((n == 0) || nat_lt 64 n || (not (f == 0) && not (f == 16))) ≡ false → n ≤ 64
    few n f e = grind (arith, nat_tests)

    flags : (n f : ℕ) → ((n == 0) || nat_lt 64 n || (not (f == 0) && not (f == 16))) ≡ false → (f ≡ 0) ⊎ (f ≡ 16)
    flags n f e = grind (arith, nat_tests)

-- no part has many bytes
pub small : (parts : Parts) → AreGood parts → All (λ part. length part.bytes.items < 2 ^ 38) parts.segments.items
small parts good k d lt = let p = AreGood.each good k d lt in omega (arith, IsGood.bytes p, IsGood.below p)
