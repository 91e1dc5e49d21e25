-- The bytes of the parts stand in the file where the program headers say.
use Rattle.std.proofs.Common.{◌≡◌, ℕ, zero, suc, ◌+◌, ◌-◌, ◌%◌, ◌<◌, ◌≤◌, Bool, true, false, ◌||◌, List, [], ◌∷◌, ◌++◌, length, slice_index, get_or, map, replicate, sum_by, unwrap_or, Option, Some, None, refl, sym, ap, ◌∙◌, arith, append_assoc, length-append}
use Rattle.std.specs.List.{find, list_any}
use Rattle.std.specs.Option.{option_map}
use Rattle.std.proofs.lemmas.List.{get_or_append_left, get_or-append_right, length-replicate}
use Rattle.std.proofs.lemmas.List.Sums.{sum_by-cons}
use Rattle.std.proofs.lemmas.Bool.Decides.{nat_tests}
use Rattle.elf_load.specs.declared.program_headers.ProgramHeader.{ProgramHeader}
use Rattle.elf_load.specs.Fields.{has_page}
use Rattle.elf_load.specs.Images.{covers, byte_of_segment, permission}
use Rattle.elf_make.specs.declared.parts.Part.{Part}
use Rattle.elf_make.specs.Parts.{segment_at, segment_of, byte_of_part}
use Rattle.elf_make.specs.Layout.{contents_from, place_from, placed_from}
use Rattle.elf_make.proofs.Placing.{place-after}

pub record Stands (file : List ℕ) (p : Part) (h : ProgramHeader) : Type 0 where
  pub is : h ≡ segment_at h.offset p
  pub near : h.offset % 4096 ≡ p.at % 4096
  pub inside : h.offset + length p.bytes.items ≤ length file
  pub bytes : (j : ℕ) → j < length p.bytes.items → slice_index file (h.offset + j) ≡ slice_index p.bytes.items j

-- each part and its program header, in order
abbrev pub AllStand : List ℕ → List ProgramHeader → List Part → Type 0
AllStand file [] [] = Unit {0}
AllStand file [] (p ∷ ps) = ⊥
AllStand file (h ∷ hs) [] = ⊥
AllStand file (h ∷ hs) (p ∷ ps) = Stands file p h × AllStand file hs ps

pub all_stand : (parts : List Part) (file front : List ℕ) (end : ℕ) → length front ≡ end → file ≡ front ++ contents_from end parts → AllStand file (placed_from end parts) parts
all_stand [] file front end at is = tt
all_stand (p ∷ ps) file front end at is =
    let place : ℕ = place_from end p.at in
    let zeros : List ℕ = replicate (place - end) 0 in
    let many : ℕ = length p.bytes.items in
    let rest : List ℕ = contents_from (place + many) ps in
    let after = place-after end p.at in
    let spread : length zeros ≡ place - end = length-replicate {A = ℕ} (place - end) 0 in
    let front_long : length (front ++ zeros) ≡ place = omega (arith, length-append front zeros) in
    let split : file ≡ (front ++ zeros) ++ (p.bytes.items ++ rest) = is ∙ ap (λ (l : List ℕ). front ++ l) (append_assoc zeros p.bytes.items rest) ∙ sym (append_assoc front zeros (p.bytes.items ++ rest)) in
    let next : file ≡ ((front ++ zeros) ++ p.bytes.items) ++ rest = split ∙ sym (append_assoc (front ++ zeros) p.bytes.items rest) in
    let next_long : length ((front ++ zeros) ++ p.bytes.items) ≡ place + many = omega (arith, length-append (front ++ zeros) p.bytes.items) in
    let whole : length file ≡ place + many + length rest = omega (arith, ap length next, length-append ((front ++ zeros) ++ p.bytes.items) rest) in (
      record {
        is = refl;
        near = omega arith;
        inside = omega arith;
        bytes = λ j lt.
            let index : place + j - place ≡ j = omega arith in
            ap (λ (l : List ℕ). slice_index l (place + j)) split
            ∙ get_or-append_right (front ++ zeros) (p.bytes.items ++ rest) place (place + j) 0 front_long (omega arith)
            ∙ ap (λ (i : ℕ). slice_index (p.bytes.items ++ rest) i) index
            ∙ get_or_append_left p.bytes.items rest 0 j lt;
      },
      all_stand ps file ((front ++ zeros) ++ p.bytes.items) (place + many) next_long next,
    )

-- a function that does not look at the offset sees the part

pub stands-same : {X : Type 0} (f : ProgramHeader → X) (file : List ℕ) (p : Part) (h : ProgramHeader) → ((offset : ℕ) (q : Part) → f (segment_at offset q) ≡ f (segment_of q)) → Stands file p h → f h ≡ f (segment_of p)
stands-same f file p h blind stands = ap f stands.is ∙ blind h.offset p

pub stand-length : (file : List ℕ) (hs : List ProgramHeader) (ps : List Part) → AllStand file hs ps → length hs ≡ length ps
stand-length file [] [] all = refl
stand-length file [] (p ∷ ps) all = absurd all
stand-length file (h ∷ hs) [] all = absurd all
stand-length file (h ∷ hs) (p ∷ ps) all = let rest = stand-length file hs ps all.1 in omega arith

pub stand-at : (file : List ℕ) (hs : List ProgramHeader) (ps : List Part) → AllStand file hs ps → (k : ℕ) (d : Part) (e : ProgramHeader) → k < length ps → Stands file (get_or ps k d) (get_or hs k e)
stand-at file [] [] all k d e lt = absurd (omega arith)
stand-at file [] (p ∷ ps) all k d e lt = absurd all
stand-at file (h ∷ hs) [] all k d e lt = absurd all
stand-at file (h ∷ hs) (p ∷ ps) all zero d e lt = all.0
stand-at file (h ∷ hs) (p ∷ ps) all (suc k) d e lt = stand-at file hs ps all.1 k d e (omega arith)

pub stand-any : (f : ProgramHeader → Bool) (file : List ℕ) (hs : List ProgramHeader) (ps : List Part) → ((offset : ℕ) (q : Part) → f (segment_at offset q) ≡ f (segment_of q)) → AllStand file hs ps → list_any f hs ≡ list_any (λ p. f (segment_of p)) ps
stand-any f file [] [] blind all = refl
stand-any f file [] (p ∷ ps) blind all = absurd all
stand-any f file (h ∷ hs) [] blind all = absurd all
stand-any f file (h ∷ hs) (p ∷ ps) blind all = rw (stands-same f file p h blind all.0, stand-any f file hs ps blind all.1) refl

pub any-segments : (f : ProgramHeader → Bool) (ps : List Part) → list_any f (map segment_of ps) ≡ list_any (λ p. f (segment_of p)) ps
any-segments f [] = refl
any-segments f (p ∷ ps) = ap (λ (b : Bool). f (segment_of p) || b) (any-segments f ps)

pub stand-sum : (f : ProgramHeader → ℕ) (file : List ℕ) (hs : List ProgramHeader) (ps : List Part) → ((offset : ℕ) (q : Part) → f (segment_at offset q) ≡ f (segment_of q)) → AllStand file hs ps → sum_by f hs ≡ sum_by f (map segment_of ps)
stand-sum f file [] [] blind all = refl
stand-sum f file [] (p ∷ ps) blind all = absurd all
stand-sum f file (h ∷ hs) [] blind all = absurd all
stand-sum f file (h ∷ hs) (p ∷ ps) blind all =
    let first = stands-same f file p h blind all.0 in
    let rest = stand-sum f file hs ps blind all.1 in
    omega (arith, sum_by-cons f h hs, sum_by-cons f (segment_of p) (map segment_of ps))

-- what is told of the header that is found is what is told of the part that is found
stand-find : {X : Type 0} (file : List ℕ) (test : ProgramHeader → Bool) (of_header : Option ProgramHeader → X) (of_part : Option Part → X)
    → ((offset : ℕ) (q : Part) → test (segment_at offset q) ≡ test (segment_of q)) → of_header None ≡ of_part None
    → ((h : ProgramHeader) (p : Part) → Stands file p h → test (segment_of p) ≡ true → of_header (Some h) ≡ of_part (Some p))
    → (hs : List ProgramHeader) (ps : List Part) → AllStand file hs ps → of_header (find test hs) ≡ of_part (find (λ p. test (segment_of p)) ps)
stand-find file test of_header of_part blind none one [] [] all = none
stand-find file test of_header of_part blind none one [] (p ∷ ps) all = absurd all
stand-find file test of_header of_part blind none one (h ∷ hs) [] all = absurd all
stand-find file test of_header of_part blind none one (h ∷ hs) (p ∷ ps) all =
    go (test (segment_of p)) refl (stand-find file test of_header of_part blind none one hs ps all.1)
  where
    same : test h ≡ test (segment_of p)
    same = stands-same test file p h blind all.0

    go : (b : Bool) → test (segment_of p) ≡ b → of_header (find test hs) ≡ of_part (find (λ q. test (segment_of q)) ps)
        → of_header (find test (h ∷ hs)) ≡ of_part (find (λ q. test (segment_of q)) (p ∷ ps))
    go false e rest = rw (same, e) rest
    go true e rest = rw (same, e) (one h p all.0 e)

-- the byte of memory is the part's
pub stand-byte : (file : List ℕ) (a : ℕ) (hs : List ProgramHeader) (ps : List Part) → AllStand file hs ps → byte_of_segment file a (find (covers a) hs) ≡ byte_of_part a (find (λ p. covers a (segment_of p)) ps)
stand-byte file a = stand-find file (covers a) (byte_of_segment file a) (byte_of_part a) (λ o q. refl) refl its
  where
    its : (h : ProgramHeader) (p : Part) → Stands file p h → covers a (segment_of p) ≡ true → byte_of_segment file a (Some h) ≡ byte_of_part a (Some p)
    its h p stands e =
        let at : h.vaddr ≡ p.at = ap (λ (g : ProgramHeader). g.vaddr) stands.is in
        let from : p.at ≤ a = grind (arith, nat_tests) in
        let to : a < p.at + length p.bytes.items = grind (arith, nat_tests) in
        let place : h.offset + (a - h.vaddr) ≡ h.offset + (a - p.at) = omega arith in
        ap (λ (i : ℕ). slice_index file i) place ∙ stands.bytes (a - p.at) (omega arith)

-- and so is the permission of a page
pub stand-permission : (file : List ℕ) (n : ℕ) (hs : List ProgramHeader) (ps : List Part) → AllStand file hs ps → unwrap_or (option_map permission (find (has_page n) hs)) 0 ≡ unwrap_or (option_map (λ p. permission (segment_of p)) (find (λ p. has_page n (segment_of p)) ps)) 0
stand-permission file n =
    stand-find file (has_page n) (λ h. unwrap_or (option_map permission h) 0) (λ p. unwrap_or (option_map (λ q. permission (segment_of q)) p) 0)
    (λ o q. refl) refl (λ h p stands e. stands-same permission file p h (λ o q. refl) stands)
