-- Parts one after the other.
use Rattle.std.proofs.Common.{◌≡◌, ℕ, suc, ◌+◌, ◌-◌, ◌<◌, ◌≤◌, List, ◌∷◌, ◌++◌, length, take, drop, get_or, replicate, sym, ap, ◌∙◌, arith, append_assoc, append-nil, length-append, ◌%◌}
use Rattle.std.proofs.lemmas.List.{length-replicate, take_all, drop_all}
use Rattle.std.proofs.Math.Seq.{drop-cons}
use Rattle.elf_make.specs.declared.parts.Part.{Part}
use Rattle.elf_make.specs.Layout.{contents_from, place_from, PlacesAreLowest}

pub place-after : (end at : ℕ) → end ≤ place_from end at
place-after end at = omega arith

place-lowest : (end at other : ℕ) → end ≤ other → other % 4096 ≡ at % 4096 → place_from end at ≤ other
place-lowest end at other behind same = omega arith

-- the place of a part suits it, and no lower one does
pub places-lowest : PlacesAreLowest
places-lowest end at = record {
  suits = record { behind = place-after end at; aligned = omega arith };
  lowest = λ other suits. place-lowest end at other suits.behind suits.aligned;
}

-- the rest from a part on
pub rest-at : (parts : List Part) (i : ℕ) (p d : Part) → i < length parts → p ≡ get_or parts i d → drop i parts ≡ p ∷ drop (i + 1) parts
rest-at parts i p d lt is =
    let next : suc i ≡ i + 1 = omega arith in
    drop-cons parts i d lt ∙ ap (λ (x : Part). x ∷ drop (suc i) parts) (sym is) ∙ ap (λ (k : ℕ). p ∷ drop k parts) next

-- the contents of one part more
pub contents-more : (old new file : List ℕ) (parts : List Part) (i : ℕ) (p d : Part) → i < length parts → p ≡ get_or parts i d
    → old ++ contents_from (length old) (drop i parts) ≡ file
    → new ≡ take (place_from (length old) p.at) old ++ replicate (place_from (length old) p.at - length old) 0 ++ p.bytes.items
    → new ++ contents_from (length new) (drop (i + 1) parts) ≡ file
contents-more old new file parts i p d lt is before now =
    let place : ℕ = place_from (length old) p.at in
    let zeros : List ℕ = replicate (place - length old) 0 in
    let after = place-after (length old) p.at in
    let kept : take place old ≡ old = take_all place old after in
    let whole : new ≡ old ++ zeros ++ p.bytes.items = now ∙ ap (λ (xs : List ℕ). xs ++ zeros ++ p.bytes.items) kept in
    let spread : length zeros ≡ place - length old = length-replicate {A = ℕ} (place - length old) 0 in
    let many : length new ≡ place + length p.bytes.items = omega (arith, ap length whole, length-append (old ++ zeros) p.bytes.items, length-append old zeros) in
    let rest : List ℕ = contents_from (place + length p.bytes.items) (drop (i + 1) parts) in
    ap (λ (n : ℕ). new ++ contents_from n (drop (i + 1) parts)) many
    ∙ ap (λ (xs : List ℕ). xs ++ rest) whole
    ∙ append_assoc (old ++ zeros) p.bytes.items rest ∙ append_assoc old zeros (p.bytes.items ++ rest)
    ∙ ap (λ (xs : List ℕ). old ++ xs) (sym (append_assoc zeros p.bytes.items rest))
    ∙ ap (λ (ps : List Part). old ++ contents_from (length old) ps) (sym (rest-at parts i p d lt is)) ∙ before

-- no part is left
pub contents-end : (old file : List ℕ) (parts : List Part) (i : ℕ) → length parts ≤ i → old ++ contents_from (length old) (drop i parts) ≡ file → old ≡ file
contents-end old file parts i past all =
    sym (append-nil old) ∙ ap (λ (ps : List Part). old ++ contents_from (length old) ps) (sym (drop_all i parts past)) ∙ all

-- the bytes of a part behind its place
pub grown : (items resized new bytes : List ℕ) (p : Part) (place len many : ℕ) → place ≡ place_from len p.at → len ≡ length items → many ≡ length items → resized ≡ take place items ++ replicate (place - many) 0 → bytes ≡ p.bytes.items → new ≡ resized ++ bytes
    → new ≡ take (place_from (length items) p.at) items ++ replicate (place_from (length items) p.at - length items) 0 ++ p.bytes.items
grown items resized new bytes p place len many place_is len_is many_is resize bytes_is now =
    let at : place ≡ place_from (length items) p.at = place_is ∙ ap (λ (n : ℕ). place_from n p.at) len_is in
    now ∙ ap (λ (b : List ℕ). resized ++ b) bytes_is
    ∙ ap (λ (l : List ℕ). l ++ p.bytes.items) (resize ∙ ap (λ (n : ℕ). take place items ++ replicate (place - n) 0) many_is ∙ ap (λ (n : ℕ). take n items ++ replicate (n - length items) 0) at)
