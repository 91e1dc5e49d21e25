-- The lines of a script that can be read.
use Rattle.std.proofs.Common.{◌≡◌, ◌<◌, List, [], ◌∷◌, ◌++◌, length, map, Option, Some, refl, sym, ap₂, arith}
use Rattle.block_model.specs.Replay.{Ask}

-- a script that can be read asks for one list of events
pub same_asks : (xs ys : List Ask) → map Some xs ≡ map Some ys → xs ≡ ys
same_asks [] [] same = refl
same_asks [] (y ∷ ys) same = absurd cc
same_asks (x ∷ xs) [] same = absurd cc
same_asks (x ∷ xs) (y ∷ ys) same =
    let first : x ≡ y = cc in
    let rest : map Some xs ≡ map Some ys = cc in
    ap₂ (λ z zs. z ∷ zs) first (same_asks xs ys rest)

-- each of its lines can be read
pub record IsLineAmong (lines earlier : List Ask) (line : Option Ask) : Type 0 where
  pub ask : Ask
  pub later : List Ask
  pub says : line ≡ Some ask
  pub parts : lines ≡ earlier ++ ask ∷ later

pub line_among : (lines earlier : List Ask) (line : Option Ask) (later : List (Option Ask))
    → map Some lines ≡ map Some earlier ++ line ∷ later → IsLineAmong lines earlier line
line_among [] [] line later is = absurd cc
line_among [] (y ∷ earlier) line later is = absurd cc
line_among (x ∷ lines) [] line later is =
    let first : Some x ≡ line = cc in
    record { ask = x; later = lines; says = sym first; parts = refl }
line_among (x ∷ lines) (y ∷ earlier) line later is =
    let first : x ≡ y = cc in
    let rest : map Some lines ≡ map Some earlier ++ line ∷ later = cc in
    let found = line_among lines earlier line later rest in
    record { ask = found.ask; later = found.later; says = found.says; parts = ap₂ (λ z zs. z ∷ zs) first found.parts }

-- one that stands in a script behind fewer lines than can be read is among these
pub line_within : (lines earlier : List Ask) (line : Option Ask) (later behind : List (Option Ask))
    → length earlier < length lines → map Some lines ++ behind ≡ map Some earlier ++ line ∷ later
    → IsLineAmong lines earlier line
line_within [] earlier line later behind fewer is = absurd (omega arith)
line_within (x ∷ lines) [] line later behind fewer is =
    let first : Some x ≡ line = cc in
    record { ask = x; later = lines; says = sym first; parts = refl }
line_within (x ∷ lines) (y ∷ earlier) line later behind fewer is =
    let first : x ≡ y = cc in
    let rest : map Some lines ++ behind ≡ map Some earlier ++ line ∷ later = cc in
    let found = line_within lines earlier line later behind (omega (arith, fewer)) rest in
    record { ask = found.ask; later = found.later; says = found.says; parts = ap₂ (λ z zs. z ∷ zs) first found.parts }
