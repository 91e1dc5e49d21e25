-- Sets of pcs, as rising lists (own).
use Rattle.std.specs.Prelude.{ℕ, ◌<◌, ◌==◌, List, [], ◌∷◌, nat_lt, if◌then◌else◌}
use Rattle.std.specs.List.{AllByRecursion}

abbrev pub IsRising : List ℕ → Type 0
IsRising [] = Unit {0}
IsRising (pc ∷ pcs) = AllByRecursion (λ later. pc < later) pcs × IsRising pcs

-- with one more, which may be among them
abbrev pub with_pc : ℕ → List ℕ → List ℕ
with_pc pc [] = pc ∷ []
with_pc pc (first ∷ pcs) =
    if nat_lt first pc then first ∷ with_pc pc pcs
    else if first == pc then first ∷ pcs
    else pc ∷ first ∷ pcs

-- with those of a list
abbrev pub with_pcs : List ℕ → List ℕ → List ℕ
with_pcs [] pcs = pcs
with_pcs (pc ∷ more) pcs = with_pcs more (with_pc pc pcs)
