-- Worked examples: deciles.
use Rattle.std.proofs.Common.{◌≡◌, [], ◌∷◌, refl}
use Rattle.explored_runs.specs.Deciles.{deciles}

-- of nothing there are none, and of one number all are that one
of_none : deciles (0 ∷ 0 ∷ 0 ∷ []) ≡ []
of_none = refl

of_one : deciles (0 ∷ 0 ∷ 1 ∷ []) ≡ 2 ∷ 2 ∷ 2 ∷ 2 ∷ 2 ∷ 2 ∷ 2 ∷ 2 ∷ 2 ∷ 2 ∷ 2 ∷ []
of_one = refl

-- 0 0 0 1 3: the places are 0 0 0 1 1 2 2 2 3 3 4
of_five : deciles (3 ∷ 1 ∷ 0 ∷ 1 ∷ []) ≡ 0 ∷ 0 ∷ 0 ∷ 0 ∷ 0 ∷ 0 ∷ 0 ∷ 0 ∷ 1 ∷ 1 ∷ 3 ∷ []
of_five = refl

-- 0 to 10, each once
of_eleven : deciles (1 ∷ 1 ∷ 1 ∷ 1 ∷ 1 ∷ 1 ∷ 1 ∷ 1 ∷ 1 ∷ 1 ∷ 1 ∷ [])
    ≡ 0 ∷ 1 ∷ 2 ∷ 3 ∷ 4 ∷ 5 ∷ 6 ∷ 7 ∷ 8 ∷ 9 ∷ 10 ∷ []
of_eleven = refl
