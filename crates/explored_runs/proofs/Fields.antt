-- Fields of a line, one more after the other.
use Rattle.std.proofs.Common.{◌≡◌, ◌<◌, ℕ, ◌+◌, zero, suc, List, [], ◌∷◌, ◌++◌, length, map, take, get_or, append-nil, append_assoc, sym, ap, ◌∙◌, arith}
use Rattle.place_text.specs.Fields.{behind}
use Rattle.step_log.specs.Text.{space}

pub fields_more : (f : ℕ → List ℕ) (g : ℕ → ℕ) (xs : List ℕ) (i : ℕ) → i < length xs
    → behind (map f (map g (take (i + 1) xs))) ≡ behind (map f (map g (take i xs))) ++ (space ∷ f (g (get_or xs i 0)))
fields_more f g [] i below = absurd (omega arith)
fields_more f g (x ∷ xs) zero below = append-nil (space ∷ f (g x))
fields_more f g (x ∷ xs) (suc i) below =
    let next : suc i + 1 ≡ suc (i + 1) = omega arith in
    rw next
    (ap (λ (text : List ℕ). (space ∷ f (g x)) ++ text) (fields_more f g xs i (omega arith))
    ∙ sym (append_assoc (space ∷ f (g x)) (behind (map f (map g (take i xs)))) (space ∷ f (g (get_or xs i 0)))))
