-- Lines whose fields come in parts.
use Rattle.std.proofs.Common.{◌≡◌, ℕ, List, ◌∷◌, ◌++◌, ap, sym, ◌∙◌, append_assoc}
use Rattle.std.proofs.lemmas.Grind.{flat_map-append}
use Rattle.place_text.specs.Fields.{behind}
use Rattle.step_log.specs.Text.{space}

parts : (xs ys zs : List (List ℕ)) → behind (xs ++ (ys ++ zs)) ≡ behind xs ++ (behind ys ++ behind zs)
parts xs ys zs =
    flat_map-append (λ (field : List ℕ). space ∷ field) xs (ys ++ zs)
    ∙ ap (λ (l : List ℕ). behind xs ++ l) (flat_map-append (λ (field : List ℕ). space ∷ field) ys zs)

regroup : (a b c d e f : List ℕ) → ((((a ++ b) ++ c) ++ d) ++ e) ++ f ≡ a ++ ((b ++ (c ++ (d ++ e))) ++ f)
regroup a b c d e f = simp append_assoc

-- a text that gained a first word, fields in three parts, and an end
pub three_parts : (start first end one two three four five : List ℕ) (xs ys zs : List (List ℕ)) → one ≡ start ++ first → two ≡ one ++ behind xs
    → three ≡ two ++ behind ys → four ≡ three ++ behind zs → five ≡ four ++ end → five ≡ start ++ ((first ++ behind (xs ++ (ys ++ zs))) ++ end)
three_parts start first end one two three four five xs ys zs p q r s t =
    t
    ∙ ap (λ (l : List ℕ). l ++ end) (s ∙ ap (λ (l : List ℕ). l ++ behind zs) (r ∙ ap (λ (l : List ℕ). l ++ behind ys) (q ∙ ap (λ (l : List ℕ). l ++ behind xs) p)))
    ∙ regroup start first (behind xs) (behind ys) (behind zs) end
    ∙ ap (λ (l : List ℕ). start ++ ((first ++ l) ++ end)) (sym (parts xs ys zs))
