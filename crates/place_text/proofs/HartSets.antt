-- The harts of a set in a text, one number after the other.
use Rattle.std.proofs.Common.{◌≡◌, ℕ, ◌+◌, ◌==◌, Bool, true, false, List, [], ◌∷◌, ◌++◌, map, filter, cond, refl, sym, ap, ◌∙◌, append-nil, append_assoc, arith}
use Rattle.std.specs.Fmt.{decimal}
use Rattle.std.specs.List.{range_with_len}
use Rattle.std.proofs.lemmas.List.{map-append}
use Rattle.std.proofs.lemmas.List.Elements.{filter-append}
use Rattle.std.proofs.lemmas.Bool.Decides.{nat_tests}
use Rattle.std.proofs.lemmas.Grind.{flat_map-append}
use Rattle.mach_types.specs.Kernel.Scheduling.{has_hart}
use Rattle.step_log.specs.Text.{space}
use Rattle.place_text.specs.Fields.{behind, harts_fields}
use Rattle.place_text.proofs.Lists.{range-more}

-- the numbers below n of the harts in a set, each behind a space
abbrev pub harts_below : ℕ → ℕ → List ℕ
harts_below set n = behind (map decimal (filter (has_hart set) (range_with_len 0 n)))

harts_more : (set n : ℕ) → harts_below set (n + 1) ≡ harts_below set n ++ behind (map decimal (cond (has_hart set n) (n ∷ []) []))
harts_more set n =
    let f : List ℕ → List ℕ = λ field. space ∷ field in
    let p : ℕ → Bool = has_hart set in
    let before = range_with_len 0 n in
    let here = cond (p n) (n ∷ []) [] in
    ap (λ ns. behind (map decimal (filter p ns))) (range-more n)
    ∙ ap (λ ns. behind (map decimal ns)) (filter-append p before (n ∷ []))
    ∙ ap behind (map-append decimal (filter p before) here)
    ∙ flat_map-append f (map decimal (filter p before)) (map decimal here)

-- one more that is in the set, and one that isn't
pub hart_in : (set n : ℕ) (start line new : List ℕ) → has_hart set n ≡ true → line ≡ start ++ harts_below set n
    → new ≡ line ++ space ∷ decimal n → new ≡ start ++ harts_below set (n + 1)
hart_in set n start line new is before after =
    let one : behind (map decimal (cond (has_hart set n) (n ∷ []) [])) ≡ space ∷ decimal n = rw is (append-nil (space ∷ decimal n)) in
    after ∙ ap (λ l. l ++ space ∷ decimal n) before ∙ append_assoc start (harts_below set n) (space ∷ decimal n)
    ∙ ap (λ l. start ++ l) (ap (λ l. harts_below set n ++ l) (sym one) ∙ sym (harts_more set n))

pub hart_out : (set n : ℕ) (start line : List ℕ) → has_hart set n ≡ false → line ≡ start ++ harts_below set n
    → line ≡ start ++ harts_below set (n + 1)
hart_out set n start line is before =
    let none : behind (map decimal (cond (has_hart set n) (n ∷ []) [])) ≡ [] = rw is refl in
    before ∙ ap (λ l. start ++ l) (sym (append-nil (harts_below set n)) ∙ ap (λ l. harts_below set n ++ l) (sym none) ∙ sym (harts_more set n))

-- all 8, where there is one
pub all_harts : (set n : ℕ) (start line : List ℕ) → (set ≡ 0 → ⊥) → n ≡ 8 → line ≡ start ++ harts_below set n
    → line ≡ start ++ behind (harts_fields set)
unfolding harts_fields
all_harts set n start line some all before =
    let none : (set == 0) ≡ false = grind (arith, nat_tests) in
    rw none (before ∙ ap (λ k. start ++ harts_below set k) all)
