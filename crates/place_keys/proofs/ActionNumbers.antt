-- The numbers of actions, one action after the other.
use Rattle.std.proofs.Common.{◌≡◌, ℕ, ◌+◌, ◌*◌, ◌<◌, List, [], ◌∷◌, length, get_or, slice_index, refl, ap, ◌∙◌, zero, suc, arith}
use Rattle.mach_types.specs.declared.signal_words.Action.{Action}
use Rattle.place_keys.specs.TableWords.{action_words}
use Rattle.place_keys.specs.Words.{of_each}

pub length_numbers : (xs : List Action) → length (of_each action_words xs) ≡ 3 * length xs
length_numbers [] = refl
length_numbers (a ∷ xs) = let rest = length_numbers xs in omega arith

-- those of the action at an index
pub record HasNumbers (xs : List Action) (i : ℕ) (a : Action) : Type 0 where
  pub at : slice_index (of_each action_words xs) (3 * i) ≡ a.at
  pub flags : slice_index (of_each action_words xs) (3 * i + 1) ≡ a.flags
  pub mask : slice_index (of_each action_words xs) (3 * i + 2) ≡ a.mask

pub has_numbers : (xs : List Action) (i : ℕ) (d : Action) → i < length xs → HasNumbers xs i (get_or xs i d)
has_numbers [] i d lt = absurd (omega arith)
has_numbers (a ∷ xs) zero d lt = record { at = refl; flags = refl; mask = refl }
has_numbers (a ∷ xs) (suc i) d lt =
    let rest = has_numbers xs i d (omega arith) in
    let first : 3 * suc i ≡ suc (suc (suc (3 * i))) = omega arith in
    let second : 3 * suc i + 1 ≡ suc (suc (suc (3 * i + 1))) = omega arith in
    let third : 3 * suc i + 2 ≡ suc (suc (suc (3 * i + 2))) = omega arith in
    record {
      at = ap (slice_index (of_each action_words (a ∷ xs))) first ∙ rest.at;
      flags = ap (slice_index (of_each action_words (a ∷ xs))) second ∙ rest.flags;
      mask = ap (slice_index (of_each action_words (a ∷ xs))) third ∙ rest.mask;
    }
