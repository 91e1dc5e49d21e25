-- The first place that a search of bytes answers, as std's `position`.
use Rattle.std.proofs.Common.{◌≡◌, ℕ, ◌<◌, Bool, false, List, length, get_or, Option, Some, None, arith}
use Rattle.std.specs.List.{position}
use Rattle.std.proofs.lemmas.Bool.{false_from_ne_true}
use Rattle.std.proofs.lemmas.Grind.{common_steps}
use Rattle.std.proofs.lemmas.List.Sums.{position_or_len_is}
use Rattle.memchr.specs.Find.{IsFirstByte}

module _ (test : ℕ → Bool) (bytes : List ℕ) where
  pub first_byte_is_position : (place : Option ℕ) → IsFirstByte test bytes place → place ≡ position test bytes
  first_byte_is_position None nowhere =
      let fails : (k : ℕ) → k < length bytes → test (get_or bytes k 0) ≡ false =
      λ k below. false_from_ne_true _ (nowhere k (omega arith) below) in
      let at = position_or_len_is test bytes (length bytes) 0 (omega arith) fails (λ below. absurd (omega arith)) in
      grind (arith, common_steps)
  first_byte_is_position (Some i) found =
      let inside = found.0.high in
      let fails : (k : ℕ) → k < i → test (get_or bytes k 0) ≡ false =
      λ k below. false_from_ne_true _ (found.0.before k (omega arith) below) in
      let at = position_or_len_is test bytes i 0 (omega arith) fails (λ below. found.1) in
      grind (arith, common_steps)
