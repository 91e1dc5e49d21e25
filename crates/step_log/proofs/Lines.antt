-- The lines of a text, one by one.
use Rattle.std.proofs.Common.{◌≡◌, ℕ, ◌<◌, List, [], ◌∷◌, length, ◌==◌, refl, ap, ◌∙◌, arith}
use Rattle.std.specs.List.{slice_split}
use Rattle.std.proofs.lemmas.List.Splits.{length-slice_split}
use Rattle.step_log.specs.Script.{lines_of, without_empty_end}
use Rattle.step_log.specs.Text.{newline}

past_newline : (part : List ℕ) (parts : List (List ℕ)) → 0 < length parts → without_empty_end (part ∷ parts) ≡ part ∷ without_empty_end parts
past_newline part [] some = absurd (omega arith)
past_newline [] (next ∷ more) some = refl
past_newline (c ∷ cs) (next ∷ more) some = refl

-- a text that is cut at its first newline
pub lines_of-cut : (bytes line rest : List ℕ) → slice_split (λ b. b == newline) bytes ≡ line ∷ slice_split (λ b. b == newline) rest
    → lines_of bytes ≡ line ∷ lines_of rest
lines_of-cut bytes line rest e =
    ap without_empty_end e
    ∙ past_newline line (slice_split (λ b. b == newline) rest) (omega (arith, length-slice_split (λ b. b == newline) rest))

-- a text without a newline
pub lines_of-last : (bytes : List ℕ) → 0 < length bytes → slice_split (λ b. b == newline) bytes ≡ bytes ∷ [] → lines_of bytes ≡ bytes ∷ lines_of []
lines_of-last [] some e = absurd (omega arith)
lines_of-last (c ∷ cs) some e = ap without_empty_end e
