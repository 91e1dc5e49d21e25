-- The bytes of a line stand at the end of their room.
use Rattle.std.proofs.Common.{◌≡◌, ℕ, ◌+◌, ◌<◌, ◌≤◌, ◌^◌, List, ◌++◌, length, drop, ap, ◌∙◌, arith, length-append, length-drop}
use Rattle.std.proofs.lemmas.Fmt.{length-decimal-le}
use Rattle.std.specs.Fmt.{decimal}

-- how much room is before them
pub room_before : (bytes line : List ℕ) (start : ℕ) → line ≡ drop start bytes → length bytes ≡ 128 → start ≤ 128 → start + length line ≡ 128
room_before bytes line start is long within = omega (arith, ap length is ∙ length-drop start bytes, long)

-- a number has 20 digits at most
pub few_digits : (n : ℕ) → n < 2 ^ 64 → length (decimal n) ≤ 20
few_digits n fits = length-decimal-le 20 n (omega arith) (omega arith) fits

-- how long a line is with a number before it
pub longer : (n : ℕ) (line new : List ℕ) → n < 2 ^ 64 → new ≡ decimal n ++ line → length new ≤ length line + 20
longer n line new fits is = omega (arith, ap length is ∙ length-append (decimal n) line, few_digits n fits)
