-- How what a sink holds adds up over several calls.
use Rattle.std.proofs.Common.{ℕ, ◌+◌, List, [], ◌++◌, Option, Some, None, length, take, arith}
use Rattle.outside.specs.Told.{Gained, GainedPrefix}
use Rattle.std.proofs.lemmas.Grind.{common_steps}
use Rattle.std.proofs.lemmas.List.{take-append-le, length-append}
use Rattle.std.proofs.Math.Seq.{take-append-add, take-length}

pub gained-same : (a : Option (List ℕ)) → Gained a a []
gained-same None = tt
gained-same (Some xs) = grind (arith, common_steps)

pub gained-then : (a b c : Option (List ℕ)) (xs ys : List ℕ) → Gained a b xs → Gained b c ys → Gained a c (xs ++ ys)
gained-then a b None xs ys first second = tt
gained-then a None (Some xc) xs ys first second = absurd second
gained-then None (Some xb) (Some xc) xs ys first second = absurd first
gained-then (Some xa) (Some xb) (Some xc) xs ys first second = grind (arith, common_steps)

-- the whole of these bytes is a prefix of them
pub prefix-whole : (a b : Option (List ℕ)) (xs : List ℕ) → Gained a b xs → GainedPrefix a b xs
prefix-whole a b xs whole = (length xs, omega arith, rw take-length whole)

-- a prefix of these bytes is a prefix of more of them
pub prefix-longer : (a b : Option (List ℕ)) (xs ys : List ℕ) → GainedPrefix a b xs → GainedPrefix a b (xs ++ ys)
prefix-longer a b xs ys (n, within, gained) =
    (n, omega (arith, length-append xs ys), rw (take-append-le n xs ys within) gained)

-- these bytes and then a prefix of those
pub prefix-then : (a b c : Option (List ℕ)) (xs ys : List ℕ) → Gained a b xs → GainedPrefix b c ys → GainedPrefix a c (xs ++ ys)
prefix-then a b c xs ys first (n, within, second) =
    (length xs + n, omega (arith, length-append xs ys), rw take-append-add (gained-then a b c xs (take n ys) first second))
