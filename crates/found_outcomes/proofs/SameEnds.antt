-- Two ends are one where `same_end` says so, and nowhere else.
use Rattle.std.proofs.Common.{◌≡◌, true, refl, ap}
use Rattle.std.proofs.lemmas.Bool.{eqb-true, eq-eqb}
use Rattle.mach_types.specs.declared.limits.End.{End}
use Rattle.mach_types.specs.declared.limits.End.TheVariants.{Exit, Killed, Stuck, Limit, Unended}
use Rattle.found_outcomes.specs.Found.{same_end}

pub end_is : (a b : End) → same_end a b ≡ true → a ≡ b
end_is (Exit a) (Exit b) is = ap Exit (eqb-true a b is)
end_is (Killed a) (Killed b) is = ap Killed (eqb-true a b is)
end_is Stuck Stuck is = refl
end_is Limit Limit is = refl
end_is Unended Unended is = refl
end_is (Exit a) (Killed b) is = absurd cc
end_is (Exit a) Stuck is = absurd cc
end_is (Exit a) Limit is = absurd cc
end_is (Exit a) Unended is = absurd cc
end_is (Killed a) (Exit b) is = absurd cc
end_is (Killed a) Stuck is = absurd cc
end_is (Killed a) Limit is = absurd cc
end_is (Killed a) Unended is = absurd cc
end_is Stuck (Exit b) is = absurd cc
end_is Stuck (Killed b) is = absurd cc
end_is Stuck Limit is = absurd cc
end_is Stuck Unended is = absurd cc
end_is Limit (Exit b) is = absurd cc
end_is Limit (Killed b) is = absurd cc
end_is Limit Stuck is = absurd cc
end_is Limit Unended is = absurd cc
end_is Unended (Exit b) is = absurd cc
end_is Unended (Killed b) is = absurd cc
end_is Unended Stuck is = absurd cc
end_is Unended Limit is = absurd cc

pub end_same : (e : End) → same_end e e ≡ true
end_same (Exit a) = eq-eqb a a refl
end_same (Killed a) = eq-eqb a a refl
end_same Stuck = refl
end_same Limit = refl
end_same Unended = refl
