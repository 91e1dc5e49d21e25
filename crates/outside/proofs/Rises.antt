-- How counts of faults add up over several calls.
use Rattle.std.proofs.Common.{ℕ, ◌<◌, List, arith, refl}
use Rattle.outside.specs.Counts.{most_faults, Rose, NeverFalls, NoneFalls}

pub falls-same : (n : ℕ) → NeverFalls n n
falls-same n = (omega arith, λ _. refl)

pub falls-then : (a b c : ℕ) → NeverFalls a b → NeverFalls b c → NeverFalls a c
falls-then a b c before after = (omega arith, λ top. omega arith)

pub none_falls-same : (f : List ℕ → ℕ) → NoneFalls f f
none_falls-same f name = falls-same (f name)

pub none_falls-then : (f g h : List ℕ → ℕ) → NoneFalls f g → NoneFalls g h → NoneFalls f h
none_falls-then f g h before after name = falls-then (f name) (g name) (h name) (before name) (after name)

-- it rose, and then didn't fall
pub rose-then : (a b c : ℕ) → Rose a b → NeverFalls b c → Rose a c
rose-then a b c rose after = λ below. omega (arith, rose below)

-- it didn't fall, and then rose
pub rose-after : (a b c : ℕ) → NeverFalls a b → NeverFalls b c → Rose b c → Rose a c
rose-after a b c before after rose = λ below. grind (arith, before, after, rose)

-- a count below its top that stays where it is never rose
pub unmoved_never_rose : (n : ℕ) → n < most_faults → Rose n n → ⊥
unmoved_never_rose n below rose = omega (arith, rose below)
