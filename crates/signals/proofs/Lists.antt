-- The numbers of threads in a list.
use Rattle.std.proofs.Common.{◌≡◌, ℕ, List, [], ◌∷◌, map, eqb, refl}
use Rattle.std.specs.Cmp.{nat_eq_equiv}
use Rattle.std.specs.List.{list_any}
use Rattle.mach_types.specs.Kernel.Signals.{is_of}
use Rattle.mach_types.specs.declared.signal_words.ThreadSignals.{ThreadSignals}

-- a number is compared from either side
pub numbers_turned : (t : ℕ) (threads : List ThreadSignals) → list_any (eqb t) (map (λ th. th.tid) threads) ≡ list_any (is_of t) threads
numbers_turned t [] = refl
numbers_turned t (th ∷ ths) =
    let first = nat_eq_equiv.symm th.tid t in
    let rest = numbers_turned t ths in
    cc
