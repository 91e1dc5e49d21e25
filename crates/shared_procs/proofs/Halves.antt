-- Both halves of a pair after an event: what the process that acts made of itself, and the other one as it sees the event.
use Rattle.mach_types.specs.declared.limits.End.TheVariants as over
use Rattle.shared_procs.proofs.Common.{◌≡◌, ℕ, zero, suc, ◌+◌, ◌++◌, length, Bool, true, false, not, refl, arith, Option, None, Some, is_none, cond, apply, apply_two, aside, Done, ended_if, false≢true, filter, half, is_of_process, is_shared, is_stuck, Pair, Plain, plain_over, End, option_or, waiting_below}

pub own_half : (h : ℕ) (p : Bool) (d : Done) (m : Pair) → half p (apply_two h p d m) ≡ ended_if d.ended (apply h d (half p m))
own_half h true d m = refl
own_half h false d m = refl

pub other_half : (h : ℕ) (p : Bool) (d : Done) (m : Pair) → half (not p) (apply_two h p d m) ≡ aside h d (filter is_shared d.entered) (half (not p) m)
other_half h true d m = refl
other_half h false d m = refl

-- what holds of these holds of both
pub each_half : (P : Bool → Plain → Type 0) (h : ℕ) (p : Bool) (d : Done) (m : Pair) → P p (ended_if d.ended (apply h d (half p m)))
    → P (not p) (aside h d (filter is_shared d.entered) (half (not p) m)) → (q : Bool) → P q (half q (apply_two h p d m))
each_half P h true d m own other true = own
each_half P h true d m own other false = other
each_half P h false d m own other true = other
each_half P h false d m own other false = own

-- of which process an event is
pub by_process : (p q : Bool) → is_of_process p q ≡ true → q ≡ p
by_process true q is = is
by_process false false is = refl
by_process false true is = absurd (false≢true is)

-- what waits on a hart, of both processes
abbrev pub waits : Pair → ℕ → ℕ
waits m k = length (m.first.waiting k) + length (m.second.waiting k)

pub waits_by_half : (p : Bool) (m : Pair) (k : ℕ) → waits m k ≡ length ((half p m).waiting k) + length ((half (not p) m).waiting k)
waits_by_half true m k = omega arith
waits_by_half false m k = refl

-- a process that goes on wasn't ended
pub none_there : (o : Option End) → is_none o ≡ true → o ≡ None
none_there None is = refl
none_there (Some e) is = cc

pub open_so_far : (o rest : Option End) → option_or o rest ≡ None → o ≡ None
open_so_far None rest goes = refl
open_so_far (Some e) rest goes = cc

pub open_of : (x : Plain) → is_none (plain_over x) ≡ true → x.ended ≡ None
open_of x goes = open_so_far x.ended (cond (is_stuck x.kernel.threads) (Some over.Stuck) None) (none_there (plain_over x) goes)

-- stores that wait are the same where those of each hart are
pub below_same : (x y : Plain) → ((k : ℕ) → x.waiting k ≡ y.waiting k) → (n : ℕ) → waiting_below x n ≡ waiting_below y n
below_same x y same zero = refl
below_same x y same (suc n) = λ i. below_same x y same n i ++ same n i
