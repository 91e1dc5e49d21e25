-- The first ready thread that may run on a hart.
use Rattle.std.proofs.Common.{◌≡◌, ℕ, true, false, Some, None}
use Rattle.mach_types.specs.Kernel.Scheduling.{Scheduling, has_hart, affinity_of, first_for}
use Rattle.scheduler.proofs.Finds.{found_passes, found_stands, none_found}
use Rattle.scheduler.specs.Holding.{is_ready}

pub first_for-ready : (h t : ℕ) (s : Scheduling) → first_for h s ≡ Some t → is_ready t s ≡ true
first_for-ready h t s e = found_stands (λ u. has_hart (affinity_of u s) h) s.order t e

pub first_for-allowed : (h t : ℕ) (s : Scheduling) → first_for h s ≡ Some t → has_hart (affinity_of t s) h ≡ true
first_for-allowed h t s e = found_passes (λ u. has_hart (affinity_of u s) h) s.order t e

pub first_for-none : (h t : ℕ) (s : Scheduling) → first_for h s ≡ None → is_ready t s ≡ true → has_hart (affinity_of t s) h ≡ false
first_for-none h t s e ready = none_found (λ u. has_hart (affinity_of u s) h) s.order t e ready
