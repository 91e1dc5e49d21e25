-- What holds of the ready list and the affinities holds at the start and after each call, for crates that keep the value alone.
use Rattle.std.proofs.Common.{◌≡◌, ℕ, ◌<◌, ◌≤◌, true, false, cond, List, [], ◌∷◌, find, length, Some, refl, arith}
use Rattle.std.specs.List.{AllByRecursion}
use Rattle.std.specs.Option.{option_map_or}
use Rattle.std.proofs.Math.Nat.{pow-le-pow_right}
use Rattle.mach_types.specs.Kernel.Scheduling.{Scheduling, is_of, start_scheduling, affinity_of, with_thread, forget, with_ready, without_ready, with_affinity, all_harts}
use Rattle.mach_types.specs.declared.kernel_words.TheConstants.{MOST_THREADS}
use Rattle.scheduler.proofs.Kept.{kept_at_start, kept_by_thread, kept_by_forget, kept_by_ready, kept_by_take, kept_by_affinity}
use Rattle.scheduler.specs.Holding.{IsScheduling, is_held, is_ready}

pub start_scheduling-holds : (harts : ℕ) → harts ≤ 8 → IsScheduling (start_scheduling harts)
start_scheduling-holds harts few =
    let power = pow-le-pow_right {n = 2} (omega arith) few in
    let s = start_scheduling harts in
    kept_at_start s.order s.affinities (all_harts harts) refl refl (omega arith)

small_set : (t : ℕ) (pairs : List (ℕ × ℕ)) → AllByRecursion (λ pair. pair.1 < 256) pairs → option_map_or (λ pair. pair.1) (find (is_of t) pairs) 0 < 256
small_set t [] each = omega arith
small_set t (p ∷ ps) each =
    elim (is_of t p) as (λ b. option_map_or (λ pair. pair.1) (cond b (Some p) (find (is_of t) ps)) 0 < 256) [ true ↦ each.0 | false ↦ small_set t ps each.1 ]

pub affinity_of-small : (t : ℕ) (s : Scheduling) → IsScheduling s → affinity_of t s < 256
affinity_of-small t s holds = small_set t s.affinities holds.sets

pub with_thread-holds : (parent t : ℕ) (s : Scheduling) → IsScheduling s → is_held t s ≡ false → length s.affinities < MOST_THREADS
    → IsScheduling (with_thread parent t s)
with_thread-holds parent t s holds not_held room =
    kept_by_thread s.order s.affinities (with_thread parent t s).affinities t (affinity_of parent s) holds refl not_held room
    (affinity_of-small parent s holds)

pub forget-holds : (t : ℕ) (s : Scheduling) → IsScheduling s → is_ready t s ≡ false → IsScheduling (forget t s)
forget-holds t s holds not_ready = kept_by_forget s.order s.affinities (forget t s).affinities t holds refl not_ready

pub with_ready-holds : (t : ℕ) (s : Scheduling) → IsScheduling s → is_held t s ≡ true → is_ready t s ≡ false → IsScheduling (with_ready t s)
with_ready-holds t s holds held not_ready = kept_by_ready s.order (with_ready t s).order s.affinities t holds refl held not_ready

pub without_ready-holds : (t : ℕ) (s : Scheduling) → IsScheduling s → IsScheduling (without_ready t s)
without_ready-holds t s holds = kept_by_take s.order (without_ready t s).order s.affinities t holds refl

pub with_affinity-holds : (t set : ℕ) (s : Scheduling) → IsScheduling s → set < 256 → IsScheduling (with_affinity t set s)
with_affinity-holds t set s holds small = kept_by_affinity s.order s.affinities (with_affinity t set s).affinities t set holds refl small
