-- ioctl(2) and fstat(2).
use Rattle.block_model.proofs.Common.{ℕ, ◌+◌, ◌^◌, ◌≤◌, ◌<◌, [], arith, is_writable, Here, are_writable, argument, not-false}
use Rattle.block_model.specs.Calls.Terminal.{fstat, fstat_errors, ioctl, ioctl_errors, stat_size}
use Rattle.block_model.proofs.CallEffects.{CallDeed, Same, answers_0, by_errors}
use Rattle.block_model.proofs.WritableBytes.{part_writable}

pub deed_ioctl : (here : Here) (t number : ℕ) → CallDeed here t number (ioctl here t)
deed_ioctl here t number = by_errors (ioctl_errors here t) _
    (λ none. answers_0 _ _ ((omega arith, not-false (are_writable here (argument here t 2) 8) none.1.1.0), tt) Same)

pub deed_fstat : (here : Here) (t number : ℕ) → CallDeed here t number (fstat here t)
deed_fstat here t number =
    let p = argument here t 1 in
    by_errors (fstat_errors here t) _ (λ none.
    let part = λ (from size value : ℕ) (low : p ≤ from) (high : from + size ≤ p + stat_size) (some : 0 < size).
    part_writable (is_writable here) p stat_size from size value (not-false (are_writable here p stat_size) none.1.0) low high some in
    answers_0 _ _ (
      tt,
      (
        part (p + 16) 8 (8592 + 2 ^ 32) (omega arith) (omega arith) (omega arith),
        (part (p + 32) 8 1281 (omega arith) (omega arith) (omega arith), (part (p + 56) 4 1024 (omega arith) (omega arith) (omega arith), tt)),
      ),
    ) Same)
