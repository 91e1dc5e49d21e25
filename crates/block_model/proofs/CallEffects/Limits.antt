-- prlimit(2).
use Rattle.block_model.proofs.Common.{◌≡◌, ℕ, ◌+◌, ◌≤◌, [], arith, eqb, true, Here, are_writable, argument, int_argument, is_writable, not-false}
use Rattle.block_model.specs.Calls.Limits.{limit_of, limit_size, limit_written, prlimit64, prlimit_errors}
use Rattle.block_model.specs.Calls.Signals.{may_write}
use Rattle.block_model.proofs.CallEffects.{CallDeed, Same, answers_0, by_errors}
use Rattle.block_model.proofs.WritableBytes.{AllWritable, part_writable, written_unless}

-- both words of a limit can be written where its bytes can be
limit_writable : (here : Here) (at limit : ℕ) → are_writable here at limit_size ≡ true → AllWritable (is_writable here) (limit_written at limit)
limit_writable here at limit may =
    let part = λ (from : ℕ) (low : at ≤ from) (high : from + 8 ≤ at + limit_size).
    part_writable (is_writable here) at limit_size from 8 limit may low high (omega arith) in
    (part at (omega arith) (omega arith), (part (at + 8) (omega arith) (omega arith), tt))

pub deed_prlimit : (here : Here) (t number : ℕ) → CallDeed here t number (prlimit64 here t)
deed_prlimit here t number =
    let old = argument here t 3 in
    let limit = limit_of (int_argument here t 1) in
    by_errors (prlimit_errors here t) _ (λ none.
    answers_0 _ _ (written_unless (is_writable here) (eqb old 0) (are_writable here old limit_size) (limit_written old limit)
    (not-false (may_write here old limit_size) none.1.1.1.1.0) (limit_writable here old limit)) Same)
