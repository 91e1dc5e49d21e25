-- uname(2).
use Rattle.block_model.proofs.Common.{ℕ, ◌+◌, ◌≤◌, [], arith, Here, are_writable, argument, is_writable, not-false}
use Rattle.block_model.specs.Calls.System.{names_size, uname, uname_errors}
use Rattle.block_model.proofs.CallEffects.{CallDeed, Same, answers_0, by_errors}
use Rattle.block_model.proofs.WritableBytes.{part_writable}

pub deed_uname : (here : Here) (t number : ℕ) → CallDeed here t number (uname here t)
deed_uname here t number =
    let p = argument here t 0 in
    by_errors (uname_errors here t) _ (λ none.
    let part = λ (from value : ℕ) (low : p ≤ from) (high : from + 8 ≤ p + names_size).
    part_writable (is_writable here) p names_size from 8 value (not-false (are_writable here p names_size) none.0) low high (omega arith) in
    answers_0 _ _ (tt, (part p 0x78756E694C (omega arith) (omega arith), (part (p + 130) 0x302E332E36 (omega arith) (omega arith), (part (p + 260) 0x34367663736972 (omega arith) (omega arith), tt)))) Same)
