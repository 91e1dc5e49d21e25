use Rattle.std.proofs.Common.{◌≡◌, ◌+◌, ◌≤◌, refl, arith}
use Rattle.place_keys.specs.Differences.{Written}
use Rattle.place_keys.proofs.Codes.{if_ok}
use Rattle.place_keys.proofs.DifferenceCodes.{moved, then_on}
use Rattle.place_keys.proofs.tables.write_action.Goals as goal

pub returns-clause-order : goal.returns-clause-order
returns-clause-order c =
    if_ok c.write_change-3.result _ _ (λ last low. let fits : last ≤ c.args.place + 2 + 1 = low in omega arith) c.write_change-3.ensures.order

pub returns-clause-written : goal.returns-clause-written
returns-clause-written c =
    let p = c.args.place in
    let first : Written = record { words = c.args.words.now.items; past = c.args.past; next = p } in
    let second : Written = record { words = c.write_change.new.words.items; past = c.in_ok-past_at.past_at; next = p + 1 } in
    let third : Written = record { words = c.write_change-2.new.words.items; past = c.in_ok-past_flags.past_flags; next = p + 2 } in
    if_ok c.write_change-3.result _ _ (λ last wrote f at flags mask.
    let two : p + 1 + 1 ≡ p + 2 = omega arith in
    let three : p + 2 + 1 ≡ p + 3 = omega arith in
    let fourth : Written = record { words = c.write_change-3.new.words.items; past = last; next = p + 2 + 1 } in
    moved (λ k. 0) f first c.write_change-3.new.words.items last (p + 2 + 1) (p + 3) three
    (then_on (λ k. 0) f first third fourth (omega arith) (omega arith)
    (then_on (λ k. 0) f first second third (omega arith) (omega arith) (c.in_ok-past_at.ensures.written (λ k. 0) f refl at)
    (moved (λ k. 0) f second c.write_change-2.new.words.items c.in_ok-past_flags.past_flags (p + 1 + 1) (p + 2) two (c.in_ok-past_flags.ensures.written (λ k. 0) f refl flags)))
    (wrote (λ k. 0) f refl mask))) c.write_change-3.ensures.written
