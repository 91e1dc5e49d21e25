use Rattle.std.proofs.Common.{◌≡◌, ◌≤◌, ◌+◌, ◌++◌, ◌∷◌, [], ◌∙◌, ap, refl, length, slice_index, append_assoc, arith}
use Rattle.place_keys.specs.Differences.{differences}
use Rattle.place_keys.proofs.Codes.{then_ok}
use Rattle.place_keys.proofs.DifferenceCodes.{ended_on, skipped, then_on}
use Rattle.place_keys.proofs.differences.write_sparse.Goals as goal

pub loop-index-init : goal.loop-index-init
loop-index-init c = skipped (λ k. 0) (slice_index c.args.list.now) c.write_word.new.words.items 0 0 0 (omega arith) (omega arith) (λ j low high. absurd (omega arith))

pub write_change-requires-clause-order : goal.write_change-requires-clause-order
write_change-requires-clause-order c = c.loop-index.invariant.order

pub loop-index-preserved : goal.loop-index-preserved
loop-index-preserved c =
    then_on (λ k. 0) (slice_index c.args.list.now) (record { words = c.write_word.new.words.items; past = 0; next = 0 })
    (record { words = c.loop-index.words.items; past = c.loop-index.last; next = c.loop-index.index }) (record { words = c.write_change.new.words.items; past = c.in_ok-last.last; next = c.loop-index.index + 1 })
    (omega arith) (omega arith) c.loop-index.invariant (c.in_ok-last.ensures.written (λ k. 0) (slice_index c.args.list.now) refl refl)

pub returns : goal.returns
returns c =
    let xs = c.args.list.now in
    let rest = differences (λ k. 0) (slice_index xs) 0 0 (length xs) in
    let high : length xs ≤ c.loop-index.index = c.loop-index-test.false in
    let low : c.loop-index.index ≤ length xs = c.loop-index.auto.index-end in
    let all : c.loop-index.index ≡ length xs = omega arith in
    then_ok c.write_word-2.result _ _ (λ is. ended_on (λ k. 0) (slice_index xs) c.write_word.new.words.items c.loop-index.words.items c.write_word-2.new.words.items c.loop-index.last c.loop-index.index
    c.loop-index.invariant is
    ∙ ap (λ n. c.write_word.new.words.items ++ differences (λ k. 0) (slice_index xs) 0 0 n) all ∙ ap (λ ws. ws ++ rest) c.in_ok-write_word.ensures
    ∙ append_assoc c.args.words.now.items (length xs ∷ []) rest) c.write_word-2.ensures
