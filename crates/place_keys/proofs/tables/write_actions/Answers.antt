use Rattle.std.proofs.Common.{◌≡◌, ◌<◌, ◌≤◌, ◌+◌, ◌*◌, ◌++◌, ◌∷◌, [], ◌∙◌, ap, length, slice_index, append_assoc, arith}
use Rattle.mach_types.specs.declared.signal_words.Action.{Action}
use Rattle.place_keys.specs.Differences.{differences}
use Rattle.place_keys.specs.TableWords.{action_words}
use Rattle.place_keys.specs.Words.{of_each}
use Rattle.place_keys.proofs.ActionNumbers.{has_numbers, length_numbers}
use Rattle.place_keys.proofs.Codes.{then_ok}
use Rattle.place_keys.proofs.DifferenceCodes.{ended_on, skipped, then_on}
use Rattle.place_keys.proofs.tables.write_actions.Goals as goal

abbrev no_action : Action
no_action = record { at = 0; flags = 0; mask = 0 }

pub loop-action-init : goal.loop-action-init
loop-action-init c = record {
  place = omega arith;
  order = omega arith;
  written = skipped (λ k. 0) (slice_index (of_each action_words c.args.actions.now)) c.write_word.new.words.items 0 0 0 (omega arith) (omega arith) (λ j low high. absurd (omega arith));
}

pub loop-action-preserved : goal.loop-action-preserved
loop-action-preserved c =
    let xs = c.args.actions.now in
    let i = c.loop-action.action-index in
    let lt : i < length xs = omega arith in
    let place : c.loop-action.place ≡ 3 * i = c.loop-action.invariant.place in
    let order : c.in_ok-last.last ≤ c.loop-action.place + 3 = c.in_ok-last.ensures.order in
    let flat = slice_index (of_each action_words xs) in
    let has = has_numbers xs i no_action lt in
    record {
      place = omega arith;
      order = order;
      written = then_on (λ k. 0) flat (record { words = c.write_word.new.words.items; past = 0; next = 0 })
          (record { words = c.loop-action.words.items; past = c.loop-action.last; next = c.loop-action.place })
          (record { words = c.write_action.new.words.items; past = c.in_ok-last.last; next = c.loop-action.place + 3 }) (omega arith) (omega arith) c.loop-action.invariant.written
          (c.in_ok-last.ensures.written flat (ap flat place ∙ has.at) (ap (λ n. flat (n + 1)) place ∙ has.flags) (ap (λ n. flat (n + 2)) place ∙ has.mask));
    }

pub returns : goal.returns
returns c =
    let xs = c.args.actions.now in
    let numbers = of_each action_words xs in
    let flat = slice_index numbers in
    let high : length xs ≤ c.loop-action.action-index = c.loop-action-test.false in
    let place : c.loop-action.place ≡ 3 * c.loop-action.action-index = c.loop-action.invariant.place in
    let many = length_numbers xs in
    let all : c.loop-action.place ≡ length numbers = omega arith in
    let rest = differences (λ k. 0) flat 0 0 (length numbers) in
    let count : 3 * length xs ≡ length numbers = omega arith in
    then_ok c.write_word-2.result _ _ (λ is. ended_on (λ k. 0) flat c.write_word.new.words.items c.loop-action.words.items c.write_word-2.new.words.items c.loop-action.last c.loop-action.place
    c.loop-action.invariant.written is
    ∙ ap (λ n. c.write_word.new.words.items ++ differences (λ k. 0) flat 0 0 n) all ∙ ap (λ ws. ws ++ rest) c.in_ok-write_word.ensures
    ∙ append_assoc c.args.words.now.items (3 * length xs ∷ []) rest ∙ ap (λ n. c.args.words.now.items ++ n ∷ rest) count) c.write_word-2.ensures
