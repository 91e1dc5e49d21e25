use Rattle.std.proofs.Common.{◌≡◌, ◌<◌, ◌≤◌, ◌+◌, ◌*◌, ◌∙◌, ℕ, ap, sym, arith}
use Rattle.place_keys.proofs.DifferenceCodes.{moved, skipped, then_on}
use Rattle.place_keys.proofs.MemoryWords.{part_word}
use Rattle.place_keys.proofs.pages.write_page_words.Goals as goal

pub loop-row-init : goal.loop-row-init
loop-row-init c = record {
  order = let order : c.args.past ≤ c.args.first = c.requires.order in omega arith;
  written = λ f g old new. skipped f g c.args.words.now.items c.args.past c.args.first (c.args.first + 64 * 0) c.requires.order (omega arith) (λ j low high. absurd (omega arith));
}

-- the word of a row by its number on the page
within : (f : ℕ → ℕ) (first b k : ℕ) → f (first + 64 * b + k) ≡ f (first + (64 * b + k))
within f first b k = let place : first + 64 * b + k ≡ first + (64 * b + k) = omega arith in ap f place

pub loop-row-preserved : goal.loop-row-preserved
loop-row-preserved c =
    let first = c.args.first in
    let b = c.loop-row.row in
    let lt : b < 8 = c.loop-row-test.true in
    let next : first + 64 * b + 64 ≡ first + 64 * (b + 1) = omega arith in
    let last : c.in_ok-last.last ≤ first + 64 * b + 64 = c.in_ok-last.ensures.order in
    record {
      order = omega arith;
      written = λ f g old new.
          moved f g (record { words = c.args.words.now.items; past = c.args.past; next = first }) c.write_row.new.words.items c.in_ok-last.last (first + 64 * b + 64) (first + 64 * (b + 1)) next
          (then_on f g (record { words = c.args.words.now.items; past = c.args.past; next = first }) (record { words = c.loop-row.words.items; past = c.loop-row.last; next = first + 64 * b })
          (record { words = c.write_row.new.words.items; past = c.in_ok-last.last; next = first + 64 * b + 64 }) (omega arith) (omega arith)
          (c.loop-row.invariant.written f g old new)
          (c.in_ok-last.ensures.written f g
          (λ k less. within f first b k ∙ old (64 * b + k) (omega arith) ∙ sym (part_word c.args.start.now (64 * b) (512 * b) _ k (omega arith) (omega arith)))
          (λ k less. within g first b k ∙ new (64 * b + k) (omega arith) ∙ sym (part_word c.args.bytes.now (64 * b) (512 * b) _ k (omega arith) (omega arith)))));
    }

pub returns-clause-order : goal.returns-clause-order
returns-clause-order c =
    let low : c.loop-row.row ≤ 8 = c.loop-row.auto.row-end in
    let order : c.loop-row.last ≤ c.args.first + 64 * c.loop-row.row = c.loop-row.invariant.order in
    omega arith

pub returns-clause-written : goal.returns-clause-written
returns-clause-written c = λ f g old new.
    let high : 8 ≤ c.loop-row.row = c.loop-row-test.false in
    let low : c.loop-row.row ≤ 8 = c.loop-row.auto.row-end in
    let all : c.args.first + 64 * c.loop-row.row ≡ c.args.first + 512 = omega arith in
    moved f g (record { words = c.args.words.now.items; past = c.args.past; next = c.args.first }) c.loop-row.words.items c.loop-row.last (c.args.first + 64 * c.loop-row.row) (c.args.first + 512) all
    (c.loop-row.invariant.written f g old new)
