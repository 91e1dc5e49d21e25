use Rattle.std.proofs.Common.{◌≡◌, ◌<◌, ◌≤◌, ◌+◌, ◌-◌, ◌*◌, ◌∙◌, ℕ, List, ap, sym, arith}
use Rattle.std.proofs.lemmas.Bool.Decides.{Decides-eqb}
use Rattle.std.proofs.lemmas.Slice.Eq.{slice_eq-Decides}
use Rattle.place_keys.specs.PageWords.{page_word}
use Rattle.place_keys.proofs.DifferenceCodes.{moved, skipped, then_on}
use Rattle.place_keys.proofs.MemoryWords.{part_word}
use Rattle.place_keys.proofs.pages.write_row.Goals as goal

pub loop-block-init : goal.loop-block-init
loop-block-init c = record {
  order = let order : c.args.past ≤ c.args.first = c.requires.order in omega arith;
  written = λ f g old new. skipped f g c.args.words.now.items c.args.past c.args.first (c.args.first + 8 * 0) c.requires.order (omega arith) (λ j low high. absurd (omega arith));
}

-- the word of a block by its number on the page
within : (f : ℕ → ℕ) (first b k : ℕ) → f (first + 8 * b + k) ≡ f (first + (8 * b + k))
within f first b k = let place : first + 8 * b + k ≡ first + (8 * b + k) = omega arith in ap f place

pub loop-block-preserved : goal.loop-block-preserved
loop-block-preserved c =
    let first = c.args.first in
    let b = c.loop-block.block in
    let lt : b < 8 = c.loop-block-test.true in
    let next : first + 8 * b + 8 ≡ first + 8 * (b + 1) = omega arith in
    let last : c.in_ok-last.last ≤ first + 8 * b + 8 = c.in_ok-last.ensures.order in
    record {
      order = omega arith;
      written = λ f g old new.
          moved f g (record { words = c.args.words.now.items; past = c.args.past; next = first }) c.write_block.new.words.items c.in_ok-last.last (first + 8 * b + 8) (first + 8 * (b + 1)) next
          (then_on f g (record { words = c.args.words.now.items; past = c.args.past; next = first }) (record { words = c.loop-block.words.items; past = c.loop-block.last; next = first + 8 * b })
          (record { words = c.write_block.new.words.items; past = c.in_ok-last.last; next = first + 8 * b + 8 }) (omega arith) (omega arith)
          (c.loop-block.invariant.written f g old new)
          (c.in_ok-last.ensures.written f g
          (λ k less. within f first b k ∙ old (8 * b + k) (omega arith) ∙ sym (part_word c.args.start.now (8 * b) (64 * b) _ k (omega arith) (omega arith)))
          (λ k less. within g first b k ∙ new (8 * b + k) (omega arith) ∙ sym (part_word c.args.bytes.now (8 * b) (64 * b) _ k (omega arith) (omega arith)))));
    }

-- words of bytes that are equal
same_word : (f g : ℕ → ℕ) (first : ℕ) (start bytes : List ℕ) → bytes ≡ start → ((k : ℕ) → k < 64 → f (first + k) ≡ page_word start k) → ((k : ℕ) → k < 64 → g (first + k) ≡ page_word bytes k)
    → (j : ℕ) → first ≤ j → j < first + 64 → g j ≡ f j
same_word f g first start bytes same old new j low high =
    let place : j ≡ first + (j - first) = omega arith in
    let lt : j - first < 64 = omega arith in
    ap g place ∙ new (j - first) lt ∙ ap (λ (bs : List ℕ). page_word bs (j - first)) same ∙ sym (old (j - first) lt) ∙ ap f (sym place)

pub returns-then-eq-clause-order : goal.returns-then-eq-clause-order
returns-then-eq-clause-order c = let order : c.args.past ≤ c.args.first = c.requires.order in omega arith

pub returns-then-eq-clause-written : goal.returns-then-eq-clause-written
returns-then-eq-clause-written c = λ f g old new.
    let same : c.args.bytes.now ≡ c.args.start.now = (slice_eq-Decides Decides-eqb _ _ _ c.eq.ensures).0 c.if-eq.true in
    skipped f g c.args.words.now.items c.args.past c.args.first (c.args.first + 64) c.requires.order (omega arith) (same_word f g c.args.first c.args.start.now c.args.bytes.now same old new)

pub returns-clause-order : goal.returns-clause-order
returns-clause-order c =
    let low : c.loop-block.block ≤ 8 = c.loop-block.auto.block-end in
    let order : c.loop-block.last ≤ c.args.first + 8 * c.loop-block.block = c.loop-block.invariant.order in
    omega arith

pub returns-clause-written : goal.returns-clause-written
returns-clause-written c = λ f g old new.
    let high : 8 ≤ c.loop-block.block = c.loop-block-test.false in
    let low : c.loop-block.block ≤ 8 = c.loop-block.auto.block-end in
    let all : c.args.first + 8 * c.loop-block.block ≡ c.args.first + 64 = omega arith in
    moved f g (record { words = c.args.words.now.items; past = c.args.past; next = c.args.first }) c.loop-block.words.items c.loop-block.last (c.args.first + 8 * c.loop-block.block) (c.args.first + 64) all
    (c.loop-block.invariant.written f g old new)
