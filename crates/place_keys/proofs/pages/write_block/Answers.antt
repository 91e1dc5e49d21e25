use Rattle.std.proofs.Common.{◌≡◌, ◌<◌, ◌≤◌, ◌+◌, ◌-◌, ◌∙◌, ℕ, List, ap, sym, arith}
use Rattle.std.proofs.lemmas.Bool.Decides.{Decides-eqb}
use Rattle.std.proofs.lemmas.Slice.Eq.{slice_eq-Decides}
use Rattle.place_keys.specs.PageWords.{page_word}
use Rattle.place_keys.proofs.DifferenceCodes.{moved, skipped, then_on}
use Rattle.place_keys.proofs.pages.write_block.Goals as goal

pub loop-index-init : goal.loop-index-init
loop-index-init c = record {
  order = let order : c.args.past ≤ c.args.first = c.requires.order in omega arith;
  written = λ f g old new. skipped f g c.args.words.now.items c.args.past c.args.first (c.args.first + 0) c.requires.order (omega arith) (λ j low high. absurd (omega arith));
}

pub loop-index-preserved : goal.loop-index-preserved
loop-index-preserved c =
    let first = c.args.first in
    let i = c.loop-index.index in
    let lt : i < 8 = c.loop-index-test.true in
    let next : first + i + 1 ≡ first + (i + 1) = omega arith in
    let last : c.in_ok-last.last ≤ first + i + 1 = c.in_ok-last.ensures.order in
    record {
      order = omega arith;
      written = λ f g old new.
          moved f g (record { words = c.args.words.now.items; past = c.args.past; next = first }) c.write_change.new.words.items c.in_ok-last.last (first + i + 1) (first + (i + 1)) next
          (then_on f g (record { words = c.args.words.now.items; past = c.args.past; next = first }) (record { words = c.loop-index.words.items; past = c.loop-index.last; next = first + i })
          (record { words = c.write_change.new.words.items; past = c.in_ok-last.last; next = first + i + 1 }) (omega arith) (omega arith)
          (c.loop-index.invariant.written f g old new)
          (c.in_ok-last.ensures.written f g (old i lt ∙ sym c.word_of-old.ensures) (new i lt ∙ sym c.word_of-now.ensures)));
    }

-- words of bytes that are equal
same_word : (f g : ℕ → ℕ) (first : ℕ) (start bytes : List ℕ) → bytes ≡ start → ((k : ℕ) → k < 8 → f (first + k) ≡ page_word start k) → ((k : ℕ) → k < 8 → g (first + k) ≡ page_word bytes k)
    → (j : ℕ) → first ≤ j → j < first + 8 → g j ≡ f j
same_word f g first start bytes same old new j low high =
    let place : j ≡ first + (j - first) = omega arith in
    let lt : j - first < 8 = omega arith in
    ap g place ∙ new (j - first) lt ∙ ap (λ (bs : List ℕ). page_word bs (j - first)) same ∙ sym (old (j - first) lt) ∙ ap f (sym place)

pub returns-then-eq-clause-order : goal.returns-then-eq-clause-order
returns-then-eq-clause-order c = let order : c.args.past ≤ c.args.first = c.requires.order in omega arith

pub returns-then-eq-clause-written : goal.returns-then-eq-clause-written
returns-then-eq-clause-written c = λ f g old new.
    let same : c.args.bytes.now ≡ c.args.start.now = (slice_eq-Decides Decides-eqb _ _ _ c.eq.ensures).0 c.if-eq.true in
    skipped f g c.args.words.now.items c.args.past c.args.first (c.args.first + 8) c.requires.order (omega arith) (same_word f g c.args.first c.args.start.now c.args.bytes.now same old new)

pub returns-clause-order : goal.returns-clause-order
returns-clause-order c =
    let low : c.loop-index.index ≤ 8 = c.loop-index.auto.index-end in
    let order : c.loop-index.last ≤ c.args.first + c.loop-index.index = c.loop-index.invariant.order in
    omega arith

pub returns-clause-written : goal.returns-clause-written
returns-clause-written c = λ f g old new.
    let high : 8 ≤ c.loop-index.index = c.loop-index-test.false in
    let low : c.loop-index.index ≤ 8 = c.loop-index.auto.index-end in
    let all : c.args.first + c.loop-index.index ≡ c.args.first + 8 = omega arith in
    moved f g (record { words = c.args.words.now.items; past = c.args.past; next = c.args.first }) c.loop-index.words.items c.loop-index.last (c.args.first + c.loop-index.index) (c.args.first + 8) all
    (c.loop-index.invariant.written f g old new)
