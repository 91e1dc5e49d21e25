use Rattle.std.proofs.Common.{◌≡◌, ◌∙◌, ◌+◌, ◌≤◌, ◌++◌, ◌∷◌, [], List, ℕ, true, ap, arith, is_ok, inl, inr, length, sym}
use Rattle.std.proofs.lemmas.Bool.{cases_lt}
use Rattle.std.specs.Vec.{vec_capacity}
use Rattle.frame_pool.proofs.Zeros.{length-with_zeros, with_zeros-enough, with_zeros-more}
use Rattle.frame_pool.specs.Layout.{with_zeros}
use Rattle.frame_pool.specs.Pool.{fresh}
use Rattle.frame_pool.proofs.pool.reach.Goals as goal

pub loop-preserved : goal.loop-preserved
loop-preserved c =
    let before = c.args.region.now in
    let from : length before.items ≤ c.loop.counter = omega (arith, c.loop.auto.counter, c.len-counter.ensures, before.ok.0) in
    let here : length c.loop.region.items ≡ c.loop.counter =
    ap length c.loop.invariant.items ∙ length-with_zeros c.loop.counter before.items from in
    let room : vec_capacity before ≤ vec_capacity c.loop.region = c.loop.invariant.capacity in
    let ok : is_ok c.push.result ≡ true = c.push.ensures.succeeds (omega (arith, c.loop.region.ok.0, c.requires, c.loop-test.true)) in
    let pushed = rw ok at c.push.ensures.items in
    record {
      items =
          pushed ∙ ap (λ (b : List ℕ). c.loop.region.items ++ b ∷ []) c.zeros.ensures
          ∙ ap (λ (bs : List (List ℕ)). bs ++ fresh ∷ []) c.loop.invariant.items
          ∙ sym (with_zeros-more c.loop.counter before.items from);
      none = λ past. absurd (omega (arith, c.loop-test.true));
      capacity = omega (arith, c.push.ensures.capacity);
    }

pub returns-clause-items : goal.returns-clause-items
returns-clause-items c = elim (cases_lt (c.args.place + 1) (length c.args.region.now.items)) [
  | inl past ↦
      c.loop.invariant.items ∙ ap (λ (k : ℕ). with_zeros k c.args.region.now.items) (c.loop.invariant.none (omega arith))
      ∙ with_zeros-enough (length c.args.region.now.items) c.args.region.now.items (omega arith)
      ∙ sym (with_zeros-enough (c.args.place + 1) c.args.region.now.items (omega arith))
  | inr few ↦
      let end : c.loop.counter ≤ c.args.place + 1 = c.loop.auto.counter-end (omega (arith, c.len-counter.ensures, c.args.region.now.ok.0)) in
      let same : c.loop.counter ≡ c.args.place + 1 = omega (arith, c.loop-test.false) in
      c.loop.invariant.items ∙ ap (λ (k : ℕ). with_zeros k c.args.region.now.items) same
]
