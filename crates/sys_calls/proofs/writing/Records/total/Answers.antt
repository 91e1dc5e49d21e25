-- One more length is added, unless they are too many.
use Rattle.sys_calls.proofs.Common.{◌≡◌, ℕ, ◌+◌, ◌-◌, ◌*◌, ◌<◌, ap, ◌∙◌, arith, Here, number_at, spans_at, total}
use Rattle.sys_calls.proofs.Spans.{spans_all, spans_more, spans_none}
use Rattle.sys_calls.proofs.writing.Records.total.Goals as goal

-- the lengths from a record on
total_more : (h : Here) (at n k : ℕ) → k < n → total (spans_at h (at + 16 * k) (n - k)) ≡ number_at h (at + 16 * k + 8) 8 + total (spans_at h (at + 16 * (k + 1)) (n - (k + 1)))
total_more h at n k lt = ap total (spans_more h at n k lt)

total_none : (h : Here) (at n k : ℕ) → k ≡ n → total (spans_at h (at + 16 * k) (n - k)) ≡ 0
total_none h at n k is = ap (λ (i : ℕ). total (spans_at h (at + 16 * i) (n - i))) is ∙ ap total (spans_none h at n)

pub loop-index-init : goal.loop-index-init
loop-index-init c = record { small = omega arith; rest = λ h same. let e = ap total (spans_all h c.args.self.at c.args.self.count) in omega (arith, e) }

pub overflow_sub-length : goal.overflow_sub-length
overflow_sub-length c = let small = c.loop-index.invariant.small in omega (arith, small)

pub returns-then-span-length-clause-none : goal.returns-then-span-length-clause-none
returns-then-span-length-clause-none c = λ h same.
    let more = total_more h c.args.self.at c.args.self.count c.loop-index.index c.loop-index-test.true in
    let rest = c.loop-index.invariant.rest h same in
    let len = c.get-span.ensures.len h same in
    omega (arith, more, rest, len, c.loop-index.invariant.small)

pub loop-index-preserved : goal.loop-index-preserved
loop-index-preserved c = record {
  small = let small = c.loop-index.invariant.small in omega (arith, small);
  rest = λ h same.
      let more = total_more h c.args.self.at c.args.self.count c.loop-index.index c.loop-index-test.true in
      let rest = c.loop-index.invariant.rest h same in
      let len = c.get-span.ensures.len h same in
      omega (arith, more, rest, len);
}

pub returns-clause-some : goal.returns-clause-some
returns-clause-some c = λ h same.
    let over : c.loop-index.index ≡ c.args.self.count = omega arith in
    let none = total_none h c.args.self.at c.args.self.count c.loop-index.index over in
    let rest = c.loop-index.invariant.rest h same in
    omega (arith, none, rest)

pub returns-clause-small : goal.returns-clause-small
returns-clause-small c = c.loop-index.invariant.small
