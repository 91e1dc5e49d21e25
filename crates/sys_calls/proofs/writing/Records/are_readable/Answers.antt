-- The next record's bytes can be read, or not.
use Rattle.sys_calls.proofs.Common.{◌≡◌, ℕ, ◌+◌, ◌-◌, ◌*◌, ◌<◌, Bool, true, false, ◌&&◌, Option, is_some, sym, ap, ◌∙◌, arith, Here, Map, all_readable, are_readable, byte_in, each_byte, memory, number_at, spans_at}
use Rattle.sys_calls.proofs.Spans.{spans_all, spans_more, spans_none}
use Rattle.sys_calls.proofs.writing.Records.are_readable.Goals as goal

-- the span's bytes
span_is : (h : Here) (m : Map) (at len k place : ℕ) (b r : Bool) → byte_in m ≡ memory h → at ≡ number_at h place 8 → len ≡ number_at h (place + 8) 8 → r ≡ each_byte (λ a. is_some (byte_in m a)) at len → r ≡ b
    → are_readable h (number_at h place 8) (number_at h (place + 8) 8) ≡ b
span_is h m at len k place b r same p q e d =
    sym (ap (λ (byte : ℕ → Option ℕ). each_byte (λ a. is_some (byte a)) (number_at h place 8) (number_at h (place + 8) 8)) same)
    ∙ sym (ap (λ (a : ℕ). each_byte (λ x. is_some (byte_in m x)) a (number_at h (place + 8) 8)) p) ∙ sym (ap (λ (n : ℕ). each_byte (λ x. is_some (byte_in m x)) at n) q) ∙ sym e ∙ d

more : (h : Here) (at n k : ℕ) (b : Bool) → k < n → are_readable h (number_at h (at + 16 * k) 8) (number_at h (at + 16 * k + 8) 8) ≡ b
    → all_readable h (spans_at h (at + 16 * k) (n - k)) ≡ (b && all_readable h (spans_at h (at + 16 * (k + 1)) (n - (k + 1))))
more h at n k b lt is = ap (all_readable h) (spans_more h at n k lt) ∙ ap (λ (x : Bool). x && all_readable h (spans_at h (at + 16 * (k + 1)) (n - (k + 1)))) is

pub loop-index-init : goal.loop-index-init
loop-index-init c = λ h same. ap (all_readable h) (spans_all h c.args.self.at c.args.self.count)

pub returns-then-not-readable : goal.returns-then-not-readable
returns-then-not-readable c = λ h same.
    let at = c.args.self.at + 16 * c.loop-index.index in
    let span = span_is h c.args.pages.now c.get-span.result.at c.get-span.result.len 0 at false c.readable.result same (c.get-span.ensures.at h same) (c.get-span.ensures.len h same) c.readable.ensures c.if-not-readable.true in
    sym (more h c.args.self.at c.args.self.count c.loop-index.index false c.loop-index-test.true span) ∙ c.loop-index.invariant h same

pub loop-index-preserved : goal.loop-index-preserved
loop-index-preserved c = λ h same.
    let at = c.args.self.at + 16 * c.loop-index.index in
    let span = span_is h c.args.pages.now c.get-span.result.at c.get-span.result.len 0 at true c.readable.result same (c.get-span.ensures.at h same) (c.get-span.ensures.len h same) c.readable.ensures c.if-not-readable.false in
    sym (more h c.args.self.at c.args.self.count c.loop-index.index true c.loop-index-test.true span) ∙ c.loop-index.invariant h same

pub returns : goal.returns
returns c = λ h same.
    let over : c.loop-index.index ≡ c.args.self.count = omega arith in
    sym (ap (λ (i : ℕ). all_readable h (spans_at h (c.args.self.at + 16 * i) (c.args.self.count - i))) over ∙ ap (all_readable h) (spans_none h c.args.self.at c.args.self.count))
    ∙ c.loop-index.invariant h same
