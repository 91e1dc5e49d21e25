-- The next record's bytes are appended, as far as they fit.
use Rattle.sys_calls.proofs.Common.{◌≡◌, ℕ, ◌+◌, ◌-◌, ◌*◌, ◌<◌, ◌≤◌, List, [], ◌++◌, length, take, Option, sym, ap, ◌∙◌, arith, append_assoc, append-nil, length-append, CONSOLE_ROOM, Here, Map, byte_in, bytes_from, bytes_of, memory, number_at, spans_at, length-take}
use Rattle.std.proofs.Math.Seq.{take-nil}
use Rattle.sys_calls.proofs.Spans.{spans_all, spans_more, spans_none, take-joined}
use Rattle.sys_calls.proofs.writing.Records.append_some.Goals as goal

pub loop-index-init : goal.loop-index-init
loop-index-init c = record {
  grown = omega arith;
  room = omega arith;
  rest = λ h same. ap (λ bs. c.args.console.now ++ take (CONSOLE_ROOM - length c.args.console.now) bs) (ap (bytes_of (memory h)) (spans_all h c.args.self.at c.args.self.count));
}

-- the first of a span's bytes and of the others
next : (h : Here) (m : Map) (old new : List ℕ) (at n k sat slen : ℕ) → k < n → byte_in m ≡ memory h → sat ≡ number_at h (at + 16 * k) 8 → slen ≡ number_at h (at + 16 * k + 8) 8
    → length old ≤ CONSOLE_ROOM → new ≡ old ++ take (CONSOLE_ROOM - length old) (bytes_from (byte_in m) sat slen)
    → new ++ take (CONSOLE_ROOM - length new) (bytes_of (memory h) (spans_at h (at + 16 * (k + 1)) (n - (k + 1)))) ≡ old ++ take (CONSOLE_ROOM - length old) (bytes_of (memory h) (spans_at h (at + 16 * k) (n - k)))
next h m old new at n k sat slen lt same p q room is =
    let r = CONSOLE_ROOM - length old in
    let a : List ℕ = bytes_from (memory h) (number_at h (at + 16 * k) 8) (number_at h (at + 16 * k + 8) 8) in
    let b : List ℕ = bytes_of (memory h) (spans_at h (at + 16 * (k + 1)) (n - (k + 1))) in
    let bytes : bytes_from (byte_in m) sat slen ≡ a =
    ap (λ (byte : ℕ → Option ℕ). bytes_from byte sat slen) same ∙ ap (λ (x : ℕ). bytes_from (memory h) x slen) p ∙ ap (bytes_from (memory h) (number_at h (at + 16 * k) 8)) q in
    let now : new ≡ old ++ take r a = is ∙ ap (λ (bs : List ℕ). old ++ take r bs) bytes in
    let size : length new ≡ length old + length (take r a) = ap length now ∙ length-append old (take r a) in
    let left : CONSOLE_ROOM - length new ≡ r - length (take r a) = omega (arith, size) in
    ap (λ (bs : List ℕ). bs ++ take (CONSOLE_ROOM - length new) b) now ∙ ap (λ (x : ℕ). (old ++ take r a) ++ take x b) left ∙ append_assoc old (take r a) (take (r - length (take r a)) b)
    ∙ ap (λ (bs : List ℕ). old ++ bs) (sym (take-joined r a b)) ∙ ap (λ bs. old ++ take r bs) (sym (ap (bytes_of (memory h)) (spans_more h at n k lt)))

pub loop-index-preserved : goal.loop-index-preserved
loop-index-preserved c =
    let old = c.loop-index.console in
    let new = c.append_some.new.console in
    let room = c.loop-index.invariant.room in
    let bytes = bytes_from (byte_in c.args.pages.now) c.get.result.at c.get.result.len in
    let size : length new ≡ length old + length (take (CONSOLE_ROOM - length old) bytes) = ap length c.append_some.ensures.console ∙ length-append old (take (CONSOLE_ROOM - length old) bytes) in
    let few = length-take (CONSOLE_ROOM - length old) bytes in
    record {
      grown = let grown = c.loop-index.invariant.grown in omega (arith, size, grown);
      room = omega (arith, size, few, room);
      rest = λ h same. next h c.args.pages.now old new c.args.self.at c.args.self.count c.loop-index.index c.get.result.at c.get.result.len c.loop-index-test.true same
          (c.get.ensures.at h same) (c.get.ensures.len h same) room c.append_some.ensures.console ∙ c.loop-index.invariant.rest h same;
    }

pub returns-clause-console : goal.returns-clause-console
returns-clause-console c = λ h same.
    let new = c.loop-index.console in
    let over : c.loop-index.index ≡ c.args.self.count = omega arith in
    let none : bytes_of (memory h) (spans_at h (c.args.self.at + 16 * c.loop-index.index) (c.args.self.count - c.loop-index.index)) ≡ [] =
    ap (λ (i : ℕ). bytes_of (memory h) (spans_at h (c.args.self.at + 16 * i) (c.args.self.count - i))) over ∙ ap (bytes_of (memory h)) (spans_none h c.args.self.at c.args.self.count) in
    sym (append-nil new) ∙ sym (ap (λ (bs : List ℕ). new ++ bs) (ap (take (CONSOLE_ROOM - length new)) none ∙ take-nil (CONSOLE_ROOM - length new))) ∙ c.loop-index.invariant.rest h same
