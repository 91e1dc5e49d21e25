-- Stores that wait on pages, and the gate of the next instruction.
use Rattle.process.proofs.Common.{and_right, not-true, ◌≡◌, ℕ, zero, suc, ◌+◌, ◌-◌, ◌/◌, ◌<◌, ◌≤◌, List, [], ◌∷◌, length, take, get_or, refl, sym, ap, ◌∙◌, arith, Bool, true, false, cond, not, ◌&&◌, ◌||◌, Option, Some, None, is_some, nat_le, nat_lt, list_any, option_or, le-ltb, take-length, list_any_more, slice_get-get_or, each_byte, is_in, HartState, IsTied, Next, Parts, Stand, Store, Why, exec_refusal, hart_at, here_at, runs, Idle, InBarrier, instruction_gate, Neighbour, or_in_segment, lies_waiting_on, is_held, next_effect, next_fault, others_gate, refusal_exec, unless_in_barrier, IsNextAt, lies_in, lies_outside, nat_tests, each_byte-fails, not-false, not_from_false, ◌↔◌, min, max, IsTrue, Any, Any-from_list_any, list_any-from_Any, covers, PageRun, is_in_segment, lies_on, AreOfSegment}
use Rattle.std.proofs.Math.Bool.{or_comm}
use Rattle.std.specs.Cmp.{both_ways}
use Rattle.mach_types.proofs.Laws.{each_byte-same}
use Rattle.store_buffers.specs.Pages.{HasByteAmong}
use Rattle.sys_calls.specs.Remapped.{has_page}
use Rattle.sys_calls.specs.declared.memory_calls.PageSpan.{PageSpan}
use Rattle.process.proofs.HartStates.{hart_there}

-- a store has a byte on one of the pages where a buffer finds it there
has_page-tells : (pages : PageSpan) (n : ℕ) → has_page pages n ≡ true → (pages.first ≤ n) × (n < pages.first + pages.count)
has_page-tells pages n is = (grind (arith, nat_tests), grind (arith, nat_tests))

has_page-from : (pages : PageSpan) (n : ℕ) → pages.first ≤ n → n < pages.first + pages.count → has_page pages n ≡ true
has_page-from pages n low high = grind (arith, nat_tests)

covers-tells : (w : Store) (a : ℕ) → covers w a ≡ true → (w.at ≤ a) × (a < w.at + w.size)
covers-tells w a is = (grind (arith, nat_tests), grind (arith, nat_tests))

covers-from : (w : Store) (a : ℕ) → w.at ≤ a → a < w.at + w.size → covers w a ≡ true
covers-from w a low high = grind (arith, nat_tests)

-- where a test fails of one of the bytes, it fails of this one
record FailsAt (test : ℕ → Bool) (at n : ℕ) : Type 0 where
  pub byte : ℕ
  pub low : at ≤ byte
  pub high : byte < at + n
  pub fails : test byte ≡ false

fails_by : (test : ℕ → Bool) (at n : ℕ) (b : Bool) → test at ≡ b → (b && each_byte test (at + 1) n) ≡ false
    → (each_byte test (at + 1) n ≡ false → FailsAt test (at + 1) n) → FailsAt test at (suc n)
fails_by test at n true here fails later =
    let is = later fails in
    let low = is.low in
    let high = is.high in
    record { byte = is.byte; low = omega arith; high = omega arith; fails = is.fails }
fails_by test at n false here fails later = record { byte = at; low = omega arith; high = omega arith; fails = here }

fails_at : (test : ℕ → Bool) (at n : ℕ) → each_byte test at n ≡ false → FailsAt test at n
fails_at test at zero fails = cc
fails_at test at (suc n) fails = fails_by test at n (test at) refl fails (fails_at test (at + 1) n)

among_lies : (pages : PageSpan) (w : Store) → HasByteAmong pages.first pages.count w → lies_in pages w ≡ true
among_lies pages w has =
    let there = covers-tells w has.0 has.1 in
    let on : has_page pages (has.0 / 4096) ≡ true = has_page-from pages (has.0 / 4096) has.2 has.3 in
    let fails : not (has_page pages (has.0 / 4096)) ≡ false = ap not on in
    let test : ℕ → Bool = λ a. not (has_page pages (a / 4096)) in
    let place : w.at + (has.0 - w.at) ≡ has.0 = omega (arith, there.0) in
    not_from_false (each_byte test w.at w.size) (each_byte-fails test w.at w.size (has.0 - w.at) (omega (arith, there.0, there.1)) (ap test place ∙ fails))

lies_among : (pages : PageSpan) (w : Store) → lies_in pages w ≡ true → HasByteAmong pages.first pages.count w
lies_among pages w lies =
    let is = fails_at (λ a. not (has_page pages (a / 4096))) w.at w.size (not-true (each_byte (λ a. not (has_page pages (a / 4096))) w.at w.size) lies) in
    let on = has_page-tells pages (is.byte / 4096) (not-false (has_page pages (is.byte / 4096)) is.fails) in
    (is.byte, covers-from w is.byte is.low is.high, on.0, on.1)

-- what a buffer answers
pub touches_is : (pages : PageSpan) (ws : List Store) (r : Bool) → IsTrue r ↔ Any (HasByteAmong pages.first pages.count) ws → r ≡ list_any (lies_in pages) ws
touches_is pages ws r told = both_ways r (list_any (lies_in pages) ws)
    (λ is. let has = told.0 is in list_any-from_Any (lies_in pages) ws (has.0, has.1, has.2, has.3, among_lies pages has.1 has.4))
    (λ is. let has = Any-from_list_any (lies_in pages) ws is in told.1 (has.0, has.1, has.2, has.3, lies_among pages has.1 has.4))

-- some pages below one, and from one on
pub span_below : (pages span : PageSpan) (end most : ℕ) → most ≡ end - pages.first → span.first ≡ pages.first → span.count ≡ min pages.count most
    → (n : ℕ) → has_page span n ≡ (has_page pages n && nat_lt n end)
span_below pages span end most most_is first_is count_is n = grind (arith, nat_tests)

pub span_from : (pages span : PageSpan) (start skipped : ℕ) → skipped ≡ start - pages.first → span.first ≡ max pages.first start → span.count ≡ pages.count - skipped
    → (n : ℕ) → has_page span n ≡ (has_page pages n && nat_le start n)
span_from pages span start skipped skipped_is first_is count_is n = grind (arith, nat_tests)

-- a store that lies on pages, but not on those that are kept, lies on those below these, or from their end on
one_fails : (a b : Bool) → (not a || not b) ≡ not (a && b)
one_fails a b = grind arith

and_four : (a b c d : Bool) → ((a && b) && (c && d)) ≡ ((a && c) && (b && d))
and_four a b c d = grind arith

or_four : (a b c d : Bool) → ((a || b) || (c || d)) ≡ ((a || c) || (b || d))
or_four a b c d = grind arith

both_of_each : (f g : ℕ → Bool) (at n : ℕ) → (each_byte f at n && each_byte g at n) ≡ each_byte (λ a. f a && g a) at n
both_of_each f g at zero = refl
both_of_each f g at (suc n) =
    and_four (f at) (each_byte f (at + 1) n) (g at) (each_byte g (at + 1) n)
    ∙ ap (λ b. (f at && g at) && b) (both_of_each f g (at + 1) n)

module _ (pages kept low high : PageSpan)
    (low_is : (n : ℕ) → has_page low n ≡ (has_page pages n && nat_lt n kept.first))
    (high_is : (n : ℕ) → has_page high n ≡ (has_page pages n && nat_le (kept.first + kept.count) n))
  where
    parted_page : (n : ℕ) → (not (has_page low n) && not (has_page high n)) ≡ not (has_page pages n && not (has_page kept n))
    parted_page n = rw (low_is n, high_is n) (grind (arith, nat_tests))

    parted : (w : Store) → (lies_in low w || lies_in high w) ≡ lies_outside pages kept w
    parted w =
        let f = λ (a : ℕ). not (has_page low (a / 4096)) in
        let g = λ (a : ℕ). not (has_page high (a / 4096)) in
        let both = λ (a : ℕ). not (has_page pages (a / 4096) && not (has_page kept (a / 4096))) in
        one_fails (each_byte f w.at w.size) (each_byte g w.at w.size)
        ∙ ap not (both_of_each f g w.at w.size ∙ each_byte-same both (λ a. f a && g a) (λ a. parted_page (a / 4096)) w.at w.size)

    either_any : (f g : Store → Bool) (ws : List Store) → (list_any f ws || list_any g ws) ≡ list_any (λ w. f w || g w) ws
    either_any f g [] = refl
    either_any f g (w ∷ ws) =
        or_four (f w) (list_any f ws) (g w) (list_any g ws)
        ∙ ap (λ b. (f w || g w) || b) (either_any f g ws)

    pub parted_any : (ws : List Store) → (list_any (lies_in low) ws || list_any (lies_in high) ws) ≡ list_any (lies_outside pages kept) ws
    parted_any ws = either_any (lies_in low) (lies_in high) ws ∙ ap (λ (test : Store → Bool). list_any test ws) (λ i w. parted w i)

-- pages by which a store lies on them are those of a run, but for those of the segment that the process shares
either_way : (beside : Option Neighbour) (test : ℕ → Bool) (a : ℕ) → or_in_segment beside test a ≡ (or_in_segment beside (λ _. false) a || test a)
either_way None test a = refl
either_way (Some other) test a = by (is_in_segment a)
  where
    by : (b : Bool) → (b || test a) ≡ ((b || false) || test a)
    by b = grind arith

one_page_kept : (on run kept shared : Bool) → on ≡ run → shared ≡ kept → not (on && not kept) ≡ (shared || not run)
one_page_kept on run kept shared is same = grind arith

lies_same : (beside : Option Neighbour) (pages kept : PageSpan) (r : PageRun) (w : Store) → ((n : ℕ) → has_page pages n ≡ is_in r n)
    → AreOfSegment beside kept → lies_outside pages kept w ≡ lies_on beside r w
lies_same beside pages kept r w same shared =
    ap not
    (each_byte-same (or_in_segment beside (λ a. not (is_in r (a / 4096)))) (λ a. not (has_page pages (a / 4096) && not (has_page kept (a / 4096))))
    (λ a.
    one_page_kept (has_page pages (a / 4096)) (is_in r (a / 4096)) (has_page kept (a / 4096)) (or_in_segment beside (λ _. false) a) (same (a / 4096)) (shared a)
    ∙ sym (either_way beside (λ b. not (is_in r (b / 4096))) a))
    w.at w.size)

-- the harts' buffers are the plain machine's
module _ (beside : Option Neighbour) (pages kept : PageSpan) (r : PageRun) (waiting : ℕ → List Store) (xs : List HartState) (some : HartState)
    (same : (n : ℕ) → has_page pages n ≡ is_in r n) (shared : AreOfSegment beside kept) (harts : (k : ℕ) → k < length xs → (get_or xs k some).buffer ≡ waiting k)
  where
    abbrev waits : HartState → Bool
    waits x = list_any (lies_outside pages kept) x.buffer

    pub first_wait : (n : ℕ) → n ≤ length xs → list_any waits (take n xs) ≡ lies_waiting_on beside r waiting n
    first_wait zero few = refl
    first_wait (suc n) few =
        let lt : n < length xs = omega arith in
        let more : n + 1 ≡ suc n = omega arith in
        ap (λ k. list_any waits (take k xs)) (sym more)
        ∙ list_any_more waits xs n some lt
        ∙ or_comm (list_any waits (take n xs)) (waits (get_or xs n some))
        ∙ ap (λ b. b || list_any waits (take n xs)) (ap (list_any (lies_outside pages kept)) (harts n lt)
        ∙ ap (λ (test : Store → Bool). list_any test (waiting n)) (λ i w. lies_same beside pages kept r w same shared i))
        ∙ ap (λ b. list_any (lies_on beside r) (waiting n) || b) (first_wait n (omega arith))

-- whether a store waits on one of them
pub held_is : (v : Stand) (m : Parts) (pages kept : PageSpan) (r : PageRun) (some : HartState) → IsTied v.setting v.plain m → ((n : ℕ) → has_page pages n ≡ is_in r n)
    → AreOfSegment v.beside kept
    → list_any (λ (x : HartState). list_any (lies_outside pages kept) x.buffer) m.harts.items ≡ lies_waiting_on v.beside r v.plain.waiting v.setting.limits.harts
held_is v m pages kept r some tied same shared =
    ap (list_any (λ (x : HartState). list_any (lies_outside pages kept) x.buffer)) (sym (take-length m.harts.items))
    ∙ first_wait v.beside pages kept r v.plain.waiting m.harts.items some same shared (λ k lt. ap (λ (x : HartState). x.buffer)
    (hart_there v.setting v.plain m k (get_or m.harts.items k some) tied (omega (arith, tied.all_harts, lt)) (slice_get-get_or m.harts.items k some lt))) (length m.harts.items) (omega arith)
    ∙ ap (lies_waiting_on v.beside r v.plain.waiting) tied.all_harts

-- the gate of the next instruction is the place's
pub gate_is : (v : Stand) (h credit : ℕ) (x : HartState) (next : Next) (o r : Option Why) → x ≡ hart_at v.setting v.plain h credit → IsNextAt (here_at v h) next
    → o ≡ exec_refusal x next.effect (is_some next.fault)
    → ((t : ℕ) → runs (here_at v h) ≡ Some t → r ≡ option_or o (others_gate (is_held (here_at v h) t) next.effect))
    → ((o ≡ Some Idle) → r ≡ o) → r ≡ refusal_exec (here_at v h)
gate_is v h credit x next o r own is first then idle = go (runs (here_at v h)) refl
  where
    by_barrier : (a : Option ℕ) (one other : Option Why) → option_or (cond (is_some a) (Some InBarrier) one) other ≡ unless_in_barrier a (option_or one other)
    by_barrier None one other = refl
    by_barrier (Some left) one other = refl

    go : (u : Option ℕ) → runs (here_at v h) ≡ u → r ≡ refusal_exec (here_at v h)
    go None at =
        let none : o ≡ Some Idle = first ∙ rw (own, at) refl in
        idle none ∙ none ∙ rw at refl
    go (Some t) at =
        let effect : next.effect ≡ next_effect (here_at v h) t = is.effect ∙ rw at refl in
        let fault : next.fault ≡ next_fault (here_at v h) t = is.fault ∙ rw at refl in
        let gate : o ≡ cond (is_some (v.plain.awaits h)) (Some InBarrier) (instruction_gate (length (v.plain.waiting h)) (next_effect (here_at v h) t) (is_some (next_fault (here_at v h) t))) =
        first ∙ rw (own, at, effect, fault) refl in
        then t at ∙ rw (gate, effect, at)
        (by_barrier (v.plain.awaits h) (instruction_gate (length (v.plain.waiting h)) (next_effect (here_at v h) t) (is_some (next_fault (here_at v h) t)))
        (others_gate (is_held (here_at v h) t) (next_effect (here_at v h) t)))

-- where the process shares no segment no page is one of it
pub none_of_segment : AreOfSegment None (record { first = 0; count = 0 })
none_of_segment a = sym (and_right (nat_le 0 (a / 4096)) (nat_lt (a / 4096) 0) (le-ltb (a / 4096) 0 (omega arith)))
