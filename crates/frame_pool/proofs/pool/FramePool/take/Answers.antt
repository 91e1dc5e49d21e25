use Rattle.std.proofs.Common.{◌≡◌, ◌+◌, ◌<◌, ◌≤◌, Bool, false, true, is_ok, length, slice_get, refl, sym, ap, ◌∙◌, ◌++◌, ◌∷◌, [], List, ℕ, subst, arith, length-append}
use Rattle.std.specs.Vec.{vec_capacity}
use Rattle.std.proofs.lemmas.List.{nil_from_length}
use Rattle.frame_pool.proofs.LaidOut.{free_count-is, last-counted, last-free, last-within, next-free, next-laid, next-shown, taken-laid, taken-shown}
use Rattle.frame_pool.proofs.Shown.{length-shown, shown-cleared, shown-more, stored-cleared, stored-more}
use Rattle.frame_pool.specs.Layout.{AreStored, bytes_shown}
use Rattle.frame_pool.specs.Pool.{free_count, fresh}
use Rattle.frame_pool.proofs.pool.FramePool.take.Goals as goal

pub index_mut-requires : goal.index_mut-requires
index_mut-requires c =
    let p = c.self.inside in
    let within : c.in-Some.number < length p.taken.items =
    last-within c.self.view_is c.self.invariant.0 c.pop.new.self.items c.in-Some.number c.in-Some.ensures.items in
    omega (arith, p.taken.ok.0)

pub index_mut-requires-in-Some : goal.index_mut-requires-in-Some
index_mut-requires-in-Some c =
    let p = c.self.inside in
    let within : c.in-Some.number < length p.taken.items =
    last-within c.self.view_is c.self.invariant.0 c.pop.new.self.items c.in-Some.number c.in-Some.ensures.items in
    let marks : length (bytes_shown p.written.items p.region.items) ≡ length p.taken.items = c.self.invariant.0.marks in
    omega (arith, p.written.ok.0, length-shown p.written.items p.region.items)

pub invariant_of-self : goal.invariant_of-self
invariant_of-self c =
    let p = c.self.inside in
    let n = c.in-Some.number in
    let enough : p.frames ≤ vec_capacity p.free = c.self.invariant.1.stack in (
      rw (shown-cleared p.written.items p.region.items n)
          (taken-laid c.self.view_is c.self.invariant.0 c.pop.new.self.items n c.in-Some.ensures.items fresh),
      record {
        bytes = c.self.invariant.1.bytes;
        written = c.self.invariant.1.written;
        marks = c.self.invariant.1.marks;
        stack = omega (arith, c.in-Some.ensures.capacity);
      },
      stored-cleared p.written.items p.region.items n c.self.invariant.2,
    )

pub returns-in-Some-clause-none : goal.returns-in-Some-clause-none
returns-in-Some-clause-none c =
    let some : 0 < free_count c.args.self.now =
    last-counted c.self.view_is c.self.invariant.0 c.pop.new.self.items c.in-Some.number c.in-Some.ensures.items in
    (λ wrong. cc, λ none. absurd (omega arith))

pub returns-in-Some-clause-was_free : goal.returns-in-Some-clause-was_free
returns-in-Some-clause-was_free c =
    ap (λ k. slice_get c.args.self.now k) c.new.ensures
    ∙ last-free c.self.view_is c.self.invariant.0 c.pop.new.self.items c.in-Some.number c.in-Some.ensures.items

pub returns-in-Some-clause-taken : goal.returns-in-Some-clause-taken
returns-in-Some-clause-taken c =
    let p = c.self.inside in
    let n = c.in-Some.number in
    rw (shown-cleared p.written.items p.region.items n)
    (taken-shown c.self.view_is c.self.invariant.0 c.pop.new.self.items n c.in-Some.ensures.items c.new.result
    fresh fresh (sym c.new.ensures) refl)

pub returns-then-number-self-clause-none : goal.returns-then-number-self-clause-none
returns-then-number-self-clause-none c =
    let p = c.self.inside in
    let counted = free_count-is c.self.view_is c.self.invariant.0 in (
      λ _. omega (arith, p.free.ok.0, p.taken.ok.0, c.self.invariant.0.marks, c.in_default.ensures.cases.0, c.len-number.ensures),
      λ _. refl,
    )

pub invariant_of-self-2 : goal.invariant_of-self-2
invariant_of-self-2 c =
    let p = c.self.inside in
    let shown : List (List ℕ) = bytes_shown p.written.items p.region.items in
    let marks : length shown ≡ length p.taken.items = c.self.invariant.0.marks in
    let within : length shown ≤ p.frames = c.self.invariant.0.within in
    let more : length shown < p.frames = omega (arith, p.taken.ok.0, c.len-number.ensures) in
    let none : length p.free.items ≡ 0 = omega (arith, p.free.ok.0, c.in_default.ensures.cases.0) in
    let still : length c.pop.new.self.items ≡ 0 = omega (arith, c.pop.new.self.ok.0, c.in_default.ensures.cases.1) in
    let fits : p.frames ≤ vec_capacity p.taken = c.self.invariant.1.marks in
    let roomy : p.frames ≤ vec_capacity p.free = c.self.invariant.1.stack in
    let ok : is_ok c.push.result ≡ true = c.push.ensures.succeeds (omega (arith, p.taken.ok.0)) in
    let marked = rw ok at c.push.ensures.items in
    let unwritten : p.frames ≤ vec_capacity p.written = c.self.invariant.1.written in
    let well : is_ok c.push-2.result ≡ true = c.push-2.ensures.succeeds (omega (arith, p.written.ok.0, length-shown p.written.items p.region.items)) in
    let unmarked = rw well at c.push-2.ensures.items in
    let pushed : bytes_shown c.push-2.new.self.items p.region.items ≡ shown ++ fresh ∷ [] =
    ap (λ (ws : List Bool). bytes_shown ws p.region.items) unmarked ∙ shown-more p.written.items p.region.items in (
      next-laid c.self.view_is c.self.invariant.0 (nil_from_length p.free.items none) more fresh
          (bytes_shown c.push-2.new.self.items p.region.items) c.push.new.self.items pushed marked c.pop.new.self.items
          (nil_from_length c.pop.new.self.items still),
      record {
        bytes = c.self.invariant.1.bytes;
        written = omega (arith, c.push-2.ensures.capacity);
        marks = omega (arith, c.push.ensures.capacity);
        stack = omega (arith, c.in_default.ensures.capacity);
      },
      subst (λ (ws : List Bool). AreStored ws p.region.items) (sym unmarked) (stored-more p.written.items p.region.items c.self.invariant.2),
    )

pub returns-clause-was_free : goal.returns-clause-was_free
returns-clause-was_free c =
    let p = c.self.inside in
    let shown : List (List ℕ) = bytes_shown p.written.items p.region.items in
    let marks : length shown ≡ length p.taken.items = c.self.invariant.0.marks in
    let within : length shown ≤ p.frames = c.self.invariant.0.within in
    let place : c.new-2.result ≡ length shown = c.new-2.ensures ∙ c.len-number.ensures ∙ p.taken.ok.0 ∙ sym marks in
    let more : length shown < p.frames = omega (arith, p.taken.ok.0, c.len-number.ensures) in
    let none : length p.free.items ≡ 0 = omega (arith, p.free.ok.0, c.in_default.ensures.cases.0) in
    ap (λ k. slice_get c.args.self.now k) place ∙ next-free c.self.view_is c.self.invariant.0 (nil_from_length p.free.items none) more

pub returns-clause-taken : goal.returns-clause-taken
returns-clause-taken c =
    let p = c.self.inside in
    let shown : List (List ℕ) = bytes_shown p.written.items p.region.items in
    let marks : length shown ≡ length p.taken.items = c.self.invariant.0.marks in
    let within : length shown ≤ p.frames = c.self.invariant.0.within in
    let place : c.new-2.result ≡ length shown = c.new-2.ensures ∙ c.len-number.ensures ∙ p.taken.ok.0 ∙ sym marks in
    let more : length shown < p.frames = omega (arith, p.taken.ok.0, c.len-number.ensures) in
    let none : length p.free.items ≡ 0 = omega (arith, p.free.ok.0, c.in_default.ensures.cases.0) in
    let fits : p.frames ≤ vec_capacity p.taken = c.self.invariant.1.marks in
    let ok : is_ok c.push.result ≡ true = c.push.ensures.succeeds (omega (arith, p.taken.ok.0)) in
    let marked = rw ok at c.push.ensures.items in
    let unwritten : p.frames ≤ vec_capacity p.written = c.self.invariant.1.written in
    let well : is_ok c.push-2.result ≡ true = c.push-2.ensures.succeeds (omega (arith, p.written.ok.0, length-shown p.written.items p.region.items)) in
    let unmarked = rw well at c.push-2.ensures.items in
    let pushed : bytes_shown c.push-2.new.self.items p.region.items ≡ shown ++ fresh ∷ [] =
    ap (λ (ws : List Bool). bytes_shown ws p.region.items) unmarked ∙ shown-more p.written.items p.region.items in
    next-shown c.self.view_is c.self.invariant.0 (nil_from_length p.free.items none) more fresh
    (bytes_shown c.push-2.new.self.items p.region.items) c.push.new.self.items pushed marked c.new-2.result fresh (sym place) refl
