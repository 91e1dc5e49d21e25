use Rattle.std.proofs.Common.{◌≡◌, ◌∙◌, ◌+◌, ◌<◌, ◌≤◌, List, ℕ, length, arith, ap}
use Rattle.std.specs.Vec.{vec_capacity}
use Rattle.std.proofs.lemmas.List.{length-set}
use Rattle.frame_pool.specs.Layout.{bytes_shown}
use Rattle.frame_pool.proofs.LaidOut.{held-within, held-written}
use Rattle.frame_pool.proofs.Shown.{filled-set, filled-stored, mark-within}
use Rattle.frame_pool.proofs.Zeros.{with_zeros-least}
use Rattle.frame_pool.proofs.pool.FramePool.fill.Goals as goal

pub reach-requires : goal.reach-requires
reach-requires c =
    let p = c.self.inside in
    let taken : c.args.frame.now < length p.taken.items = held-within c.self.view_is c.self.invariant.0 c.args.frame.now c.requires.taken in
    let marks : length (bytes_shown p.written.items p.region.items) ≡ length p.taken.items = c.self.invariant.0.marks in
    let few : length (bytes_shown p.written.items p.region.items) ≤ p.frames = c.self.invariant.0.within in
    let enough : p.frames ≤ vec_capacity p.region = c.self.invariant.1.bytes in
    omega (arith, c.place-place.ensures)

pub index_mut-requires : goal.index_mut-requires
index_mut-requires c =
    let p = c.self.inside in
    let least = with_zeros-least (c.place-place.result + 1) p.region.items in
    omega (arith, c.reach.new.region.ok.0, ap length c.reach.ensures.items)

pub index_mut-requires-2 : goal.index_mut-requires-2
index_mut-requires-2 c =
    let p = c.self.inside in
    let taken : c.args.frame.now < length p.taken.items = held-within c.self.view_is c.self.invariant.0 c.args.frame.now c.requires.taken in
    let within : c.place-place.result < length p.written.items =
    mark-within p.written.items p.taken.items p.region.items c.place-place.result c.args.frame.now c.self.invariant.0.marks c.place-place.ensures taken in
    omega (arith, p.written.ok.0)

pub invariant_of-self : goal.invariant_of-self
invariant_of-self c =
    let p = c.self.inside in
    let at = c.place-place.result in
    let shown : List (List ℕ) = bytes_shown p.written.items p.region.items in
    let after = c.reach.new.region.items in
    let bytes : List ℕ = c.args.bytes.now in
    let enough : p.frames ≤ vec_capacity p.region = c.self.invariant.1.bytes in (
      rw (c.copy_from_slice.ensures.after, filled-set p.written.items p.region.items after at c.reach.ensures.items bytes) (record {
        marks = length-set shown at bytes ∙ c.self.invariant.0.marks;
        within = rw (length-set shown at bytes) c.self.invariant.0.within;
        numbers = c.self.invariant.0.numbers;
        stack = c.self.invariant.0.stack;
      }),
      record {
        bytes = omega (arith, c.reach.ensures.capacity);
        written = c.self.invariant.1.written;
        marks = c.self.invariant.1.marks;
        stack = c.self.invariant.1.stack;
      },
      filled-stored p.written.items p.region.items after at c.reach.ensures.items _ c.self.invariant.2,
    )

pub returns : goal.returns
returns c =
    let p = c.self.inside in
    let n = c.args.frame.now in
    rw (c.copy_from_slice.ensures.after, filled-set p.written.items p.region.items c.reach.new.region.items c.place-place.result c.reach.ensures.items c.args.bytes.now)
    (held-written c.self.view_is c.self.invariant.0 n c.requires.taken c.place-place.result c.args.bytes.now c.place-place.ensures)
