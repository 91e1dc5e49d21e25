use Rattle.std.proofs.Common.{◌≡◌, ◌<◌, ◌≤◌, List, ℕ, Option, Some, length, slice_get, refl, sym, ap, arith, ◌∙◌}
use Rattle.std.specs.Vec.{vec_capacity}
use Rattle.std.proofs.lemmas.List.{length-set}
use Rattle.frame_pool.specs.Layout.{bytes_shown}
use Rattle.frame_pool.proofs.LaidOut.{held-read, held-size, held-within, held-written}
use Rattle.frame_pool.proofs.Shown.{mark-within, owned-inside, owned-read, owned-set}
use Rattle.frame_pool.proofs.pool.FramePool.bytes_mut.Goals as goal

pub own-requires : goal.own-requires
own-requires c =
    let p = c.self.inside in
    let taken : c.args.frame.now < length p.taken.items = held-within c.self.view_is c.self.invariant.0 c.args.frame.now c.requires in
    let marks : length (bytes_shown p.written.items p.region.items) ≡ length p.taken.items = c.self.invariant.0.marks in
    let few : length (bytes_shown p.written.items p.region.items) ≤ p.frames = c.self.invariant.0.within in
    let enough : p.frames ≤ vec_capacity p.region = c.self.invariant.1.bytes in
    record {
      within = mark-within p.written.items p.taken.items p.region.items c.place-place.result c.args.frame.now marks c.place-place.ensures taken;
      room = omega (arith, c.place-place.ensures);
      stored = c.self.invariant.2;
    }

pub index_mut-requires : goal.index_mut-requires
index_mut-requires c =
    let p = c.self.inside in
    let there : c.place-place.result < length c.own.new.region.items =
    owned-inside p.written.items c.own.new.written.items p.region.items c.own.new.region.items c.place-place.result c.own.ensures.shown c.own.ensures.stored c.own.ensures.marked in
    omega (arith, c.own.new.region.ok.0)

pub invariant_of-self-lent : goal.invariant_of-self-lent
invariant_of-self-lent c w =
    let p = c.self.inside in
    let at = c.place-place.result in
    let shown : List (List ℕ) = bytes_shown p.written.items p.region.items in
    let after = c.own.new.region.items in
    let enough : p.frames ≤ vec_capacity p.region = c.self.invariant.1.bytes in
    let room : p.frames ≤ vec_capacity p.written = c.self.invariant.1.written in (
      rw (owned-set p.written.items c.own.new.written.items p.region.items after at c.own.ensures.shown c.own.ensures.stored c.own.ensures.marked w) (record {
        marks = length-set shown at w ∙ c.self.invariant.0.marks;
        within = rw (length-set shown at w) c.self.invariant.0.within;
        numbers = c.self.invariant.0.numbers;
        stack = c.self.invariant.0.stack;
      }),
      record {
        bytes = omega (arith, c.own.ensures.capacity);
        written = omega (arith, c.own.ensures.marks);
        marks = c.self.invariant.1.marks;
        stack = c.self.invariant.1.stack;
      },
      λ m mark. rw (length-set after at w) (c.own.ensures.stored m mark),
    )

pub returns : goal.returns
returns c =
    let p = c.self.inside in
    let pool = c.args.self.now in
    let n = c.args.frame.now in
    let at = c.place-place.result in
    let after = c.own.new.region.items in
    let before : slice_get pool n ≡ Some (Some c.bytes.result.now) =
    ap (λ (p : List (Option (List ℕ))). slice_get p n) (sym c.self.view_is) ∙ c.bytes.ensures.bytes in
    let read =
    owned-read p.written.items c.own.new.written.items p.region.items after at c.own.ensures.shown c.own.ensures.stored c.own.ensures.marked
    c.index_mut.result.now c.index_mut.ensures.value in
    let shown : slice_get pool n ≡ Some (Some c.as_mut_slice.result.now) =
    rw c.as_mut_slice.ensures.value
    (held-read c.self.view_is c.self.invariant.0 n c.requires at c.index_mut.result.now c.place-place.ensures read) in (
      (
        refl,
        λ w.
            rw (owned-set p.written.items c.own.new.written.items p.region.items after at c.own.ensures.shown c.own.ensures.stored c.own.ensures.marked w)
            (held-written c.self.view_is c.self.invariant.0 n c.requires at w c.place-place.ensures),
      ),
      record {
        writes_back = tt;
        bytes = shown;
        size = held-size pool n c.bytes.result.now c.as_mut_slice.result.now before shown c.bytes.ensures.size;
      },
    )
