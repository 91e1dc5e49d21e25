use Rattle.std.proofs.Common.{◌≡◌, ◌∙◌, ◌<◌, List, ℕ, length, arith}
use Rattle.std.proofs.lemmas.List.{length-set}
use Rattle.frame_pool.specs.Layout.{bytes_shown}
use Rattle.frame_pool.specs.Pool.{fresh}
use Rattle.frame_pool.proofs.LaidOut.{held-within, held-written}
use Rattle.frame_pool.proofs.Shown.{mark-within, shown-cleared, stored-cleared}
use Rattle.frame_pool.proofs.pool.FramePool.zero_frame.Goals as goal

pub index_mut-requires : goal.index_mut-requires
index_mut-requires c =
    let p = c.self.inside in
    let taken : c.args.frame.now < length p.taken.items = held-within c.self.view_is c.self.invariant.0 c.args.frame.now c.requires in
    let within : c.place-place.result < length p.written.items =
    mark-within p.written.items p.taken.items p.region.items c.place-place.result c.args.frame.now c.self.invariant.0.marks c.place-place.ensures taken in
    omega (arith, p.written.ok.0)

pub invariant_of-self : goal.invariant_of-self
invariant_of-self c =
    let p = c.self.inside in
    let at = c.place-place.result in
    let shown : List (List ℕ) = bytes_shown p.written.items p.region.items in (
      rw (shown-cleared p.written.items p.region.items at) (record {
        marks = length-set shown at fresh ∙ c.self.invariant.0.marks;
        within = rw (length-set shown at fresh) c.self.invariant.0.within;
        numbers = c.self.invariant.0.numbers;
        stack = c.self.invariant.0.stack;
      }),
      record {
        bytes = c.self.invariant.1.bytes;
        written = c.self.invariant.1.written;
        marks = c.self.invariant.1.marks;
        stack = c.self.invariant.1.stack;
      },
      stored-cleared p.written.items p.region.items at c.self.invariant.2,
    )

pub returns : goal.returns
returns c =
    let p = c.self.inside in
    let n = c.args.frame.now in
    rw (shown-cleared p.written.items p.region.items c.place-place.result)
    (held-written c.self.view_is c.self.invariant.0 n c.requires c.place-place.result fresh c.place-place.ensures)
