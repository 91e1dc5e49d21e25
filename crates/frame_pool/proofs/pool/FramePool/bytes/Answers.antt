use Rattle.std.proofs.Common.{◌≡◌, ◌<◌, ◌∙◌, true, false, List, ℕ, Some, ap, arith, length, slice_get, sym}
use Rattle.frame_pool.proofs.Fresh.{length-fresh}
use Rattle.frame_pool.proofs.LaidOut.{held-bytes, held-read, held-within}
use Rattle.frame_pool.proofs.Shown.{mark-read, mark-within, shown-fresh, shown-read}
use Rattle.frame_pool.specs.Layout.{bytes_shown}
use Rattle.frame_pool.specs.Pool.{fresh}
use Rattle.frame_pool.proofs.pool.FramePool.bytes.Goals as goal

pub index-requires : goal.index-requires
index-requires c =
    let p = c.self.inside in
    let taken : c.args.frame.now < length p.taken.items = held-within c.self.view_is c.self.invariant.0 c.args.frame.now c.requires in
    let within : c.place-place.result < length p.written.items =
    mark-within p.written.items p.taken.items p.region.items c.place-place.result c.args.frame.now c.self.invariant.0.marks c.place-place.ensures taken in
    omega (arith, p.written.ok.0)

pub index-requires-then-index : goal.index-requires-then-index
index-requires-then-index c =
    let p = c.self.inside in
    let taken : c.args.frame.now < length p.taken.items = held-within c.self.view_is c.self.invariant.0 c.args.frame.now c.requires in
    let within : c.place-place.result < length p.written.items =
    mark-within p.written.items p.taken.items p.region.items c.place-place.result c.args.frame.now c.self.invariant.0.marks c.place-place.ensures taken in
    let marked : slice_get p.written.items c.place-place.result ≡ Some true =
    mark-read p.written.items c.place-place.result c.index.result.now true within c.index.ensures c.if-index.true in
    let there : c.place-place.result < length p.region.items = c.self.invariant.2 c.place-place.result marked in
    omega (arith, p.region.ok.0)

pub returns-then-index-clause-bytes : goal.returns-then-index-clause-bytes
returns-then-index-clause-bytes c =
    let p = c.self.inside in
    let taken : c.args.frame.now < length p.taken.items = held-within c.self.view_is c.self.invariant.0 c.args.frame.now c.requires in
    let within : c.place-place.result < length p.written.items =
    mark-within p.written.items p.taken.items p.region.items c.place-place.result c.args.frame.now c.self.invariant.0.marks c.place-place.ensures taken in
    let marked : slice_get p.written.items c.place-place.result ≡ Some true =
    mark-read p.written.items c.place-place.result c.index.result.now true within c.index.ensures c.if-index.true in
    let there : c.place-place.result < length p.region.items = c.self.invariant.2 c.place-place.result marked in
    held-read c.self.view_is c.self.invariant.0 c.args.frame.now c.requires c.place-place.result c.index-then-index.result.now c.place-place.ensures
    (shown-read p.written.items p.region.items c.place-place.result c.index-then-index.result.now marked there c.index-then-index.ensures)

pub returns-else-index-clause-bytes : goal.returns-else-index-clause-bytes
returns-else-index-clause-bytes c =
    let p = c.self.inside in
    let n = c.args.frame.now in
    let taken : n < length p.taken.items = held-within c.self.view_is c.self.invariant.0 n c.requires in
    let within : c.place-place.result < length p.written.items =
    mark-within p.written.items p.taken.items p.region.items c.place-place.result n c.self.invariant.0.marks c.place-place.ensures taken in
    let marked : slice_get p.written.items c.place-place.result ≡ Some false =
    mark-read p.written.items c.place-place.result c.index.result.now false within c.index.ensures c.if-index.false in
    let place : c.place-place.result ≡ n = c.place-place.ensures in
    let here : slice_get (bytes_shown p.written.items p.region.items) c.place-place.result ≡ Some fresh =
    shown-fresh p.written.items p.region.items c.place-place.result marked in
    let there : slice_get (bytes_shown p.written.items p.region.items) n ≡ Some c.requires.0 = held-bytes c.self.view_is c.self.invariant.0 n c.requires in
    let same : c.requires.0 ≡ fresh = cc in
    c.requires.1 ∙ ap (λ (b : List ℕ). Some (Some b)) (same ∙ sym c.no_bytes.ensures)

pub returns-else-index-clause-size : goal.returns-else-index-clause-size
returns-else-index-clause-size c = ap length c.no_bytes.ensures ∙ length-fresh
