use Rattle.std.proofs.Common.{◌≡◌, ◌<◌, ◌∙◌, Bool, true, false, not, List, ℕ, Some, ap, arith, length, refl, slice_get}
use Rattle.std.proofs.lemmas.Bool.{OnTrue_from}
use Rattle.frame_pool.proofs.LaidOut.{held-bytes, held-within}
use Rattle.frame_pool.proofs.Shown.{mark-read, mark-within, shown-fresh}
use Rattle.frame_pool.specs.Layout.{bytes_shown}
use Rattle.frame_pool.specs.Pool.{fresh}
use Rattle.frame_pool.proofs.pool.FramePool.is_fresh.Goals as goal

not-true : (b : Bool) → not b ≡ true → b ≡ false
not-true true said = cc
not-true false said = refl

pub index-requires : goal.index-requires
index-requires c =
    let p = c.self.inside in
    let taken : c.args.frame.now < length p.taken.items = held-within c.self.view_is c.self.invariant.0 c.args.frame.now c.requires in
    let within : c.place.result < length p.written.items =
    mark-within p.written.items p.taken.items p.region.items c.place.result c.args.frame.now c.self.invariant.0.marks c.place.ensures taken in
    omega (arith, p.written.ok.0)

pub returns : goal.returns
returns c = OnTrue_from (not c.index.result.now) _ (λ said.
    let p = c.self.inside in
    let n = c.args.frame.now in
    let no : c.index.result.now ≡ false = not-true c.index.result.now said in
    let taken : n < length p.taken.items = held-within c.self.view_is c.self.invariant.0 n c.requires in
    let within : c.place.result < length p.written.items =
    mark-within p.written.items p.taken.items p.region.items c.place.result n c.self.invariant.0.marks c.place.ensures taken in
    let here : slice_get (bytes_shown p.written.items p.region.items) c.place.result ≡ Some fresh =
    shown-fresh p.written.items p.region.items c.place.result (mark-read p.written.items c.place.result c.index.result.now false within c.index.ensures no) in
    let place : c.place.result ≡ n = c.place.ensures in
    let there : slice_get (bytes_shown p.written.items p.region.items) n ≡ Some c.requires.0 = held-bytes c.self.view_is c.self.invariant.0 n c.requires in
    let same : c.requires.0 ≡ fresh = cc in
    c.requires.1 ∙ ap (λ (b : List ℕ). Some (Some b)) same)
