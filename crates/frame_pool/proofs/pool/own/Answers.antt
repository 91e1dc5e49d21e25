use Rattle.std.proofs.Common.{◌≡◌, ◌+◌, ◌<◌, ◌≤◌, ◌∙◌, List, ℕ, Bool, true, false, Some, ap, arith, length, slice_get, slice_set}
use Rattle.std.proofs.lemmas.List.{length-set}
use Rattle.frame_pool.proofs.Places.{slice_get-set_same, slice_set-same}
use Rattle.frame_pool.proofs.Shown.{mark-read, shown-fresh, shown-reached, shown-written, stored-marked}
use Rattle.frame_pool.proofs.Zeros.{with_zeros-least}
use Rattle.frame_pool.specs.Layout.{bytes_shown, with_zeros}
use Rattle.frame_pool.specs.Pool.{fresh}
use Rattle.frame_pool.proofs.pool.own.Goals as goal

pub returns-clause-shown : goal.returns-clause-shown
returns-clause-shown c =
    let unmarked : slice_get c.args.written.now.items c.args.place ≡ Some false =
    mark-read c.args.written.now.items c.args.place c.index.result.now false c.requires.within c.index.ensures c.if-index.false in
    let written : List Bool = c.args.written.now.items in
    let region : List (List ℕ) = c.args.region.now.items in
    let place : ℕ = c.args.place in
    let reached : List (List ℕ) = with_zeros (place + 1) region in
    let within : place < length reached = let least = with_zeros-least (place + 1) region in omega arith in
    ap (bytes_shown (slice_set written place true)) c.clear.ensures.items
    ∙ shown-written written reached place fresh within
    ∙ ap (λ (shown : List (List ℕ)). slice_set shown place fresh) (shown-reached written region (place + 1))
    ∙ slice_set-same (bytes_shown written region) place fresh (shown-fresh written region place unmarked)

pub returns-clause-stored : goal.returns-clause-stored
returns-clause-stored c =
    let written : List Bool = c.args.written.now.items in
    let region : List (List ℕ) = c.args.region.now.items in
    let after : List (List ℕ) = c.clear.new.region.items in
    let least = with_zeros-least (c.args.place + 1) region in
    let size : length after ≡ length (with_zeros (c.args.place + 1) region) =
    ap length c.clear.ensures.items ∙ length-set (with_zeros (c.args.place + 1) region) c.args.place fresh in
    stored-marked written region after c.args.place c.requires.stored (omega arith) (omega arith)

pub returns-clause-marked : goal.returns-clause-marked
returns-clause-marked c =
    let unmarked : slice_get c.args.written.now.items c.args.place ≡ Some false =
    mark-read c.args.written.now.items c.args.place c.index.result.now false c.requires.within c.index.ensures c.if-index.false in
    slice_get-set_same c.args.written.now.items c.args.place false true unmarked
