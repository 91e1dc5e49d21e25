use Rattle.std.proofs.Common.{◌≡◌, ◌∙◌, List, Option, Some, None, ℕ, ap, get_or, slice_set, sym}
use Rattle.std.proofs.lemmas.List.{set-get_or}
use Rattle.std.proofs.lemmas.Option.{get_or_from_slice_get}
use Rattle.frame_pool.specs.Pool.{fresh}
use Rattle.page_map.proofs.map.fill.Goals as goal

pub write_whole-requires-clause-taken : goal.write_whole-requires-clause-taken
write_whole-requires-clause-taken c = (fresh, c.requires.zero)

pub returns-in-None-clause-filled : goal.returns-in-None-clause-filled
returns-in-None-clause-filled c =
    let pool = c.args.pool.now in
    let n = c.args.frame.now in
    let zero : get_or pool n None ≡ Some fresh = get_or_from_slice_get pool n (Some fresh) None c.requires.zero in
    rw c.in-None.is (sym (ap (λ (f : Option (List ℕ)). slice_set pool n f) (sym zero) ∙ set-get_or pool n None))
