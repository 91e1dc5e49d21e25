use Rattle.std.proofs.Common.{◌∙◌, List, Option, Some, ℕ, ap, slice_set}
use Rattle.std.specs.Option.{option_copied}
use Rattle.std.proofs.lemmas.List.{set-set}
use Rattle.frame_pool.specs.Pool.{fresh}
use Rattle.page_map.specs.Map.{first_bytes}
use Rattle.page_map.proofs.map.filled.Goals as goal

pub returns-clause-taken : goal.returns-clause-taken
returns-clause-taken c =
    let bytes : List ℕ = first_bytes (option_copied c.args.bytes) in
    c.fill.ensures.filled
    ∙ ap (λ (p : List (Option (List ℕ))). slice_set p c.in-Some.frame (Some bytes)) c.in-Some.ensures.taken
    ∙ set-set c.args.pool.now c.in-Some.frame (Some fresh) (Some bytes)
