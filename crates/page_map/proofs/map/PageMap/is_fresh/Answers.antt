use Rattle.std.proofs.Common.{◌≡◌, ◌∙◌, List, Option, Some, ℕ, ap, slice_get, sym}
use Rattle.std.specs.Option.{option_map}
use Rattle.std.proofs.lemmas.Bool.{OnTrue_at, OnTrue_from}
use Rattle.frame_pool.specs.Pool.{fresh}
use Rattle.page_map.specs.Map.{Map, Page, frame_bytes}
use Rattle.page_map.proofs.map.PageMap.is_fresh.Goals as goal

pub returns-in-Some : goal.returns-in-Some
unfolding fresh
returns-in-Some c = OnTrue_from c.is_fresh.result _ (λ yes.
    ap (option_map (λ (p : Page). p.bytes)) (sym c.in-Some.ensures.page)
    ∙ ap (λ (m : Map). let o : Option (List ℕ) = Some (frame_bytes (slice_get m.pool c.in-Some.page.now.frame)) in o) (sym c.self.view_is)
    ∙ ap (λ (f : Option (Option (List ℕ))). Some (frame_bytes f)) (OnTrue_at yes c.is_fresh.ensures))
