use Rattle.std.proofs.Common.{◌≡◌, ℕ, ◌⊎◌, Option, Some, None, subst}
use Rattle.std.specs.Vec.{vec_capacity}
use Rattle.page_map.specs.Map.{Map, Page, page_in, permission_in}
use Rattle.page_map.specs.Starting.{StandsWith}
use Rattle.page_map.proofs.TakenPages.{placed-or-none}
use Rattle.page_map.proofs.Maps.{shown}
use Rattle.page_map.proofs.Standing.{shown-at}
use Rattle.page_map.proofs.map.PageMap.has_places.Goals as goal

pub returns-clause-placed : goal.returns-clause-placed
returns-clause-placed c =
    subst (λ (m : Map). (n : ℕ) → (page_in m n ≡ None) ⊎ ((i : ℕ) × (permission : ℕ) × StandsWith m.mapped i n permission)) c.self.view_is
    (placed-or-none (shown c.self.inside) (vec_capacity c.self.inside.mapped) c.self.invariant)

pub returns-clause-there : goal.returns-clause-there
returns-clause-there c =
    subst (λ (m : Map). (i n permission : ℕ) → StandsWith m.mapped i n permission → permission_in m n ≡ Some permission) c.self.view_is
    (λ i n permission at. shown-at (shown c.self.inside) (vec_capacity c.self.inside.mapped) c.self.invariant n i permission at)
