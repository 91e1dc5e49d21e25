-- What holds of drawn events: each is of a hart of the machine, and is allowed by what is seen of it.
use Rattle.std.specs.Prelude.{ℕ, ◌<◌}
use Rattle.draw_policies.specs.Conditions.{IsAllowed, IsSettled}
use Rattle.drawings.specs.Drawings.{Drawn}
use Rattle.drawings.specs.Scenes.{Scene, startable}

-- no store waits on an idle hart, nor on one whose thread waits in a barrier
abbrev pub AreSettled : Scene → Type 0
AreSettled scene = (h : ℕ) → h < scene.harts → IsSettled (scene.sight h)

-- an event that is allowed, where the first so many harts are open
pub record IsAllowedOf (scene : Scene) (opened : ℕ) (x : Drawn) : Type 0 where
  pub within : x.hart < scene.harts
  pub allowed : IsAllowed (scene.sight x.hart) (startable opened x.hart scene.scheduling) x.choice
