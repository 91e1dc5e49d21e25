-- What a drawn event is: the last hart goes on by its credit, or a hart has its turn by a word.
use Rattle.std.proofs.Common.{◌≡◌, ℕ, Bool, true, false, cond, Option, Some, None, refl, subst}
use Rattle.std.specs.Option.{option_and_then, option_map}
use Rattle.draw_policies.specs.declared.turns.Turn.{Turn}
use Rattle.drawings.specs.Drawings.{Drawn, after_word, draw, drawn_by_word, drawn_of, goes_on, hart_by_word, next_word, on_credit, settled_for, turn_at}
use Rattle.drawings.specs.Scenes.{Scene}
use Rattle.drawings.specs.declared.drawing.Drawing.{Drawing}

pub data IsDrawnBy (scene : Scene) (d : Drawing) : Drawn → Type 0 where
  OnCredit : goes_on scene d ≡ true → IsDrawnBy scene d (on_credit d)
  ByTurn : (h w : ℕ) (t : Turn) → turn_at scene d h w ≡ Some t
      → IsDrawnBy scene d (drawn_of h (after_word h w (settled_for h scene d)) t)

abbrev IsDrawnIf : Scene → Drawing → Option Drawn → Type 0
IsDrawnIf scene d None = Unit {0}
IsDrawnIf scene d (Some x) = IsDrawnBy scene d x

by_turn : (scene : Scene) (d : Drawing) (h w : ℕ) (o : Option Turn) → turn_at scene d h w ≡ o
    → IsDrawnIf scene d (option_map (drawn_of h (after_word h w (settled_for h scene d))) o)
by_turn scene d h w None e = tt
by_turn scene d h w (Some t) e = ByTurn h w t e

by_word : (scene : Scene) (d : Drawing) (w : ℕ) (o : Option ℕ)
    → IsDrawnIf scene d
    (option_and_then (λ h. option_map (drawn_of h (after_word h w (settled_for h scene d))) (turn_at scene d h w)) o)
by_word scene d w None = tt
by_word scene d w (Some h) = by_turn scene d h w (turn_at scene d h w) refl

by_any : (scene : Scene) (d : Drawing) (credit : Bool) → goes_on scene d ≡ credit
    → IsDrawnIf scene d (cond credit (Some (on_credit d)) (drawn_by_word scene d))
by_any scene d true is = OnCredit is
by_any scene d false is = by_word scene d (next_word d) (hart_by_word scene d (next_word d))

pub draw-shape : (scene : Scene) (d : Drawing) (x : Drawn) → draw scene d ≡ Some x → IsDrawnBy scene d x
unfolding draw
draw-shape scene d x e = subst (λ (o : Option Drawn). IsDrawnIf scene d o) e (by_any scene d (goes_on scene d) refl)
