-- A draw leaves as many harts open as there were, so as many are open at each place as at the start; and where a hart can act an event is
-- drawn.
use Rattle.std.proofs.Common.{◌≡◌, ℕ, ◌<◌, ◌≤◌, Bool, true, false, cond, ltb, [], ◌∷◌, length, Option, Some, None, refl, sym, ◌∙◌, subst}
use Rattle.std.specs.Prelude.{IsSome}
use Rattle.std.specs.Option.{option_map}
use Rattle.std.proofs.lemmas.Bool.{false≢true}
use Rattle.chooser.specs.Generators.{first_generator}
use Rattle.drawings.specs.Drawings.{Drawn, draw, kept_after}
use Rattle.drawings.specs.Scenes.{Scene}
use Rattle.drawings.specs.Starts.{first_open}
use Rattle.drawings.specs.declared.drawing.Drawing.{Drawing}
use Rattle.drawings.proofs.Laws.{ByTurn, IsDrawnBy, OnCredit, draw-comes, draw-shape}
use Rattle.block_model.specs.Choosing.{has_ended}
use Rattle.block_model.specs.History.{History}
use Rattle.block_model.specs.Setting.{Setting}
use Rattle.drawn_runs.specs.declared.manner.Manner.{Manner}
use Rattle.drawn_runs.specs.DrawnRuns.{drawing_at, drawn_at, drawn_entry, entry_of, first_drawing, scene_at}
use Rattle.drawn_runs.proofs.Able.{SomeAble}
use Rattle.drawn_runs.proofs.Allowed.{drawing_is_for, opened_within}

-- whatever is drawn
shape_keeps : (scene : Scene) (d : Drawing) (x : Drawn) → IsDrawnBy scene d x → x.after.opened ≡ d.opened
shape_keeps scene d x (OnCredit goes) = refl
shape_keeps scene d x (ByTurn h w t e) = refl

kept_opened : (scene : Scene) (d : Drawing) (o : Option Drawn) → draw scene d ≡ o → (kept_after o d).opened ≡ d.opened
kept_opened scene d None e = refl
kept_opened scene d (Some x) e = shape_keeps scene d x (draw-shape scene d x e)

draw_keeps : (scene : Scene) (d : Drawing) → (kept_after (draw scene d) d).opened ≡ d.opened
draw_keeps scene d = kept_opened scene d (draw scene d) refl

-- so at each place
opened_either : (b : Bool) (x y : Drawing) (n : ℕ) → x.opened ≡ n → y.opened ≡ n → (cond b x y).opened ≡ n
opened_either true x y n p q = p
opened_either false x y n p q = q

opened_at : (s : Setting) (m : Manner) (before : History)
    → (drawing_at s m before).opened ≡ first_open m.policy s.limits.harts (first_generator m.seed 0)
opened_at s m [] = refl
opened_at s m (e ∷ before) =
    let scene = scene_at s before in
    let d = drawing_at s m before in
    opened_either (ltb (length before) m.scripted) (first_drawing s m) (kept_after (draw scene d) d)
    (first_open m.policy s.limits.harts (first_generator m.seed 0)) refl (draw_keeps scene d ∙ opened_at s m before)

pub opened_of_machine : (s : Setting) (m : Manner) (before : History) → 0 < s.limits.harts
    → (drawing_at s m before).opened ≤ s.limits.harts
opened_of_machine s m before some =
    subst (λ (n : ℕ). n ≤ s.limits.harts) (sym (opened_at s m before))
    (opened_within m.policy s.limits.harts (first_generator m.seed 0) some)

-- where a hart can act the run has an event that is drawn
comes_by : (s : Setting) (before : History) (over : Bool) (o : Option Drawn) → over ≡ false → IsSome o
    → IsSome (option_map (entry_of s before) (cond over None o))
comes_by s before true o goes some = absurd (false≢true (sym goes))
comes_by s before false None goes some = absurd (false≢true some)
comes_by s before false (Some x) goes some = refl

pub entry_comes : (s : Setting) (m : Manner) (before : History) → 0 < s.limits.harts → s.limits.harts ≤ 8
    → has_ended s before ≡ false → SomeAble s before (drawing_at s m before).opened → IsSome (drawn_entry s m before)
unfolding drawn_entry drawn_at
entry_comes s m before some few goes able =
    let scene = scene_at s before in
    let d = drawing_at s m before in
    comes_by s before (has_ended s before) (draw scene d) goes
    (draw-comes scene d able.hart (drawing_is_for s m before some few) able.lt able.able)
