-- A hart that means to let a signal be delivered, where one can be, does so next, once no store of it waits; and it means so behind each
-- event by which it goes to its kernel.
use Rattle.std.proofs.Common.{◌≡◌, inl, inr, ℕ, ◌<◌, Bool, true, false, not, ◌&&◌, cond, eqb, ltb, get_or, set, List, length, Option, Some, None, refl, sym, ap, ◌∙◌, subst}
use Rattle.std.specs.Prelude.{is_none}
use Rattle.std.proofs.lemmas.Bool.{and_parts, cases_eq, false≢true}
use Rattle.std.proofs.lemmas.List.{get_or-set_other, get_or-set_same, length-set}
use Rattle.mach_types.specs.declared.events.Choice.TheVariants as asked
use Rattle.chooser.specs.Cases.{emptied_before}
use Rattle.draw_policies.specs.Aims.{still_due}
use Rattle.draw_policies.specs.OwnSignals.{IsDeliverable, comes_back}
use Rattle.draw_policies.specs.Turns.{turn}
use Rattle.draw_policies.specs.declared.aims.Aim.{Aim}
use Rattle.draw_policies.specs.declared.aims.Aim.TheVariants as means
use Rattle.draw_policies.proofs.Laws.{signal-drains, signal-meant, signal-next}
use Rattle.drawings.specs.Drawings.{Drawn, IsFor, aim_behind, aim_of, current, draw, goes_on, kept_after, settled_for}
use Rattle.drawings.specs.Scenes.{Scene, startable}
use Rattle.drawings.specs.declared.drawing.Drawing.{Drawing}
use Rattle.drawings.proofs.Draws.{draw-ready}
use Rattle.drawings.proofs.Shapes.{ByTurn, IsDrawnBy, OnCredit, draw-shape}

-- a hart that means it goes on by no credit
due_again : (due : Bool) → due ≡ true → cond due (Some means.Signal) None ≡ Some means.Signal
due_again true is = refl
due_again false is = absurd (false≢true is)

still_meant : (scene : Scene) (h : ℕ) (a : Option Aim) → a ≡ Some means.Signal → (scene.sight h).deliverable ≡ true
    → still_due (scene.sight h) a ≡ Some means.Signal
still_meant scene h a is can = ap (still_due (scene.sight h)) is ∙ due_again (scene.sight h).deliverable can

no_credit : (scene : Scene) (d : Drawing) → aim_of d d.last.0 ≡ Some means.Signal → (scene.sight d.last.0).deliverable ≡ true
    → goes_on scene d ≡ true → ⊥
no_credit scene d is can goes =
    let seen = scene.sight d.last.0 in
    let free = ltb 0 d.credit && seen.exec_enabled && seen.«local» && not (scene.is_inside d.last.0) in
    let nothing = (and_parts free (is_none (aim_behind scene d)) goes).1 in
    false≢true (sym (ap is_none (still_meant scene d.last.0 (aim_of d d.last.0) is can)) ∙ nothing)

-- so it does it, once no store of it waits
next_by : (scene : Scene) (d : Drawing) (x : Drawn) → aim_of d x.hart ≡ Some means.Signal → IsDeliverable (scene.sight x.hart)
    → IsDrawnBy scene d x → x.choice ≡ emptied_before (scene.sight x.hart) asked.Signal
next_by scene d x is can (OnCredit goes) = absurd (no_credit scene d is can.some goes)
next_by scene d x is can (ByTurn h w t e) =
    signal-next (current d) (scene.sight h) (scene.traps h) (startable d.opened h scene.scheduling) (get_or d.ran h None) w t can
    (ap
    (λ (a : Option Aim). turn (current d) (scene.sight h) (scene.traps h) (startable d.opened h scene.scheduling) (get_or d.ran h None)
    a w)
    (sym is) ∙ e)

pub draw-signal : (scene : Scene) (d : Drawing) (x : Drawn) → aim_of d x.hart ≡ Some means.Signal
    → IsDeliverable (scene.sight x.hart) → draw scene d ≡ Some x → x.choice ≡ emptied_before (scene.sight x.hart) asked.Signal
draw-signal scene d x is can e = next_by scene d x is can (draw-shape scene d x e)

-- it means it behind each event by which it goes to its kernel
settled_length : (scene : Scene) (d : Drawing) (h : ℕ) → length (settled_for h scene d).aims ≡ length d.aims
settled_length scene d h = go (eqb h d.last.0)
  where
    go : (b : Bool) → length (cond b d.aims (set d.aims d.last.0 (aim_behind scene d))) ≡ length d.aims
    go true = refl
    go false = length-set d.aims d.last.0 (aim_behind scene d)

behind_by : (scene : Scene) (d : Drawing) (x : Drawn) → x.hart < length d.aims
    → (scene.traps d.last.0 ≡ true → goes_on scene d ≡ false)
    → comes_back (scene.traps x.hart) x.choice ≡ true → IsDrawnBy scene d x → aim_of x.after x.hart ≡ Some means.Signal
behind_by scene d x within apart back (OnCredit goes) = absurd (false≢true (sym (apart back) ∙ goes))
behind_by scene d x within apart back (ByTurn h w t e) =
    get_or-set_same (settled_for h scene d).aims h t.aim None (subst (λ (n : ℕ). h < n) (sym (settled_length scene d h)) within)
    ∙ signal-meant (current d) (scene.sight h) (scene.traps h) (startable d.opened h scene.scheduling) (get_or d.ran h None)
    (aim_of d h) w t e back

pub draw-behind : (scene : Scene) (d : Drawing) (x : Drawn) → x.hart < length d.aims
    → (scene.traps d.last.0 ≡ true → goes_on scene d ≡ false)
    → comes_back (scene.traps x.hart) x.choice ≡ true → draw scene d ≡ Some x → aim_of x.after x.hart ≡ Some means.Signal
draw-behind scene d x within apart back e = behind_by scene d x within apart back (draw-shape scene d x e)

-- and goes on meaning it, whatever other harts do, and while its stores enter memory
settled_means : (scene : Scene) (d : Drawing) (h : ℕ) → h < length d.aims → aim_of d h ≡ Some means.Signal
    → (scene.sight h).deliverable ≡ true → get_or (set d.aims d.last.0 (aim_behind scene d)) h None ≡ Some means.Signal
settled_means scene d h within is can = elim (cases_eq h d.last.0) [
  | inl same ↦
      subst (λ (k : ℕ). get_or (set d.aims d.last.0 (aim_behind scene d)) k None ≡ Some means.Signal) (sym same)
      (get_or-set_same d.aims d.last.0 (aim_behind scene d) None (subst (λ (k : ℕ). k < length d.aims) same within)
      ∙ still_meant scene d.last.0 (aim_of d d.last.0) (subst (λ (k : ℕ). aim_of d k ≡ Some means.Signal) same is)
      (subst (λ (k : ℕ). (scene.sight k).deliverable ≡ true) same can))
  | inr other ↦ get_or-set_other d.aims d.last.0 h (aim_behind scene d) None other ∙ is
]

settled_for_means : (scene : Scene) (d : Drawing) (h k : ℕ) → h < length d.aims → aim_of d h ≡ Some means.Signal
    → (scene.sight h).deliverable ≡ true → aim_of (settled_for k scene d) h ≡ Some means.Signal
settled_for_means scene d h k within is can = go (eqb k d.last.0)
  where
    go : (b : Bool) → get_or (cond b d.aims (set d.aims d.last.0 (aim_behind scene d))) h None ≡ Some means.Signal
    go true = is
    go false = settled_means scene d h within is can

-- one aim of a list is set
set_means : (aims : List (Option Aim)) (h k : ℕ) (a : Option Aim) → k < length aims → get_or aims h None ≡ Some means.Signal
    → (k ≡ h → a ≡ Some means.Signal) → get_or (set aims k a) h None ≡ Some means.Signal
set_means aims h k a within is own = elim (cases_eq k h) [
  | inl same ↦
      subst (λ (i : ℕ). get_or (set aims k a) i None ≡ Some means.Signal) same (get_or-set_same aims k a None within ∙ own same)
  | inr other ↦ get_or-set_other aims k h a None (λ same. other (sym same)) ∙ is
]

kept_by : (scene : Scene) (d : Drawing) (x : Drawn) (h : ℕ) → h < length d.aims → x.hart < length d.aims
    → aim_of d h ≡ Some means.Signal → (scene.sight h).deliverable ≡ true → (x.hart ≡ h → x.choice ≡ asked.Drain)
    → IsDrawnBy scene d x → aim_of x.after h ≡ Some means.Signal
kept_by scene d x h within also is can drains (OnCredit goes) =
    set_means d.aims h d.last.0 None also is
    (λ same. absurd (no_credit scene d (subst (λ (k : ℕ). aim_of d k ≡ Some means.Signal) (sym same) is)
    (subst (λ (k : ℕ). (scene.sight k).deliverable ≡ true) (sym same) can) goes))
kept_by scene d x h within also is can drains (ByTurn k w t e) =
    set_means (settled_for k scene d).aims h k t.aim (subst (λ (n : ℕ). k < n) (sym (settled_length scene d k)) also)
    (settled_for_means scene d h k within is can)
    (λ same.
    let own : aim_of d k ≡ Some means.Signal = subst (λ (i : ℕ). aim_of d i ≡ Some means.Signal) (sym same) is in
    let due : (scene.sight k).deliverable ≡ true = subst (λ (i : ℕ). (scene.sight i).deliverable ≡ true) (sym same) can in
    signal-drains (current d) (scene.sight k) (scene.traps k) (startable d.opened k scene.scheduling) (get_or d.ran k None) w t due
    (ap
    (λ (a : Option Aim). turn (current d) (scene.sight k) (scene.traps k) (startable d.opened k scene.scheduling) (get_or d.ran k None)
    a w)
    (sym own) ∙ e)
    (drains same))

pub draw-keeps : (scene : Scene) (d : Drawing) (x : Drawn) (h : ℕ) → h < length d.aims → x.hart < length d.aims
    → aim_of d h ≡ Some means.Signal → (scene.sight h).deliverable ≡ true → (x.hart ≡ h → x.choice ≡ asked.Drain)
    → draw scene d ≡ Some x → aim_of x.after h ≡ Some means.Signal
draw-keeps scene d x h within also is can drains e = kept_by scene d x h within also is can drains (draw-shape scene d x e)

-- there are as many aims as before
length_by : (scene : Scene) (d : Drawing) (x : Drawn) → IsDrawnBy scene d x → length x.after.aims ≡ length d.aims
length_by scene d x (OnCredit goes) = length-set d.aims d.last.0 None
length_by scene d x (ByTurn h w t e) =
    length-set (settled_for h scene d).aims h t.aim ∙ settled_length scene d h

pub draw-aims : (scene : Scene) (d : Drawing) (x : Drawn) → draw scene d ≡ Some x → length x.after.aims ≡ length d.aims
draw-aims scene d x e = length_by scene d x (draw-shape scene d x e)

-- the hart of an event is the last one then
shape_last : (scene : Scene) (d : Drawing) (x : Drawn) → IsDrawnBy scene d x → x.after.last.0 ≡ x.hart
shape_last scene d x (OnCredit goes) = refl
shape_last scene d x (ByTurn h w t e) = refl

pub draw-within : (scene : Scene) (d : Drawing) (x : Drawn) → IsFor scene.harts d → draw scene d ≡ Some x → x.hart < scene.harts
draw-within scene d x ready e =
    let after : IsFor scene.harts x.after = subst (λ (o : Option Drawn). IsFor scene.harts (kept_after o d)) e (draw-ready scene d ready) in
    subst (λ (n : ℕ). n < scene.harts) (shape_last scene d x (draw-shape scene d x e)) after.last
