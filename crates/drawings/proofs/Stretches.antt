-- As long as the words say that a stretch goes on it keeps its stay, and by a lasting policy its owner, who acts where it can.
use Rattle.std.proofs.Common.{◌≡◌, ℕ, Bool, true, false, ◌&&◌, cond, Option, Some, None, refl, sym, subst}
use Rattle.std.specs.Option.{option_and_then, option_map}
use Rattle.std.proofs.lemmas.Bool.{false≢true}
use Rattle.mach_types.specs.declared.events.Hart.{Hart}
use Rattle.draw_policies.specs.Words.{stretch_of}
use Rattle.draw_policies.specs.declared.turns.Turn.{Turn}
use Rattle.drawings.specs.Drawings.{Drawn, after_word, continues, current, draw, drawn_by_word, drawn_of, goes_on, hart_by_word, next_word, on_credit, owner_acts, settled_for, turn_at}
use Rattle.drawings.specs.Scenes.{Scene, is_able}
use Rattle.drawings.specs.declared.drawing.Drawing.{Drawing}

-- what holds of an event, where one is drawn
abbrev OwnedBy : Drawing → Option Drawn → Type 0
OwnedBy d None = Unit {0}
OwnedBy d (Some x) = x.after.owner ≡ d.owner

abbrev StaysAs : Drawing → Option Drawn → Type 0
StaysAs d None = Unit {0}
StaysAs d (Some x) = x.after.stretch ≡ d.stretch

abbrev ActsOn : ℕ → Option Drawn → Type 0
ActsOn h None = Unit {0}
ActsOn h (Some x) = x.hart ≡ h

-- the owner
kept_owner : (owner : Hart) (h : ℕ) (goes lasts : Bool) → goes ≡ true → lasts ≡ true
    → record { 0 = cond (goes && lasts) owner.0 h } ≡ owner
kept_owner owner h true true a b = refl
kept_owner owner h true false a b = absurd (false≢true b)
kept_owner owner h false lasts a b = absurd (false≢true a)

turn_owned : (scene : Scene) (d : Drawing) (h w : ℕ) (o : Option Turn) → continues d w ≡ true → (current d).lasting ≡ true
    → OwnedBy d (option_map (drawn_of h (after_word h w (settled_for h scene d))) o)
turn_owned scene d h w None goes lasts = tt
turn_owned scene d h w (Some t) goes lasts = kept_owner d.owner h (continues d w) (current d).lasting goes lasts

word_owned : (scene : Scene) (d : Drawing) (w : ℕ) (o : Option ℕ) → continues d w ≡ true → (current d).lasting ≡ true
    → OwnedBy d (option_and_then (λ h. option_map (drawn_of h (after_word h w (settled_for h scene d))) (turn_at scene d h w)) o)
word_owned scene d w None goes lasts = tt
word_owned scene d w (Some h) goes lasts = turn_owned scene d h w (turn_at scene d h w) goes lasts

any_owned : (scene : Scene) (d : Drawing) (credit : Bool) → continues d (next_word d) ≡ true → (current d).lasting ≡ true
    → OwnedBy d (cond credit (Some (on_credit d)) (drawn_by_word scene d))
any_owned scene d true goes lasts = refl
any_owned scene d false goes lasts = word_owned scene d (next_word d) (hart_by_word scene d (next_word d)) goes lasts

pub stretch-owner : (scene : Scene) (d : Drawing) (x : Drawn) → (current d).lasting ≡ true → continues d (next_word d) ≡ true
    → draw scene d ≡ Some x → x.after.owner ≡ d.owner
unfolding draw
stretch-owner scene d x lasts goes e =
    subst (λ (o : Option Drawn). OwnedBy d o) e (any_owned scene d (goes_on scene d) goes lasts)

-- the stay
kept_stay : (stretch w : ℕ) (goes : Bool) → goes ≡ true → cond goes stretch (stretch_of w) ≡ stretch
kept_stay stretch w true is = refl
kept_stay stretch w false is = absurd (false≢true is)

turn_stays : (scene : Scene) (d : Drawing) (h w : ℕ) (o : Option Turn) → continues d w ≡ true
    → StaysAs d (option_map (drawn_of h (after_word h w (settled_for h scene d))) o)
turn_stays scene d h w None goes = tt
turn_stays scene d h w (Some t) goes = kept_stay d.stretch w (continues d w) goes

word_stays : (scene : Scene) (d : Drawing) (w : ℕ) (o : Option ℕ) → continues d w ≡ true
    → StaysAs d (option_and_then (λ h. option_map (drawn_of h (after_word h w (settled_for h scene d))) (turn_at scene d h w)) o)
word_stays scene d w None goes = tt
word_stays scene d w (Some h) goes = turn_stays scene d h w (turn_at scene d h w) goes

any_stays : (scene : Scene) (d : Drawing) (credit : Bool) → continues d (next_word d) ≡ true
    → StaysAs d (cond credit (Some (on_credit d)) (drawn_by_word scene d))
any_stays scene d true goes = refl
any_stays scene d false goes = word_stays scene d (next_word d) (hart_by_word scene d (next_word d)) goes

pub stretch-stay : (scene : Scene) (d : Drawing) (x : Drawn) → continues d (next_word d) ≡ true → draw scene d ≡ Some x
    → x.after.stretch ≡ d.stretch
unfolding draw
stretch-stay scene d x goes e = subst (λ (o : Option Drawn). StaysAs d o) e (any_stays scene d (goes_on scene d) goes)

-- who acts
both : (a b : Bool) → a ≡ true → b ≡ true → (a && b) ≡ true
both true true p q = refl
both true false p q = absurd (false≢true q)
both false b p q = absurd (false≢true p)

chosen : (owner other : Option ℕ) (b : Bool) → b ≡ true → cond b owner other ≡ owner
chosen owner other true is = refl
chosen owner other false is = absurd (false≢true is)

turn_acts : (scene : Scene) (d : Drawing) (h w : ℕ) (o : Option Turn)
    → ActsOn h (option_map (drawn_of h (after_word h w (settled_for h scene d))) o)
turn_acts scene d h w None = tt
turn_acts scene d h w (Some t) = refl

word_acts : (scene : Scene) (d : Drawing) (w : ℕ) (o : Option ℕ) → o ≡ Some d.owner.0
    → ActsOn d.owner.0
    (option_and_then (λ h. option_map (drawn_of h (after_word h w (settled_for h scene d))) (turn_at scene d h w)) o)
word_acts scene d w o is =
    subst
    (λ (p : Option ℕ). ActsOn d.owner.0
    (option_and_then (λ h. option_map (drawn_of h (after_word h w (settled_for h scene d))) (turn_at scene d h w)) p))
    (sym is) (turn_acts scene d d.owner.0 w (turn_at scene d d.owner.0 w))

any_acts : (scene : Scene) (d : Drawing) (credit : Bool) → credit ≡ false → hart_by_word scene d (next_word d) ≡ Some d.owner.0
    → ActsOn d.owner.0 (cond credit (Some (on_credit d)) (drawn_by_word scene d))
any_acts scene d true off is = absurd (false≢true (sym off))
any_acts scene d false off is = word_acts scene d (next_word d) (hart_by_word scene d (next_word d)) is

owner_chosen : (scene : Scene) (d : Drawing) (w : ℕ) → continues d w ≡ true → is_able scene d.opened d.owner.0 ≡ true
    → hart_by_word scene d w ≡ Some d.owner.0
owner_chosen scene d w goes can =
    chosen (Some d.owner.0) _ (owner_acts scene d w) (both (continues d w) (is_able scene d.opened d.owner.0) goes can)

pub stretch-acts : (scene : Scene) (d : Drawing) (x : Drawn) → continues d (next_word d) ≡ true
    → is_able scene d.opened d.owner.0 ≡ true → goes_on scene d ≡ false → draw scene d ≡ Some x → x.hart ≡ d.owner.0
unfolding draw
stretch-acts scene d x goes can off e =
    subst (λ (o : Option Drawn). ActsOn d.owner.0 o) e
    (any_acts scene d (goes_on scene d) off (owner_chosen scene d (next_word d) goes can))
