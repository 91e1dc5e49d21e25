-- What is drawn is allowed, and where a hart can make an event one is drawn.
use Rattle.std.proofs.Common.{◌≡◌, ℕ, ◌/◌, ◌<◌, Bool, true, false, not, ◌&&◌, cond, ltb, length, Option, Some, None, refl, sym, ap, subst, arith}
use Rattle.std.specs.Prelude.{IsSome, is_none, is_some, slice_get, slice_index_or}
use Rattle.std.specs.Option.{option_and_then, option_map}
use Rattle.std.proofs.lemmas.Bool.{and_parts, false≢true}
use Rattle.std.proofs.lemmas.Nat.{mod_below}
use Rattle.std.proofs.lemmas.Option.{slice_get-get_or}
use Rattle.draw_policies.specs.Conditions.{Executes}
use Rattle.draw_policies.specs.Words.{hart_place, stretch_of}
use Rattle.draw_policies.specs.declared.turns.Turn.{Turn}
use Rattle.draw_policies.proofs.Laws.{place_among-below, turn-allowed, turn-comes}
use Rattle.drawings.specs.Allowed.{AreSettled, IsAllowedOf}
use Rattle.drawings.specs.Drawings.{Drawn, IsFor, after_word, aim_behind, aim_of, continues, current, draw, drawn_by_word, drawn_of, goes_on, hart_by_word, kept_after, next_word, on_credit, owner_acts, settled_for, turn_at}
use Rattle.drawings.specs.Scenes.{Scene, able, is_able, startable}
use Rattle.drawings.specs.declared.drawing.Drawing.{Drawing}
use Rattle.drawings.proofs.Passing.{PassesIfSome, got_passes, passing_some}

-- what holds of an event, where one is drawn
abbrev Fits : Scene → Drawing → Option Drawn → Type 0
Fits scene d None = Unit {0}
Fits scene d (Some x) = IsAllowedOf scene d.opened x

-- of the turn of a hart that can act, whatever is kept before it
turn_fits : (scene : Scene) (d kept : Drawing) (h w : ℕ) (o : Option Turn) → AreSettled scene → h < scene.harts
    → is_able scene d.opened h ≡ true → turn_at scene d h w ≡ o → Fits scene d (option_map (drawn_of h kept) o)
turn_fits scene d kept h w None quiet below can e = tt
turn_fits scene d kept h w (Some t) quiet below can e = record {
  within = below;
  allowed = turn-allowed (current d) (scene.sight h) (scene.traps h) (startable d.opened h scene.scheduling)
      (slice_index_or d.ran h None) (aim_of d h) w t (quiet h below) can e;
}

-- by a word
word_fits : (scene : Scene) (d : Drawing) (w : ℕ) (o : Option ℕ) → AreSettled scene
    → PassesIfSome (is_able scene d.opened) scene.harts o
    → Fits scene d (option_and_then (λ h. option_map (drawn_of h (after_word h w (settled_for h scene d))) (turn_at scene d h w)) o)
word_fits scene d w None quiet can = tt
word_fits scene d w (Some h) quiet can =
    turn_fits scene d (after_word h w (settled_for h scene d)) h w (turn_at scene d h w) quiet can.0 can.1 refl

hart_passes : (scene : Scene) (d : Drawing) (w : ℕ) → IsFor scene.harts d
    → PassesIfSome (is_able scene d.opened) scene.harts (hart_by_word scene d w)
hart_passes scene d w ready = go (owner_acts scene d w) refl
  where
    go : (b : Bool) → owner_acts scene d w ≡ b
        → PassesIfSome (is_able scene d.opened) scene.harts
        (cond b (Some d.owner.0) (slice_get (able scene d.opened) (hart_place w (length (able scene d.opened)))))
    go true is = (ready.owner, (and_parts (continues d w) (is_able scene d.opened d.owner.0) is).1)
    go false is =
        got_passes (is_able scene d.opened) scene.harts (hart_place w (length (able scene d.opened)))
        (slice_get (able scene d.opened) (hart_place w (length (able scene d.opened)))) refl

pub hart_drawn : (scene : Scene) (d : Drawing) (w h : ℕ) → IsFor scene.harts d → Some h ≡ hart_by_word scene d w
    → (h < scene.harts) × (is_able scene d.opened h ≡ true)
hart_drawn scene d w h ready is =
    subst (λ (o : Option ℕ). PassesIfSome (is_able scene d.opened) scene.harts o) (sym is) (hart_passes scene d w ready)

-- on credit
credit_allows : (scene : Scene) (d : Drawing) → goes_on scene d ≡ true → (scene.sight d.last.0).exec_enabled ≡ true
credit_allows scene d is =
    let seen = scene.sight d.last.0 in
    let apart = not (scene.is_inside d.last.0) in
    let outside = (and_parts (ltb 0 d.credit && seen.exec_enabled && seen.«local» && apart) (is_none (aim_behind scene d)) is).0 in
    let front = (and_parts (ltb 0 d.credit && seen.exec_enabled && seen.«local») apart outside).0 in
    let first = (and_parts (ltb 0 d.credit && seen.exec_enabled) seen.«local» front).0 in
    (and_parts (ltb 0 d.credit) seen.exec_enabled first).1

-- whatever is drawn
any_fits : (scene : Scene) (d : Drawing) (credit : Bool) → goes_on scene d ≡ credit → IsFor scene.harts d → AreSettled scene
    → Fits scene d (cond credit (Some (on_credit d)) (drawn_by_word scene d))
any_fits scene d true is ready quiet = record { within = ready.last; allowed = Executes (credit_allows scene d is) }
any_fits scene d false is ready quiet =
    let w = next_word d in
    word_fits scene d w (hart_by_word scene d w) quiet (hart_passes scene d w ready)

pub draw-allowed : (scene : Scene) (d : Drawing) (x : Drawn) → IsFor scene.harts d → AreSettled scene → draw scene d ≡ Some x
    → IsAllowedOf scene d.opened x
unfolding draw
draw-allowed scene d x ready quiet e =
    subst (λ (o : Option Drawn). Fits scene d o) e (any_fits scene d (goes_on scene d) refl ready quiet)

-- the harts of the drawing stay among those of the machine, and its stretch has one of the four stays
owner_below : (n h own : ℕ) (b : Bool) → h < n → own < n → cond b own h < n
owner_below n h own true acts owns = owns
owner_below n h own false acts owns = acts

stay_below : (stretch w : ℕ) (b : Bool) → stretch < 4 → cond b stretch (stretch_of w) < 4
stay_below stretch w true is = is
stay_below stretch w false is = mod_below (w / 60480000000000000) 4 (omega arith)

word_kept : (scene : Scene) (d : Drawing) (h w : ℕ) → IsFor scene.harts d → h < scene.harts
    → IsFor scene.harts (after_word h w (settled_for h scene d))
word_kept scene d h w ready below = record {
  few = ready.few;
  last = ready.last;
  owner = owner_below scene.harts h d.owner.0 (continues d w && (current d).lasting) below ready.owner;
  stretch = stay_below d.stretch w (continues d w) ready.stretch;
  opened = ready.opened;
}

turn_ready : (scene : Scene) (d kept : Drawing) (h : ℕ) (o : Option Turn) → IsFor scene.harts d → IsFor scene.harts kept
    → h < scene.harts → IsFor scene.harts (kept_after (option_map (drawn_of h kept) o) d)
turn_ready scene d kept h None ready after below = ready
turn_ready scene d kept h (Some t) ready after below = record {
  few = after.few;
  last = below;
  owner = after.owner;
  stretch = after.stretch;
  opened = after.opened;
}

word_ready : (scene : Scene) (d : Drawing) (w : ℕ) (o : Option ℕ) → IsFor scene.harts d
    → PassesIfSome (is_able scene d.opened) scene.harts o
    → IsFor scene.harts
    (kept_after (option_and_then (λ h. option_map (drawn_of h (after_word h w (settled_for h scene d))) (turn_at scene d h w)) o) d)
word_ready scene d w None ready can = ready
word_ready scene d w (Some h) ready can =
    turn_ready scene d (after_word h w (settled_for h scene d)) h (turn_at scene d h w) ready (word_kept scene d h w ready can.0) can.0

any_ready : (scene : Scene) (d : Drawing) (credit : Bool) → IsFor scene.harts d
    → IsFor scene.harts (kept_after (cond credit (Some (on_credit d)) (drawn_by_word scene d)) d)
any_ready scene d true ready = record {
  few = ready.few;
  last = ready.last;
  owner = ready.owner;
  stretch = ready.stretch;
  opened = ready.opened;
}
any_ready scene d false ready =
    let w = next_word d in
    word_ready scene d w (hart_by_word scene d w) ready (hart_passes scene d w ready)

pub draw-ready : (scene : Scene) (d : Drawing) → IsFor scene.harts d → IsFor scene.harts (kept_after (draw scene d) d)
unfolding draw
draw-ready scene d ready = any_ready scene d (goes_on scene d) ready

-- where a hart can act something is drawn
mapped : {A B : Type 0} (f : A → B) (o : Option A) → IsSome o → IsSome (option_map f o)
mapped f None some = absurd (false≢true some)
mapped f (Some x) some = refl

word_drawn : (scene : Scene) (d : Drawing) (w : ℕ) (o : Option ℕ) → IsSome o → PassesIfSome (is_able scene d.opened) scene.harts o
    → IsSome (option_and_then (λ h. option_map (drawn_of h (after_word h w (settled_for h scene d))) (turn_at scene d h w)) o)
word_drawn scene d w None some can = absurd (false≢true some)
word_drawn scene d w (Some h) some can =
    mapped (drawn_of h (after_word h w (settled_for h scene d))) (turn_at scene d h w)
    (turn-comes (current d) (scene.sight h) (scene.traps h) (startable d.opened h scene.scheduling) (slice_index_or d.ran h None)
    (aim_of d h) w can.1)

hart_comes : (scene : Scene) (d : Drawing) (w : ℕ) → 0 < length (able scene d.opened) → IsSome (hart_by_word scene d w)
hart_comes scene d w some = go (owner_acts scene d w)
  where
    go : (b : Bool) → IsSome (cond b (Some d.owner.0) (slice_get (able scene d.opened) (hart_place w (length (able scene d.opened)))))
    go true = refl
    go false =
        ap (λ (o : Option ℕ). is_some o)
        (slice_get-get_or (able scene d.opened) (hart_place w (length (able scene d.opened))) 0
        (place_among-below (w / 1000000000000) (length (able scene d.opened)) some))

any_drawn : (scene : Scene) (d : Drawing) (h : ℕ) (credit : Bool) → IsFor scene.harts d → h < scene.harts
    → is_able scene d.opened h ≡ true → IsSome (cond credit (Some (on_credit d)) (drawn_by_word scene d))
any_drawn scene d h true ready below can = refl
any_drawn scene d h false ready below can =
    let w = next_word d in
    word_drawn scene d w (hart_by_word scene d w)
    (hart_comes scene d w (passing_some (is_able scene d.opened) scene.harts h below can)) (hart_passes scene d w ready)

pub draw-comes : (scene : Scene) (d : Drawing) (h : ℕ) → IsFor scene.harts d → h < scene.harts → is_able scene d.opened h ≡ true
    → IsSome (draw scene d)
unfolding draw
draw-comes scene d h = any_drawn scene d h (goes_on scene d)
