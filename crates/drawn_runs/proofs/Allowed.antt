-- What is drawn at a place of a block run is allowed there.
use Rattle.std.proofs.Common.{◌≡◌, ℕ, ◌+◌, ◌-◌, ◌%◌, ◌<◌, ◌≤◌, ◌||◌, ◌&&◌, not, Bool, true, false, cond, leb, ltb, List, [], ◌∷◌, length, Option, Some, None, Ok, is_some, refl, sym, ap, ◌∙◌, arith}
use Rattle.std.proofs.lemmas.Bool.{and_parts, false≢true, leb-false, lt-leb, ltb-true}
use Rattle.std.proofs.lemmas.Nat.{mod_below}
use Rattle.mach_types.specs.declared.events.Choice.{Choice}
use Rattle.mach_types.specs.declared.events.Entry.{Entry}
use Rattle.mach_types.specs.declared.limits.End.{End}
use Rattle.chooser.specs.Generators.{Generator, first_generator, word}
use Rattle.draw_policies.specs.Policies.{weights_of}
use Rattle.draw_policies.specs.declared.policies.Policy.{Policy}
use Rattle.drawings.specs.Allowed.{AreSettled, IsAllowedOf}
use Rattle.drawings.specs.Drawings.{Drawn, IsFor, draw, kept_after}
use Rattle.drawings.specs.Starts.{first_open, open_without, opens_by_word}
use Rattle.drawings.specs.declared.drawing.Drawing.{Drawing}
use Rattle.drawings.proofs.Laws.{draw-allowed, draw-ready}
use Rattle.block_model.specs.Choosing.{has_ended}
use Rattle.block_model.specs.Deciding.{decide, decide_in, entry_in, history, over_at, unless}
use Rattle.block_model.specs.Events.{refusal_of}
use Rattle.block_model.specs.History.{History, here_in_history, ran}
use Rattle.block_model.specs.Run.{IsBlockRun}
use Rattle.block_model.specs.Setting.{Setting}
use Rattle.drawn_runs.specs.declared.manner.Manner.{Manner}
use Rattle.drawn_runs.specs.DrawnRuns.{drawing_at, drawn_at, entry_of, first_drawing, scene_at}
use Rattle.drawn_runs.proofs.Places.{allowed_is_free, good_place, place_settled}

-- the harts that are open at the start are harts of the machine
several : (draws alone : Bool) (harts : ℕ) → (draws && not alone && ltb 1 harts) ≡ true → 1 < harts
several draws alone harts by_word = ltb-true 1 harts (and_parts (draws && not alone) (ltb 1 harts) by_word).1

one_or_all : (alone : Bool) (harts : ℕ) → 0 < harts → cond alone 1 harts ≤ harts
one_or_all true harts some = omega arith
one_or_all false harts some = omega arith

two_and : (place harts : ℕ) → 1 < harts → place < harts - 1 → 2 + place ≤ harts
two_and place harts more below = omega arith

pub opened_within : (policy : Policy) (harts : ℕ) (g : Generator) → 0 < harts → first_open policy harts g ≤ harts
opened_within policy harts g some = go (opens_by_word policy harts) refl
  where
    go : (b : Bool) → opens_by_word policy harts ≡ b
        → cond b (2 + word g % (harts - 1)) (open_without policy harts) ≤ harts
    go true by_word =
        let more = several (weights_of policy).draws (weights_of policy).alone harts by_word in
        two_and (word g % (harts - 1)) harts more (mod_below (word g) (harts - 1) (omega arith))
    go false none = one_or_all (weights_of policy).alone harts some

at_most : (a b c : ℕ) → a ≤ b → b ≤ c → a ≤ c
at_most a b c p q = omega arith

first_is_for : (s : Setting) (m : Manner) → 0 < s.limits.harts → s.limits.harts ≤ 8 → IsFor s.limits.harts (first_drawing s m)
first_is_for s m some few =
    let g = first_generator m.seed 0 in
    record {
      few = few;
      last = some;
      owner = some;
      stretch = omega arith;
      opened = at_most (first_open m.policy s.limits.harts g) s.limits.harts 8 (opened_within m.policy s.limits.harts g some) few;
    }

-- so are the harts that the drawing speaks of, at each place
either_is_for : (harts : ℕ) (b : Bool) (x y : Drawing) → IsFor harts x → IsFor harts y → IsFor harts (cond b x y)
either_is_for harts true x y p q = p
either_is_for harts false x y p q = q

pub drawing_is_for : (s : Setting) (m : Manner) (before : History) → 0 < s.limits.harts → s.limits.harts ≤ 8
    → IsFor s.limits.harts (drawing_at s m before)
drawing_is_for s m [] some few = first_is_for s m some few
drawing_is_for s m (e ∷ before) some few =
    let scene = scene_at s before in
    let d = drawing_at s m before in
    either_is_for s.limits.harts (ltb (length before) m.scripted) (first_drawing s m) (kept_after (draw scene d) d)
    (first_is_for s m some few) (draw-ready scene d (drawing_is_for s m before some few))

-- no store waits at a place where none may
scene_settled : (s : Setting) (log : List Entry) → IsBlockRun s log → AreSettled (scene_at s (history s log))
scene_settled s log run = λ h below.
    place_settled (here_in_history s (history s log) h) (ran h (history s log)) (good_place s log h run below)

-- a run that hasn't ended goes on, and its log has room
open_parts : (s : Setting) (before : History) (o : Option End) → over_at s before ≡ o
    → (is_some o || leb s.limits.steps (length before)) ≡ false
    → (over_at s before ≡ None) × (length before < s.limits.steps)
open_parts s before (Some e) at goes = absurd (false≢true (sym goes))
open_parts s before None at goes = (at, leb-false s.limits.steps (length before) goes)

pub is_open : (s : Setting) (before : History) → has_ended s before ≡ false
    → (over_at s before ≡ None) × (length before < s.limits.steps)
unfolding has_ended
is_open s before goes = open_parts s before (over_at s before) refl goes

-- there the conditions of a choice decide
decided_open : (s : Setting) (before : History) (h : ℕ) (c : Choice) → over_at s before ≡ None → length before < s.limits.steps
    → h < s.limits.harts
    → decide s before h c ≡ unless (entry_in c (here_in_history s before h)) (refusal_of c (here_in_history s before h))
unfolding decide
decided_open s before h c goes room below =
    ap (λ (o : Option End). decide_in (length before) o c (here_in_history s before h)) goes
    ∙ rw (lt-leb s.limits.steps (length before) room, lt-leb s.limits.harts h below) refl

-- where an event is drawn
drawn_parts : (over : Bool) (o : Option Drawn) (x : Drawn) → cond over None o ≡ Some x → (over ≡ false) × (o ≡ Some x)
drawn_parts true o x is = absurd cc
drawn_parts false o x is = (refl, is)

pub drawn_place : (s : Setting) (m : Manner) (before : History) (x : Drawn) → drawn_at s m before ≡ Some x
    → (has_ended s before ≡ false) × (draw (scene_at s before) (drawing_at s m before) ≡ Some x)
unfolding drawn_at
drawn_place s m before x is = drawn_parts (has_ended s before) (draw (scene_at s before) (drawing_at s m before)) x is

pub drawn_is_allowed : (s : Setting) (m : Manner) (log : List Entry) (x : Drawn) → 0 < s.limits.harts → s.limits.harts ≤ 8
    → IsBlockRun s log → drawn_at s m (history s log) ≡ Some x
    → decide s (history s log) x.hart x.choice ≡ Ok (entry_of s (history s log) x)
drawn_is_allowed s m log x some few run is =
    let before = history s log in
    let d = drawing_at s m before in
    let here = here_in_history s before x.hart in
    let place = drawn_place s m before x is in
    let opened = is_open s before place.0 in
    let fits : IsAllowedOf (scene_at s before) d.opened x =
    draw-allowed (scene_at s before) d x (drawing_is_for s m before some few) (scene_settled s log run) place.1 in
    decided_open s before x.hart x.choice opened.0 opened.1 fits.within
    ∙ ap (unless (entry_in x.choice here))
    (allowed_is_free here d.opened (ran x.hart before) (good_place s log x.hart run fits.within) fits.allowed)
