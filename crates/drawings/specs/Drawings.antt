-- The drawing of events (own): what is kept between them, and the next one. Decisions come in stretches: a stretch has an owner, the
-- hart that goes on while it lasts, and one of the four stays of the policy, by which each word says whether it goes on. The hart of the
-- next event is the last one's by its credit; or else, where the stretch goes on, its owner where that can act; or else any that can,
-- each as likely as the next. What the hart does is its turn by the same word.
use Rattle.std.specs.Prelude.{ℕ, ◌-◌, ◌<◌, ◌≤◌, ◌==◌, ◌&&◌, Bool, not, List, length, Option, Some, None, if◌then◌else◌, is_none, nat_lt, slice_get, slice_index_or, slice_set}
use Rattle.std.specs.Option.{option_and_then, option_map, option_map_or}
use Rattle.mach_types.specs.Events.{begun_by}
use Rattle.mach_types.specs.declared.events.Choice.{Choice}
use Rattle.mach_types.specs.declared.events.Choice.TheVariants as asked
use Rattle.mach_types.specs.declared.events.Tid.{Tid}
use Rattle.chooser.specs.Generators.{Generator, next_generator, word}
use Rattle.draw_policies.specs.Aims.{still_due}
use Rattle.draw_policies.specs.Policies.{weights_of}
use Rattle.draw_policies.specs.Turns.{turn}
use Rattle.draw_policies.specs.Words.{hart_place, stay_of, stretch_of}
use Rattle.draw_policies.specs.declared.aims.Aim.{Aim}
use Rattle.draw_policies.specs.declared.policies.Policy.TheVariants as policy
use Rattle.draw_policies.specs.declared.policies.Weights.{Weights}
use Rattle.draw_policies.specs.declared.turns.Turn.{Turn}
use Rattle.drawings.specs.Scenes.{Scene, able, is_able, startable}
use Rattle.drawings.specs.declared.drawing.Drawing.{Drawing}
use Rattle.drawings.specs.declared.drawing.DrawnEvent.{DrawnEvent}

-- a drawn event, and what is kept after it
pub record Drawn : Type 0 where
  pub hart : ℕ
  pub choice : Choice
  pub after : Drawing

-- the weights of the next event: those of the policy, until so many events were drawn; then it goes on fairly
abbrev pub current : Drawing → Weights
current d = if d.left == 0 then weights_of policy.Fair else weights_of d.policy

-- what a hart means to do
abbrev pub aim_of : Drawing → ℕ → Option Aim
aim_of d h = slice_index_or d.aims h None

-- what the last hart still means behind its event: nothing that can't be done at once
abbrev pub aim_behind : Scene → Drawing → Option Aim
aim_behind scene d = still_due (scene.sight d.last.0) (aim_of d d.last.0)

-- the aims once hart h acts: where it is another than the last one, that gives up what can't be done
abbrev pub aims_for : ℕ → Scene → Drawing → List (Option Aim)
aims_for h scene d = if h == d.last.0 then d.aims else slice_set d.aims d.last.0 (aim_behind scene d)

abbrev pub settled_for : ℕ → Scene → Drawing → Drawing
settled_for h scene d = record d { aims = aims_for h scene d }

-- whether the last hart goes on by its credit: it means nothing, its next instruction may be executed and touches registers alone, and
-- its thread is inside no sequence, where it might be interrupted
abbrev pub goes_on : Scene → Drawing → Bool
goes_on scene d =
    nat_lt 0 d.credit
    && (scene.sight d.last.0).exec_enabled
    && (scene.sight d.last.0).«local»
    && not (scene.is_inside d.last.0)
    && is_none (aim_behind scene d)

abbrev pub on_credit : Drawing → Drawn
on_credit d = record {
  hart = d.last.0;
  choice = asked.Exec;
  after = record d { left = d.left - 1; credit = d.credit - 1; aims = slice_set d.aims d.last.0 None };
}

-- the turn of hart h by a word
abbrev pub turn_at : Scene → Drawing → ℕ → ℕ → Option Turn
turn_at scene d h w =
    turn (current d) (scene.sight h) (scene.traps h) (startable d.opened h scene.scheduling) (slice_index_or d.ran h None) (aim_of d h) w

-- the thread that ran last on each hart, after an event of hart h
abbrev pub ran_after : ℕ → Choice → List (Option Tid) → List (Option Tid)
ran_after h c ran = option_map_or (λ (t : Tid). slice_set ran h (Some t)) (begun_by c) ran

-- a turn of hart h, and what is kept after it
abbrev pub after_turn : ℕ → Turn → Drawing → Drawing
after_turn h t d = record d {
  left = d.left - 1;
  last = record { 0 = h };
  credit = t.credit;
  aims = slice_set d.aims h t.aim;
  ran = ran_after h t.choice d.ran;
}

abbrev pub drawn_of : ℕ → Drawing → Turn → Drawn
drawn_of h d t = record { hart = h; choice = t.choice; after = after_turn h t d }

-- the word that decides: the next of the generator, or 0 where the policy draws none; and the generator after that word
abbrev pub next_word : Drawing → ℕ
next_word d = if (current d).draws then word d.generator else 0

abbrev pub generator_after : Drawing → Generator
generator_after d = if (current d).draws then next_generator d.generator else d.generator

-- by a word: whether the stretch goes on, and whether its owner acts
abbrev pub continues : Drawing → ℕ → Bool
continues d w = nat_lt (stay_of w) (slice_index_or (current d).stays d.stretch 0)

abbrev pub owner_acts : Scene → Drawing → ℕ → Bool
owner_acts scene d w = continues d w && is_able scene d.opened d.owner.0

-- which hart acts
abbrev pub hart_by_word : Scene → Drawing → ℕ → Option ℕ
hart_by_word scene d w =
    if owner_acts scene d w then Some d.owner.0
    else slice_get (able scene d.opened) (hart_place w (length (able scene d.opened)))

-- whose the stretch is behind an event of hart h by that word: a lasting one that goes on remains its owner's, whoever acts; else it is
-- the hart's that acts
abbrev pub owner_after : ℕ → ℕ → Drawing → ℕ
owner_after h w d = if continues d w && (current d).lasting then d.owner.0 else h

-- and which of the four stays it has: a new stretch has one by the word
abbrev pub stretch_after : ℕ → Drawing → ℕ
stretch_after w d = if continues d w then d.stretch else stretch_of w

abbrev pub after_word : ℕ → ℕ → Drawing → Drawing
after_word h w d = record d {
  owner = record { 0 = owner_after h w d };
  stretch = stretch_after w d;
  generator = generator_after d;
}

abbrev pub drawn_by_word : Scene → Drawing → Option Drawn
drawn_by_word scene d =
    let w = next_word d in
    option_and_then (λ h. option_map (drawn_of h (after_word h w (settled_for h scene d))) (turn_at scene d h w)) (hart_by_word scene d w)

-- the next event, where there is one
unfoldable pub draw : Scene → Drawing → Option Drawn
draw scene d =
    if goes_on scene d then Some (on_credit d) else drawn_by_word scene d

-- the event that is drawn, and what is kept after the draw
abbrev pub event_of : Drawn → DrawnEvent
event_of x = record { hart = record { 0 = x.hart }; choice = x.choice }

abbrev pub kept_after : Option Drawn → Drawing → Drawing
kept_after None d = d
kept_after (Some x) d = x.after

-- a machine has so many harts, 8 at most, and the harts that a drawing speaks of are among them; and the stretch has one of four stays
pub record IsFor (harts : ℕ) (d : Drawing) : Type 0 where
  pub few : harts ≤ 8
  pub last : d.last.0 < harts
  pub owner : d.owner.0 < harts
  pub stretch : d.stretch < 4
  pub opened : d.opened ≤ 8
