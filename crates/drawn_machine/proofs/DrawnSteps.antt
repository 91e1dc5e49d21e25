-- A drawn run goes on by each event that is drawn: one is where the run hasn't ended, and it is allowed.
use Rattle.std.proofs.Common.{◌≡◌, ◌≢◌, ◌+◌, ◌-◌, ◌<◌, ◌≤◌, ◌&&◌, ◌||◌, Bool, true, false, cond, leb, ltb, not, List, [], ◌∷◌, ◌++◌, length, length-append, take, Option, Some, None, Result, Ok, Err, is_none, is_some, refl, sym, ap, ◌∙◌, subst, arith}
use Rattle.std.specs.Prelude.{IsSome}
use Rattle.std.specs.Option.{option_map}
use Rattle.std.proofs.lemmas.Bool.{false≢true, le-ltb, lt-leb, lt-ltb}
use Rattle.std.proofs.lemmas.List.{take-append-le, take_all}
use Rattle.std.proofs.lemmas.Option.{same_Some}
use Rattle.mach_types.specs.Limits.{InRange}
use Rattle.mach_types.specs.declared.events.Entry.{Entry}
use Rattle.mach_types.specs.declared.limits.End.{End}
use Rattle.mach_types.specs.declared.limits.End.TheVariants.{Unended}
use Rattle.draw_policies.specs.declared.aims.Aim.{Aim}
use Rattle.drawings.specs.Drawings.{Drawn, IsFor, aim_behind, draw, drawn_by_word, event_of, kept_after, on_credit}
use Rattle.drawings.specs.Drawings.{goes_on as on}
use Rattle.drawings.specs.Scenes.{Scene}
use Rattle.drawings.specs.declared.drawing.Drawing.{Drawing}
use Rattle.drawings.specs.declared.drawing.DrawnEvent.{DrawnEvent}
use Rattle.block_model.specs.Choosing.{has_ended}
use Rattle.block_model.specs.Deciding.{decide, end_of, history}
use Rattle.block_model.specs.History.{History}
use Rattle.block_model.specs.Run.{IsBlockRun}
use Rattle.block_model.specs.Setting.{Seen, Setting}
use Rattle.block_model.specs.declared.refusals.Refused.{Refused}
use Rattle.block_model.proofs.Laws.{history-append, is_open, length-history}
use Rattle.drawn_runs.specs.DrawnRuns.{drawing_at, drawn_at, drawn_entry, entry_of, first_drawing, scene_at}
use Rattle.drawn_runs.specs.WholeRuns.{IsDrawnRun}
use Rattle.drawn_runs.specs.declared.manner.Manner.{Manner}
use Rattle.drawn_runs.proofs.Laws.{drawing_is_for, drawn_is_allowed, drawn_more, drawn_start, drawn_where_open}
use Rattle.drawn_machine.specs.OnTheWay.{IsOnItsWay}
use Rattle.drawn_machine.specs.Scenes.{scene_of}
use Rattle.drawn_machine.proofs.Inside.{of_the_machine}

-- what each draw leaves
abbrev drawing_kept : Setting → Manner → History → Drawing
drawing_kept s m before = kept_after (draw (scene_at s before) (drawing_at s m before)) (drawing_at s m before)

-- behind the script's entries that is the start
behind_script : (s : Setting) (m : Manner) (before : History) → length before ≤ m.scripted → drawing_at s m before ≡ first_drawing s m
behind_script s m [] few = refl
behind_script s m (e ∷ before) few =
    ap
    (λ (b : Bool). cond b (first_drawing s m) (drawing_kept s m before))
    (lt-ltb (length before) m.scripted (omega arith))

pub way_first : (m : Manner) (now : Seen) (d : Drawing) → IsBlockRun now.setting now.log → m.scripted ≡ length now.log
    → d ≡ first_drawing now.setting m → IsOnItsWay m now d
way_first m now d run all is = record {
  scripted = omega (arith, all);
  block_run = run;
  drawn = drawn_start now.setting m now.log (omega (arith, all));
  kept = is ∙ sym (behind_script now.setting m (history now.setting now.log)
      (omega (arith, all, length-history now.setting now.log)));
}

-- where the run goes on it hasn't ended, and its log has room
pub goes_on : (s : Setting) (log : List Entry) → IsBlockRun s log → end_of s (history s log) ≡ Unended → has_ended s (history s log) ≡ false
unfolding has_ended
goes_on s log run unended =
    let before = history s log in
    let parts = is_open s before run.allowed unended in
    ap (λ (o : Option End). is_some o || leb s.limits.steps (length before)) parts.0
    ∙ lt-leb s.limits.steps (length before) parts.1

has_room : (s : Setting) (log : List Entry) → IsBlockRun s log → end_of s (history s log) ≡ Unended → length log < s.limits.steps
has_room s log run unended =
    let room = (is_open s (history s log) run.allowed unended).1 in
    omega (arith, room, length-history s log)

-- there an event is drawn
record IsDue (m : Manner) (now : Seen) (d : Drawing) (x : Drawn) : Type 0 where
  pub is : draw (scene_of now) d ≡ Some x
  pub at : drawn_at now.setting m (history now.setting now.log) ≡ Some x

comes : (over : Bool) (o : Option Drawn) (f : Drawn → Entry) → over ≡ false → IsSome (option_map f (cond over None o))
    → (x : Drawn) × (o ≡ Some x) × (cond over None o ≡ Some x)
comes true o f goes some = absurd (false≢true (sym goes))
comes false None f goes some = absurd (false≢true some)
comes false (Some x) f goes some = (x, refl, refl)

due_at : (s : Setting) (m : Manner) (log : List Entry) → InRange s.limits → IsBlockRun s log → end_of s (history s log) ≡ Unended
    → (x : Drawn) × (draw (scene_at s (history s log)) (drawing_at s m (history s log)) ≡ Some x)
    × (drawn_at s m (history s log) ≡ Some x)
unfolding drawn_entry drawn_at
due_at s m log range run unended =
    let before = history s log in
    let goes = goes_on s log run unended in
    comes (has_ended s before) (draw (scene_at s before) (drawing_at s m before)) (entry_of s before) goes
    (drawn_where_open s m log range.some_hart range.eight_harts run goes)

due : (m : Manner) (now : Seen) (d : Drawing) → InRange now.setting.limits → IsOnItsWay m now d
    → end_of now.setting (history now.setting now.log) ≡ Unended → (x : Drawn) × IsDue m now d x
due m now d range way unended =
    let found = due_at now.setting m now.log range way.block_run unended in (
      found.0,
      record { is = ap (λ (e : Drawing). draw (scene_of now) e) way.kept ∙ found.1; at = found.2 },
    )

-- the drawing speaks of harts of the machine
pub is_for : (m : Manner) (now : Seen) (d : Drawing) → InRange now.setting.limits → IsOnItsWay m now d → IsFor now.setting.limits.harts d
is_for m now d range way =
    subst (IsFor now.setting.limits.harts) (sym way.kept)
    (drawing_is_for now.setting m (history now.setting now.log) range.some_hart range.eight_harts)

-- so one is there
pub some_event : (m : Manner) (now : Seen) (d : Drawing) (o : Option DrawnEvent) → InRange now.setting.limits → IsOnItsWay m now d
    → end_of now.setting (history now.setting now.log) ≡ Unended → o ≡ option_map event_of (draw (scene_of now) d) → o ≢ None
some_event m now d o range way unended is none =
    let x = due m now d range way unended in
    let some : o ≡ Some (event_of x.0) = is ∙ ap (option_map event_of) x.1.is in
    none_or_some (sym none ∙ some)
  where
    none_or_some : {e : DrawnEvent} → None ≡ Some e → ⊥
    none_or_some bad = cc

-- and is made
allowed : (m : Manner) (now : Seen) (d : Drawing) (x : Drawn) → InRange now.setting.limits
    → IsBlockRun now.setting now.log → IsDue m now d x
    → decide now.setting (history now.setting now.log) x.hart x.choice ≡ Ok (entry_of now.setting (history now.setting now.log) x)
allowed m now d x range run is =
    drawn_is_allowed now.setting m now.log x range.some_hart range.eight_harts run is.at

-- what a machine answers to the event that is drawn
abbrev Answers : Seen → DrawnEvent → Result Entry Refused → Type 0
Answers now e r = r ≡ decide now.setting (history now.setting now.log) e.hart.0 e.choice

made : (m : Manner) (now : Seen) (d : Drawing) (x : Drawn) (e : DrawnEvent) (r : Result Entry Refused) → InRange now.setting.limits
    → IsBlockRun now.setting now.log → IsDue m now d x → e ≡ event_of x → Answers now e r
    → r ≡ Ok (entry_of now.setting (history now.setting now.log) x)
made m now d x e r range run is same answer =
    answer ∙ ap (λ (e : DrawnEvent). decide now.setting (history now.setting now.log) e.hart.0 e.choice) same
    ∙ allowed m now d x range run is

the_event : (o : Option Drawn) (x : Drawn) (e : DrawnEvent) → Some e ≡ option_map event_of o → o ≡ Some x → e ≡ event_of x
the_event o x e is some = same_Some e (event_of x) (is ∙ ap (option_map event_of) some)

-- an event that is drawn where the run goes on
pub record IsDrawnNext (m : Manner) (now : Seen) (d : Drawing) (e : DrawnEvent) : Type 0 where
  pub range : InRange now.setting.limits
  pub way : IsOnItsWay m now d
  pub unended : end_of now.setting (history now.setting now.log) ≡ Unended
  pub drawn : Some e ≡ option_map event_of (draw (scene_of now) d)

pub never_refused : (m : Manner) (now : Seen) (d : Drawing) (e : DrawnEvent) (why : Refused) → IsDrawnNext m now d e
    → Answers now e (Err why) → ⊥
never_refused m now d e why next answer =
    let x = due m now d next.range next.way next.unended in
    let ok : Err why ≡ Ok (entry_of now.setting (history now.setting now.log) x.0) =
    made m now d x.0 e (Err why) next.range next.way.block_run x.1 (the_event (draw (scene_of now) d) x.0 e next.drawn x.1.is) answer in
    absurd cc

-- its hart is one of the machine
pub of_its_machine : (m : Manner) (now : Seen) (d : Drawing) (e : DrawnEvent) → IsDrawnNext m now d e → e.hart.0 < now.setting.limits.harts
of_its_machine m now d e next =
    let x = due m now d next.range next.way next.unended in
    let before = history now.setting now.log in
    let same = the_event (draw (scene_of now) d) x.0 e next.drawn x.1.is in
    subst (λ (f : DrawnEvent). f.hart.0 < now.setting.limits.harts) (sym same)
    (of_the_machine now.setting before x.0.hart x.0.choice (entry_of now.setting before x.0)
    (allowed m now d x.0 next.range next.way.block_run x.1))

-- and the run goes on by it
entry_drawn : (s : Setting) (m : Manner) (before : History) (x : Drawn) → drawn_at s m before ≡ Some x
    → drawn_entry s m before ≡ Some (entry_of s before x)
unfolding drawn_entry
entry_drawn s m before x at = ap (option_map (entry_of s before)) at

kept_next : (s : Setting) (m : Manner) (log : List Entry) (e : Entry) → m.scripted ≤ length log
    → drawing_at s m (history s (log ++ e ∷ [])) ≡ drawing_kept s m (history s log)
kept_next s m log e past =
    let before = history s log in
    ap (drawing_at s m) (history-append s log e)
    ∙ ap (λ (b : Bool). cond b (first_drawing s m) (drawing_kept s m before))
    (le-ltb (length before) m.scripted (omega (arith, past, length-history s log)))

kept_same : (now : Seen) (m : Manner) (d : Drawing) → d ≡ drawing_at now.setting m (history now.setting now.log)
    → kept_after (draw (scene_of now) d) d ≡ drawing_kept now.setting m (history now.setting now.log)
kept_same now m d is = ap (λ (d : Drawing). kept_after (draw (scene_of now) d) d) is

longer_by : (m : Manner) (now : Seen) (d after : Drawing) (e : Entry) → InRange now.setting.limits → IsOnItsWay m now d
    → drawn_entry now.setting m (history now.setting now.log) ≡ Some e → after ≡ kept_after (draw (scene_of now) d) d
    → IsOnItsWay m (record now { log = now.log ++ e ∷ [] }) after
longer_by m now d after e range way entry is =
    let more = drawn_more now.setting m now.log e range.some_hart range.eight_harts way.block_run way.drawn entry in
    record {
      scripted = omega (arith, way.scripted, length-append now.log (e ∷ []));
      block_run = more.0;
      drawn = more.1;
      kept = is ∙ kept_same now m d way.kept ∙ sym (kept_next now.setting m now.log e way.scripted);
    }

same_entry : (x y : Entry) (r : Result Entry Refused) → r ≡ Ok x → r ≡ Ok y → x ≡ y
same_entry x y r one other = let both : Ok x ≡ Ok y = sym one ∙ other in cc

pub way_more : (m : Manner) (now : Seen) (d after : Drawing) (e : DrawnEvent) (entry : Entry) → IsDrawnNext m now d e
    → after ≡ kept_after (draw (scene_of now) d) d → Answers now e (Ok entry)
    → IsOnItsWay m (record now { log = now.log ++ entry ∷ [] }) after
way_more m now d after e entry next kept answer =
    let x = due m now d next.range next.way next.unended in
    let before = history now.setting now.log in
    let its = entry_of now.setting before x.0 in
    let is : Ok entry ≡ Ok its =
    made m now d x.0 e (Ok entry) next.range next.way.block_run x.1 (the_event (draw (scene_of now) d) x.0 e next.drawn x.1.is) answer in
    let same : its ≡ entry = same_entry its entry (Ok its) refl (sym is) in
    subst (λ (y : Entry). IsOnItsWay m (record now { log = now.log ++ y ∷ [] }) after) same
    (longer_by m now d after its next.range next.way (entry_drawn now.setting m before x.0 x.1.at) kept)

-- where it is over it is a whole drawn run
pub whole : (m : Manner) (now : Seen) (d : Drawing) → IsOnItsWay m now d → end_of now.setting (history now.setting now.log) ≢ Unended
    → IsDrawnRun now.setting m now.log
whole m now d way over = record { block_run = way.block_run; drawn = way.drawn; over = over }

-- behind the entries that a machine had at first

pub record IsBehind (s : Setting) (first : List Entry) (now : Seen) : Type 0 where
  pub setting : now.setting ≡ s
  pub begins : take (length first) now.log ≡ first
  pub longer : length first ≤ length now.log

pub behind_first : (now : Seen) → IsBehind now.setting now.log now
behind_first now = record { setting = refl; begins = take_all (length now.log) now.log (omega arith); longer = omega arith }

behind_by : (s : Setting) (first : List Entry) (now : Seen) (e : Entry) → IsBehind s first now
    → IsBehind s first (record now { log = now.log ++ e ∷ [] })
behind_by s first now e is = record {
  setting = is.setting;
  begins = take-append-le (length first) now.log (e ∷ []) is.longer ∙ is.begins;
  longer = omega (arith, is.longer, length-append now.log (e ∷ []));
}

pub behind_more : (s : Setting) (first : List Entry) (now next : Seen) (e : Entry) → next ≡ record now { log = now.log ++ e ∷ [] }
    → IsBehind s first now → IsBehind s first next
behind_more s first now next e is so_far = subst (λ (v : Seen). IsBehind s first v) (sym is) (behind_by s first now e so_far)

-- each event leaves one step less
pub less_left : (m : Manner) (now next : Seen) (d : Drawing) (e : Entry) → IsOnItsWay m now d
    → end_of now.setting (history now.setting now.log) ≡ Unended → next ≡ record now { log = now.log ++ e ∷ [] }
    → next.setting.limits.steps - length next.log < now.setting.limits.steps - length now.log
less_left m now next d e way unended is =
    let longer : length next.log ≡ length now.log + 1 = ap (λ (v : Seen). length v.log) is ∙ length-append now.log (e ∷ []) in
    let room = has_room now.setting now.log way.block_run unended in
    let same : next.setting.limits.steps ≡ now.setting.limits.steps = ap (λ (v : Seen). v.setting.limits.steps) is in
    omega (arith, longer, room, same)

-- by its credit the last hart goes on, and nothing else is drawn
pub credit_draws : (scene : Scene) (d : Drawing) → on scene d ≡ true → draw scene d ≡ Some (on_credit d)
unfolding draw
credit_draws scene d is =
    ap (λ (b : Bool). cond b (Some (on_credit d)) (drawn_by_word scene d)) is

-- so where there is credit, the hart means nothing and goes freely, and its thread is inside no sequence
credit_parts : (credit may own inside none : Bool) → (may && own) ≡ true → credit ≡ true → inside ≡ false → none ≡ true
    → (credit && may && own && not inside && none) ≡ true
credit_parts credit may own inside none free some out empty = grind arith

no_credit : (credit may own inside none : Bool) → credit ≡ false → (credit && may && own && not inside && none) ≡ false
no_credit credit may own inside none off = grind arith

not_freely : (credit may own inside none : Bool) → (may && own) ≡ false → (credit && may && own && not inside && none) ≡ false
not_freely credit may own inside none free = grind arith

within : (credit may own inside none : Bool) → inside ≡ true → (credit && may && own && not inside && none) ≡ false
within credit may own inside none is = grind arith

means_one : (free : Bool) (aim : Option Aim) → is_some aim ≡ true → (free && is_none aim) ≡ false
means_one true (Some a) is = refl
means_one false (Some a) is = refl
means_one free None is = absurd (false≢true is)

means_none : (aim : Option Aim) → is_some aim ≡ false → is_none aim ≡ true
means_none None is = refl
means_none (Some a) is = absurd (false≢true (sym is))

module _ (scene : Scene) (d : Drawing) where
  abbrev may : Bool
  may = (scene.sight d.last.0).exec_enabled

  abbrev own : Bool
  own = (scene.sight d.last.0).«local»

  abbrev inside : Bool
  inside = scene.is_inside d.last.0

  abbrev aim : Option Aim
  aim = aim_behind scene d

  pub goes_by_credit : 0 < d.credit → (may && own) ≡ true → inside ≡ false → is_some aim ≡ false → on scene d ≡ true
  goes_by_credit some free out empty =
      credit_parts (ltb 0 d.credit) may own inside (is_none aim) free (lt-ltb 0 d.credit some) out (means_none aim empty)

  pub stops_without : d.credit ≡ 0 → on scene d ≡ false
  stops_without off = no_credit (ltb 0 d.credit) may own inside (is_none aim) (ap (ltb 0) off)

  pub stops_inside : inside ≡ true → on scene d ≡ false
  stops_inside is = within (ltb 0 d.credit) may own inside (is_none aim) is

  pub stops_unfree : (may && own) ≡ false → on scene d ≡ false
  stops_unfree is = not_freely (ltb 0 d.credit) may own inside (is_none aim) is

  pub stops_owing : is_some aim ≡ true → on scene d ≡ false
  stops_owing is = means_one (ltb 0 d.credit && may && own && not inside) aim is

-- such an event is the next one
pub next_on_credit : (m : Manner) (now : Seen) (d : Drawing) → InRange now.setting.limits → IsOnItsWay m now d
    → end_of now.setting (history now.setting now.log) ≡ Unended → on (scene_of now) d ≡ true → IsDrawnNext m now d (event_of (on_credit d))
next_on_credit m now d range way unended is = record {
  range = range;
  way = way;
  unended = unended;
  drawn = sym (ap (option_map event_of) (credit_draws (scene_of now) d is));
}

pub kept_on_credit : (now : Seen) (d after : Drawing) → on (scene_of now) d ≡ true → after ≡ (on_credit d).after
    → after ≡ kept_after (draw (scene_of now) d) d
kept_on_credit now d after is kept = kept ∙ sym (ap (λ (o : Option Drawn). kept_after o d) (credit_draws (scene_of now) d is))
