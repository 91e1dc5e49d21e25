-- A hart that makes an entry by the choice of `run` has something to do, and where a run hasn't ended some hart makes one: so an event is
-- drawn there.
use Rattle.std.proofs.Common.{◌≡◌, ℕ, ◌<◌, ◌≤◌, ◌||◌, Bool, true, false, not, cond, eqb, ltb, List, Option, Some, None, is_none, is_some, refl, sym, ap, ◌∙◌}
use Rattle.std.specs.Prelude.{IsSome}
use Rattle.std.specs.Option.{option_map}
use Rattle.std.proofs.lemmas.Bool.{false≢true}
use Rattle.mach_types.specs.Kernel.Scheduling.{first_for}
use Rattle.mach_types.specs.declared.events.Choice.{Choice}
use Rattle.mach_types.specs.declared.events.Choice.TheVariants as asked
use Rattle.mach_types.specs.declared.events.Entry.{Entry}
use Rattle.mach_types.specs.declared.events.Sight.{Sight}
use Rattle.chooser.specs.Cases.{pick, plainly, when_idle}
use Rattle.chooser.specs.declared.chooser.Pick.{Pick}
use Rattle.block_model.specs.Choosing.{choice_at, has_ended, luck, next_entry, pick_at, sight_with}
use Rattle.block_model.specs.Deciding.{entry_in, history}
use Rattle.block_model.specs.Here.{Here}
use Rattle.block_model.specs.History.{History, here_in_history, kernel, requests}
use Rattle.block_model.specs.Run.{IsBlockRun}
use Rattle.block_model.specs.Setting.{Setting}
use Rattle.block_model.specs.Sights.{thread}
use Rattle.block_model.proofs.Laws.{some_hart_goes_on}
use Rattle.drawn_runs.specs.declared.manner.Manner.{Manner}
use Rattle.drawn_runs.specs.DrawnRuns.{drawing_at, drawn_entry}
use Rattle.drawn_runs.proofs.Able.{HasWork, some_able}
use Rattle.drawn_runs.proofs.Opened.{entry_comes, opened_of_machine}

-- an entry needs a choice, a choice a pick
entry_needs : (here : Here) (o : Option Choice) → is_some (option_map (λ c. entry_in c here) o) ≡ true → is_some o ≡ true
entry_needs here None some = some
entry_needs here (Some c) some = refl

choice_needs : (over known : Bool) (o : Option Pick)
    → is_some (cond over None (cond known (option_map (λ (p : Pick). p.choice) o) None)) ≡ true → is_some o ≡ true
choice_needs true known o some = absurd (false≢true some)
choice_needs false false o some = absurd (false≢true some)
choice_needs false true None some = some
choice_needs false true (Some p) some = refl

picked : (s : Setting) (seed h : ℕ) (before : History) → is_some (next_entry s seed h before) ≡ true → is_some (pick_at s seed h before) ≡ true
unfolding next_entry choice_at
picked s seed h before some =
    choice_needs (has_ended s before) (ltb h s.limits.harts) (pick_at s seed h before)
    (entry_needs (here_in_history s before h)
    (cond (has_ended s before) None
    (cond (ltb h s.limits.harts) (option_map (λ (p : Pick). p.choice) (pick_at s seed h before)) None))
    some)

-- an idle hart picks where a request is pending or a ready thread may run
pick_idle : (seen : Sight) (w : ℕ) → seen.idle ≡ true → pick seen w ≡ option_map plainly (when_idle seen)
unfolding pick
pick_idle seen w idle = rw idle refl

idle_needs : (some : Bool) (first : Option ℕ)
    → is_some (option_map plainly (cond some (Some asked.Take) (option_map asked.Run (option_map thread first)))) ≡ true
    → (some || is_some first) ≡ true
idle_needs true first is = refl
idle_needs false None is = is
idle_needs false (Some t) is = refl

pick_needs : (seen : Sight) (w : ℕ) → seen.idle ≡ true → is_some (pick seen w) ≡ true
    → is_some (option_map plainly (when_idle seen)) ≡ true
pick_needs seen w idle some = sym (ap is_some (pick_idle seen w idle)) ∙ some

work_of : (s : Setting) (seed h : ℕ) (before : History) → h < s.limits.harts → is_some (next_entry s seed h before) ≡ true
    → HasWork s before
work_of s seed h before below some = record {
  hart = h;
  lt = below;
  idle = λ none.
      idle_needs (not (eqb (requests h before) 0)) (first_for h (kernel s before).scheduling)
      (pick_needs (sight_with s h before (luck s seed h before)) _ (ap is_none none) (picked s seed h before some));
}

-- so an event is drawn at each place where the run hasn't ended
drawn_where_chosen : (s : Setting) (m : Manner) (log : List Entry) (h : ℕ) → 0 < s.limits.harts → s.limits.harts ≤ 8
    → IsBlockRun s log → has_ended s (history s log) ≡ false → h < s.limits.harts
    → is_some (next_entry s m.seed h (history s log)) ≡ true → IsSome (drawn_entry s m (history s log))
drawn_where_chosen s m log h some few run goes below makes =
    let before = history s log in
    entry_comes s m before some few goes
    (some_able s log (drawing_at s m before).opened run (opened_of_machine s m before some) (work_of s m.seed h before below makes))

pub drawn_where_open : (s : Setting) (m : Manner) (log : List Entry) → 0 < s.limits.harts → s.limits.harts ≤ 8
    → IsBlockRun s log → has_ended s (history s log) ≡ false → IsSome (drawn_entry s m (history s log))
drawn_where_open s m log some few run goes =
    let at = some_hart_goes_on s m.seed log run.allowed some goes in
    drawn_where_chosen s m log at.0 some few run goes at.1 at.2
