-- What a step by the fixed rule keeps, and that it is refused only where the run is over.
use Rattle.std.proofs.Common.{◌≡◌, ◌≢◌, ℕ, ◌+◌, ◌<◌, [], ◌∷◌, ◌++◌, refl, sym, ap, ◌∙◌, subst, Bool}
use Rattle.std.proofs.Common.{true, false, Some, None, Result, Ok, Err, length, length-append}
use Rattle.std.proofs.Common.{arith, ◌≤◌}
use Rattle.std.specs.Prelude.{IfOk, OnErr}
use Rattle.std.specs.Result.{IsOk, is_ok}
use Rattle.mach_types.specs.declared.events.Choice.{Choice}
use Rattle.mach_types.specs.declared.events.Entry.{Entry}
use Rattle.mach_types.specs.declared.events.Hart.{Hart}
use Rattle.mach_types.specs.declared.limits.End.TheVariants.{Unended}
use Rattle.mach_types.specs.Events.{choice_of}
use Rattle.mach_types.specs.declared.events.Choice.TheVariants as asked
use Rattle.mach_types.specs.declared.events.Sight.{Sight}
use Rattle.block_model.specs.declared.refusals.Refused.{Refused}
use Rattle.block_model.specs.Setting.{Setting, Seen}
use Rattle.block_model.specs.Deciding.{history, decide, end_of}
use Rattle.block_model.specs.Choosing.{credit_at}
use Rattle.block_model.specs.Here.{runs}
use Rattle.block_model.specs.Sights.{is_deliverable_on, sight_in}
use Rattle.block_model.specs.Run.{IsBlockRun}
use Rattle.block_model.specs.History.{here_in_history, ran}
use Rattle.block_model.specs.Solo.{IsSolo, solo_choice, solo_rule}
use Rattle.block_model.proofs.Laws.{executes_when_allowed, rule_is_made, rule_is_read, rule_stops, start_run}
use Rattle.block_model.proofs.Laws.{start_solo, within_limit, IsSolo-append}
use Rattle.whole_runs.specs.Runs.{IsSoloSoFar, IsSoloTurn}

-- the empty log
so_far_empty : (s : Setting) (seed : ℕ) → IsSoloSoFar (record { setting = s; seed = seed; log = [] })
so_far_empty s seed = record { block_run = start_run s; rule = start_solo s }

-- a machine that was just booted
pub so_far_booted : (m : Seen) (s : Setting) (seed : ℕ) → m ≡ record { setting = s; seed = seed; log = [] }
    → (m.setting ≡ s) × IsSoloSoFar m
so_far_booted m s seed is = (ap (λ (u : Seen). u.setting) is, subst IsSoloSoFar (sym is) (so_far_empty s seed))

-- one more entry by the rule, or none
so_far_kept : (v w : Seen) (choice : Choice) (r : Result Entry Refused) → IsSoloSoFar v
    → IfOk r (λ e. solo_choice v.setting (history v.setting v.log) ≡ Some choice)
    → IfOk r (λ e. (e.hart ≡ record { 0 = 0 }) × (choice_of e ≡ choice))
    → IfOk r (λ e. w ≡ record v { log = v.log ++ e ∷ [] }) → OnErr r (w ≡ v)
    → IsBlockRun w.setting w.log → IsSoloSoFar w
so_far_kept v w choice (Ok e) far chosen of ok err run =
    let at : e.hart.0 ≡ 0 = ap (λ (h : Hart). h.0) of.0 in
    record {
      block_run = run;
      rule = subst (λ (u : Seen). IsSolo u.setting u.log) (sym ok)
          (IsSolo-append v.setting v.log e far.rule at (chosen ∙ ap Some (sym of.1)));
    }
so_far_kept v w choice (Err why) far chosen of ok err run = subst IsSoloSoFar (sym err) far

-- where it is made, the log had room: the longer log is a block run too
room_when_made : (v w : Seen) (r : Result Entry Refused)
    → IfOk r (λ e. w ≡ record v { log = v.log ++ e ∷ [] }) → IsBlockRun w.setting w.log
    → is_ok r ≡ true
    → length v.log < v.setting.limits.steps
room_when_made v w (Ok e) ok run made =
    let longer : length (v.log ++ e ∷ []) ≤ v.setting.limits.steps =
    subst (λ (u : Seen). length u.log ≤ u.setting.limits.steps) ok (within_limit w.setting w.log run) in
    omega (arith, longer, length-append v.log (e ∷ []))
room_when_made v w (Err why) ok run made = absurd cc

-- it has one entry more, and the setting is as it was
one_longer : (v w : Seen) (r : Result Entry Refused)
    → IfOk r (λ e. w ≡ record v { log = v.log ++ e ∷ [] }) → is_ok r ≡ true
    → length w.log ≡ length v.log + 1
one_longer v w (Ok e) ok made = ap (λ (u : Seen). length u.log) ok ∙ length-append v.log (e ∷ [])
one_longer v w (Err why) ok made = absurd cc

same_setting : (v w : Seen) (r : Result Entry Refused)
    → IfOk r (λ e. w ≡ record v { log = v.log ++ e ∷ [] }) → OnErr r (w ≡ v)
    → w.setting ≡ v.setting
same_setting v w (Ok e) ok err = ap (λ (u : Seen). u.setting) ok
same_setting v w (Err why) ok err = ap (λ (u : Seen). u.setting) err

no_error : (r : Result Entry Refused) (why : Refused) → r ≡ Err why → ¬ (IsOk r)
no_error r why is made = absurd cc

-- where the rule's choice is refused, the run is over
over_when_refused : (v w : Seen) (choice : Choice) (r : Result Entry Refused) → v.setting.limits.harts ≡ 1
    → IsSoloSoFar v
    → solo_choice v.setting (history v.setting v.log) ≡ Some choice
    → r ≡ decide v.setting (history v.setting v.log) 0 choice → OnErr r (w ≡ v) → is_ok r ≡ false
    → end_of w.setting (history w.setting w.log) ≢ Unended
over_when_refused v w choice (Ok e) one far chosen answer err refused = absurd cc
over_when_refused v w choice (Err why) one far chosen answer err refused =
    subst (λ (u : Seen). end_of u.setting (history u.setting u.log) ≢ Unended) (sym err)
    (λ unended. no_error (decide v.setting (history v.setting v.log) 0 choice) why (sym answer)
    (rule_is_made v.setting v.log choice one far.block_run unended chosen))

-- what holds of all answers holds of an Ok
always : {X Y P : Type 0} (r : Result X Y) → P → IfOk r (λ x. P)
always (Ok x) p = p
always (Err y) p = tt

-- whether a signal can be delivered to the thread on hart 0
abbrev has_signal : Seen → Bool
has_signal m =
    let here = here_in_history m.setting (history m.setting m.log) 0 in
    is_deliverable_on here (runs here)

-- an instruction that is allowed is the rule's choice, where no signal can be delivered
executed_by_rule : (v : Seen) (r : Result Entry Refused) → has_signal v ≡ false
    → r ≡ decide v.setting (history v.setting v.log) 0 asked.Exec
    → IfOk r (λ e. solo_choice v.setting (history v.setting v.log) ≡ Some asked.Exec)
executed_by_rule v (Ok e) none answer = executes_when_allowed v.setting v.log e (sym answer) none
executed_by_rule v (Err why) none answer = tt

-- the rule's choice is what it chooses by what is seen
abbrev IsSeenBy : Seen → Sight → Type 0
IsSeenBy m seen = seen ≡ sight_in (here_in_history m.setting (history m.setting m.log) 0)
    (ran 0 (history m.setting m.log)) (credit_at m.setting m.seed 0 (history m.setting m.log))

pub choice_is_seen : (m : Seen) (seen : Sight) (choice : Choice) → IsSeenBy m seen
    → solo_rule seen ≡ Some choice → solo_choice m.setting (history m.setting m.log) ≡ Some choice
choice_is_seen m seen choice sight is = rule_is_read m.setting m.log (credit_at m.setting m.seed 0 (history m.setting m.log)) seen sight ∙ is

-- a turn by the rule's choice
turn_by_choice : (v w : Seen) (choice : Choice) (r : Result Entry Refused) → v.setting.limits.harts ≡ 1
    → IsSoloSoFar v → solo_choice v.setting (history v.setting v.log) ≡ Some choice
    → r ≡ decide v.setting (history v.setting v.log) 0 choice
    → IfOk r (λ e. (e.hart ≡ record { 0 = 0 }) × (choice_of e ≡ choice))
    → IfOk r (λ e. w ≡ record v { log = v.log ++ e ∷ [] }) → OnErr r (w ≡ v)
    → IsBlockRun w.setting w.log → IsSoloTurn v w (is_ok r)
turn_by_choice v w choice r one far chosen answer of ok err run = record {
  setting = same_setting v w r ok err;
  so_far = so_far_kept v w choice r far (always r chosen) of ok err run;
  room = λ made. room_when_made v w r ok run made;
  longer = λ made. one_longer v w r ok made;
  over = λ refused. over_when_refused v w choice r one far chosen answer err refused;
}

pub turn_made : (v w : Seen) (choice : Choice) (r : Result Entry Refused) (made : Bool) → made ≡ is_ok r
    → v.setting.limits.harts ≡ 1 → IsSoloSoFar v
    → solo_choice v.setting (history v.setting v.log) ≡ Some choice
    → r ≡ decide v.setting (history v.setting v.log) 0 choice
    → IfOk r (λ e. (e.hart ≡ record { 0 = 0 }) × (choice_of e ≡ choice))
    → IfOk r (λ e. w ≡ record v { log = v.log ++ e ∷ [] }) → OnErr r (w ≡ v)
    → IsBlockRun w.setting w.log → IsSoloTurn v w made
turn_made v w choice r made is one far chosen answer of ok err run =
    subst (IsSoloTurn v w) (sym is) (turn_by_choice v w choice r one far chosen answer of ok err run)

-- a turn by an instruction that was made, and one by what is seen where it was refused
pub turn_executed : (v w : Seen) (r : Result Entry Refused) (e : Entry) → r ≡ Ok e → has_signal v ≡ false → IsSoloSoFar v
    → r ≡ decide v.setting (history v.setting v.log) 0 asked.Exec
    → IfOk r (λ e. (e.hart ≡ record { 0 = 0 }) × (choice_of e ≡ asked.Exec))
    → IfOk r (λ e. w ≡ record v { log = v.log ++ e ∷ [] }) → OnErr r (w ≡ v)
    → IsBlockRun w.setting w.log → IsSoloTurn v w true
turn_executed v w r e is none far answer of ok err run = record {
  setting = same_setting v w r ok err;
  so_far = so_far_kept v w asked.Exec r far (executed_by_rule v r none answer) of ok err run;
  room = λ made. room_when_made v w r ok run (ap is_ok is);
  longer = λ made. one_longer v w r ok (ap is_ok is);
  over = λ no. absurd cc;
}

pub turn_after : (v w x : Seen) (made : Bool) → w ≡ v → IsSoloTurn w x made → IsSoloTurn v x made
turn_after v w x made same turn = subst (λ (u : Seen). IsSoloTurn u x made) same turn

-- where the rule has no choice the run is over
pub turn_stopped : (m : Seen) (seen : Sight) → m.setting.limits.harts ≡ 1 → IsSoloSoFar m → IsSeenBy m seen
    → solo_rule seen ≡ None → IsSoloTurn m m false
turn_stopped m seen one far sight none = record {
  setting = refl;
  so_far = far;
  room = λ made. absurd cc;
  longer = λ made. absurd cc;
  over = λ stopped. rule_stops m.setting m.log one far.block_run (rule_is_read m.setting m.log (credit_at m.setting m.seed 0 (history m.setting m.log)) seen sight ∙ none);
}
