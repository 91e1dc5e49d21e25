-- A drawn log begins behind its script, and goes on by the entry that is drawn.
use Rattle.std.proofs.Common.{◌≡◌, ℕ, ◌<◌, ◌≤◌, List, [], ◌∷◌, ◌++◌, length, Option, Some, None, Ok, refl, sym, ap, ◌∙◌, subst, arith}
use Rattle.std.specs.Option.{option_map}
use Rattle.std.proofs.lemmas.Bool.{false≢true, lt-ltb}
use Rattle.mach_types.specs.declared.events.Entry.{Entry}
use Rattle.drawings.specs.Drawings.{Drawn}
use Rattle.block_model.specs.Deciding.{decide, history}
use Rattle.block_model.specs.History.{History}
use Rattle.block_model.specs.Run.{IsBlockRun}
use Rattle.block_model.specs.Setting.{Seen, Setting}
use Rattle.block_model.proofs.Laws.{history-append, length-history, run_on}
use Rattle.drawn_runs.specs.declared.manner.Manner.{Manner}
use Rattle.drawn_runs.specs.DrawnRuns.{IsDrawn, IsDrawnHistory, drawn_at, drawn_entry, entry_of}
use Rattle.drawn_runs.proofs.Allowed.{drawn_is_allowed}

-- what a script makes needs no draw
scripted_is_drawn : (s : Setting) (m : Manner) (before : History) → length before ≤ m.scripted → IsDrawnHistory s m before
scripted_is_drawn s m [] within = tt
scripted_is_drawn s m (e ∷ before) within = (
  scripted_is_drawn s m before (omega arith),
  λ past. absurd (false≢true (sym past ∙ lt-ltb (length before) m.scripted (omega arith))),
)

pub drawn_start : (s : Setting) (m : Manner) (log : List Entry) → length log ≤ m.scripted → IsDrawn s m log
drawn_start s m log within =
    scripted_is_drawn s m (history s log) (subst (λ (n : ℕ). n ≤ m.scripted) (sym (length-history s log)) within)

-- an entry that is drawn is that of an event that is drawn
drawn_of : (s : Setting) (before : History) (o : Option Drawn) (e : Entry) → option_map (entry_of s before) o ≡ Some e
    → (x : Drawn) × (o ≡ Some x) × (entry_of s before x ≡ e)
drawn_of s before None e is = absurd cc
drawn_of s before (Some x) e is = (x, refl, cc)

pub event_of_entry : (s : Setting) (m : Manner) (before : History) (e : Entry) → drawn_entry s m before ≡ Some e
    → (x : Drawn) × (drawn_at s m before ≡ Some x) × (entry_of s before x ≡ e)
unfolding drawn_entry
event_of_entry s m before e is = drawn_of s before (drawn_at s m before) e is

pub drawn_more : (s : Setting) (m : Manner) (log : List Entry) (e : Entry) → 0 < s.limits.harts → s.limits.harts ≤ 8
    → IsBlockRun s log → IsDrawn s m log → drawn_entry s m (history s log) ≡ Some e
    → IsBlockRun s (log ++ e ∷ []) × IsDrawn s m (log ++ e ∷ [])
drawn_more s m log e some few run drawn is =
    let v : Seen = record { setting = s; seed = 0; log = log } in
    let event = event_of_entry s m (history s log) e is in
    let x = event.0 in
    let made : decide s (history s log) x.hart x.choice ≡ Ok e =
    drawn_is_allowed s m log x some few run event.1 ∙ ap Ok event.2 in (
      run_on v x.hart x.choice e run made,
      subst (λ (before : History). IsDrawnHistory s m before) (sym (history-append s log e)) (drawn, λ past. is),
    )
