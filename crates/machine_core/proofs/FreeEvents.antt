-- A hart that goes freely, told by the hart that is kept of it; and its `exec` is allowed.
use Rattle.machine_core.proofs.Common.{◌≡◌, ℕ, ◌<◌, ◌∙◌, ap, refl, sym, Bool, true, false, is_none, is_some, leb, length, lt-leb, or_parts, Option, Some, None, Ok, slice_get, HartState, History, Inside, IsMachine, Setting, Why, credit_at, entry_in, events, has_ended, over_at, ran, refusal_exec, setting_of, unless, here_in_history}
use Rattle.std.proofs.lemmas.Bool.{and_parts}
use Rattle.mach_types.specs.declared.events.Choice.TheVariants as asked
use Rattle.block_model.specs.Deciding.{decide, decide_in}
use Rattle.block_model.specs.Here.{runs}
use Rattle.block_model.specs.Sights.{is_local_on}
use Rattle.process.specs.PlainSteps.{goes_free}
use Rattle.machine_core.specs.Free.{goes_freely}
use Rattle.machine_core.proofs.AdvanceAnswers.{none_of}
use Rattle.machine_core.proofs.FreeSteps.{freely_read}
use Rattle.machine_core.proofs.Readings.{hart_listed, hart_seen, here_read, history_of}

pub free_here : (m : Inside) (h : ℕ) (b : Bool) → IsMachine m → h < m.limits.harts
    → ((x : HartState) → slice_get m.parts.harts.items h ≡ Some x → b ≡ goes_free m.code x) → b ≡ goes_freely (here_read m h)
free_here m h b machine lt free =
    free (hart_seen m h) (hart_listed m h machine lt)
    ∙ freely_read (here_read m h) (hart_seen m h) (ran h (history_of m)) (events h (history_of m)) (credit_at (setting_of m) m.seed h (history_of m)) refl

-- no condition fails
none_fails : (o : Option Why) → is_none o ≡ true → o ≡ None
none_fails None is = refl
none_fails (Some why) is = cc

pub free_decides : (s : Setting) (before : History) (h : ℕ) → has_ended s before ≡ false → h < s.limits.harts → goes_freely (here_in_history s before h) ≡ true
    → decide s before h asked.Exec ≡ Ok (entry_in asked.Exec (here_in_history s before h))
unfolding has_ended decide
free_decides s before h goes lt free =
    let here = here_in_history s before h in
    let parts = or_parts (is_some (over_at s before)) (leb s.limits.steps (length before)) goes in
    let none = none_fails (refusal_exec here) (and_parts (is_none (refusal_exec here)) (is_local_on here (runs here)) free).0 in
    ap (λ o. decide_in (length before) o asked.Exec here) (none_of (over_at s before) (sym parts.0))
    ∙ rw (parts.1, lt-leb s.limits.harts h lt) (ap (unless (entry_in asked.Exec here)) none)
