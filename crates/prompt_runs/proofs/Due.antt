-- What is due at a hart that owes its thread a signal is never refused.
use Rattle.std.proofs.Common.{◌≡◌, ℕ, Bool, true, List, [], ◌∷◌, Option, Some, None, is_some, refl, ap, ◌∙◌}
use Rattle.std.proofs.lemmas.Bool.{false≢true}
use Rattle.mach_types.specs.Kernel.Signals.{next_for}
use Rattle.mach_types.specs.declared.events.Choice.TheVariants as asked
use Rattle.mach_types.specs.declared.events.Entry.{Entry}
use Rattle.mach_types.specs.declared.user_memory.Store.{Store}
use Rattle.block_model.specs.Events.{refusal_of}
use Rattle.block_model.specs.Events.Drain.{refusal_drain_of}
use Rattle.block_model.specs.Events.Preempt.{unless_in_barrier, unless_waiting}
use Rattle.block_model.specs.Events.Signal.{refusal_delivery, refusal_signal_by}
use Rattle.block_model.specs.Here.{Here, runs, waiting_here}
use Rattle.block_model.specs.Plain.{here_in_plain, plain_after}
use Rattle.block_model.specs.Setting.{Setting}
use Rattle.block_model.specs.Sights.{is_deliverable_on}
use Rattle.prompt_runs.specs.Owed.{can_owe, is_deliverable, owed_after}
use Rattle.prompt_runs.specs.Prompt.{due}
use Rattle.search_reductions.specs.declared.signals.Signals.{Signals}
use Rattle.search_reductions.specs.declared.signals.Signals.TheVariants.{Any, Prompt}
use Rattle.prompt_runs.proofs.InTime.{fitting_after}

delivered : (here : Here) (signal : Option ℕ) → is_some signal ≡ true → waiting_here here ≡ [] → refusal_delivery here signal ≡ None
delivered here None some none = absurd (false≢true some)
delivered here (Some signal) some none = ap unless_waiting none

signal_free : (here : Here) (o : Option ℕ) → is_deliverable_on here o ≡ true → here.awaits ≡ None → waiting_here here ≡ [] → refusal_signal_by here o ≡ None
signal_free here None can apart none = absurd (false≢true can)
signal_free here (Some t) can apart none =
    let next = next_for t here.kernel.signals in
    ap (λ (o : Option ℕ). unless_in_barrier o (refusal_delivery here next)) apart ∙ delivered here next can none

due_free : (here : Here) (stores : List Store) → is_deliverable here ≡ true → here.awaits ≡ None → waiting_here here ≡ stores → refusal_of (due stores) here ≡ None
due_free here [] can apart is = signal_free here (runs here) can apart is
due_free here (w ∷ ws) can apart is = ap refusal_drain_of is

by_signals : (signals : Signals) (here : Here) → can_owe signals here ≡ true → here.awaits ≡ None → refusal_of (due (waiting_here here)) here ≡ None
by_signals Prompt here can apart = due_free here (waiting_here here) can apart refl
by_signals Any here can apart = absurd (false≢true can)

pub due_may_come : (s : Setting) (signals : Signals) (log : List Entry) (h : ℕ) → owed_after signals s log h ≡ true → (plain_after s log).awaits h ≡ None
    → refusal_of (due ((plain_after s log).waiting h)) (here_in_plain s (plain_after s log) h) ≡ None
due_may_come s signals log h owes apart = by_signals signals (here_in_plain s (plain_after s log) h) (fitting_after signals s log h owes) apart
