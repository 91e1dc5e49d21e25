use Rattle.std.proofs.Common.{◌≡◌, ◌∙◌, ◌∷◌, [], ℕ, Option, ap, sym}
use Rattle.std.specs.Option.{option_to_list}
use Rattle.block_model.specs.Deciding.{end_of}
use Rattle.process.specs.Harts.{file_of}
use Rattle.fact_types.specs.declared.facts.Fact.{Fact}
use Rattle.event_facts.specs.Calls.{is_process_end}
use Rattle.event_facts.specs.Pending.{delivered_fact, delivered_facts}
use Rattle.event_facts.specs.Telling.{past_of}
use Rattle.event_facts.proofs.pending.delivery.Goals as goal

pub returns : goal.returns
returns c =
    let m = c.args.machine.now in
    let killed : c.is_process_end-killed.result ≡ is_process_end (end_of m.setting (past_of m)) =
    c.is_process_end-killed.ensures ∙ ap is_process_end c.end.ensures in
    ap (λ (x : Fact). x ∷ [])
    (c.delivered_fact.ensures ∙ (λ i. delivered_fact (killed i) (file_of (c.hart-state.ensures i)) c.in_ok-signal.signal))
    ∙ ap (λ (o : Option ℕ). delivered_facts m.setting (past_of m) c.args.entry o) (sym c.in_ok-signal.was)

pub returns-in_err-signal : goal.returns-in_err-signal
returns-in_err-signal c =
    let m = c.args.machine.now in
    ap (λ (o : Option Fact). option_to_list o) c.from_residual.ensures
    ∙ ap (λ (o : Option ℕ). delivered_facts m.setting (past_of m) c.args.entry o) (sym c.in_err-signal.was)
