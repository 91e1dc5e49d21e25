use Rattle.std.proofs.Common.{◌∙◌, ℕ, ap, subst, sym}
use Rattle.block_model.specs.Deciding.{history}
use Rattle.block_model.specs.History.{History}
use Rattle.block_model.proofs.Laws.{history-nil}
use Rattle.event_facts.specs.Telling.{past_of}
use Rattle.event_facts.specs.Tied.{AreLinesOf}
use Rattle.traced_runs.proofs.tracing.Followed.new.Goals as goal

pub returns : goal.returns
returns c = λ m harts none. record {
  lines = subst (λ (h : ℕ). AreLinesOf h (past_of m) c.in_ok-lines.lines) (sym harts)
      (subst (λ (past : History). AreLinesOf c.args.harts past c.in_ok-lines.lines) (sym (ap (history m.setting) none ∙ history-nil m.setting))
      c.in_ok-lines.ensures);
  sequences = c.in_ok-ledger.ensures m harts none;
}
