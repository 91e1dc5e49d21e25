use Rattle.std.proofs.Common.{List, ◌++◌, ◌<◌, sym, subst, ap, ◌∙◌}
use Rattle.std.specs.Prelude.{All}
use Rattle.std.proofs.lemmas.Result.{IfOk-weaker}
use Rattle.mach_types.specs.declared.events.Entry.{Entry}
use Rattle.step_log.specs.Grammar.{log_text}
use Rattle.whole_runs.proofs.PairLogs.{pair_digits}
use Rattle.run_texts.proofs.OutputTexts.{text_of_pair}
use Rattle.pair_runs.proofs.pairs.pair_output.Goals as goal

pub with_log-requires : goal.with_log-requires
with_log-requires c =
    subst (λ (es : List Entry). All (λ (e : Entry). e.hart.0 < 8) es) (sym c.into_log.ensures)
    (pair_digits c.args.pair.setting c.args.pair.log c.requires.limits.eight_harts c.requires.run)

pub returns : goal.returns
returns c =
    IfOk-weaker c.with_log.result _ _
    (λ output made. made ∙ ap (λ (es : List Entry). c.in_ok-head.head.items ++ log_text es ++ c.in_ok-tail.tail.items) c.into_log.ensures
    ∙ text_of_pair c.in_ok-head.head.items c.in_ok-tail.tail.items _ _ _ c.args.pair.log c.in_ok-head.ensures c.in_ok-tail.ensures)
    c.with_log.ensures
