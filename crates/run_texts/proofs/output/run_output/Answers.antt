use Rattle.std.proofs.Common.{List, ◌++◌, ◌≡◌, ap, ◌∙◌}
use Rattle.std.proofs.lemmas.Result.{IfOk-weaker}
use Rattle.mach_types.specs.declared.events.Entry.{Entry}
use Rattle.block_model.specs.Setting.{Seen}
use Rattle.step_log.specs.Grammar.{log_text}
use Rattle.run_texts.proofs.OutputTexts.{run_text}
use Rattle.run_texts.proofs.output.run_output.Goals as goal

pub returns : goal.returns
returns c =
    let same : c.in_ok-new.field-0.value.log ≡ c.args.machine.log = ap (λ (m : Seen). m.log) c.in_ok-new.ensures.ok in
    IfOk-weaker c.with_log.result _ _
    (λ output made. made ∙ ap (λ (es : List Entry). c.in_ok-head.head.items ++ log_text es ++ c.in_ok-tail.tail.items) same
    ∙ run_text c.in_ok-head.head.items c.in_ok-tail.tail.items _ c.args.machine.log c.log.result.now _
    c.log.ensures c.in_ok-head.ensures c.in_ok-tail.ensures)
    c.with_log.ensures
