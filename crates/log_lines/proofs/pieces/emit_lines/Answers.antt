use Rattle.std.proofs.Common.{rules, ◌∙◌, arith}
use Rattle.outside.specs.Told.{GainedPrefix}
use Rattle.step_log.specs.Grammar.{log_text}
use Rattle.log_lines.proofs.Writing.{writing_more, writing_cut}
use Rattle.log_lines.proofs.pieces.emit_lines.Goals as goal

pub loop-done-preserved : goal.loop-done-preserved
loop-done-preserved g c =
    writing_more _ _ _ _ _ _ c.args.log.now c.loop-done.done c.min-end.result c.deref.result.now c.loop-done.invariant (omega arith) (omega arith)
    (c.deref.ensures.value ∙ c.fill.ensures) c.in_ok-emit.ensures.whole c.emit.ensures.counts

pub returns-in_err-emit-clause-prefix : goal.returns-in_err-emit-clause-prefix
returns-in_err-emit-clause-prefix g c =
    let cut : GainedPrefix (g.K.Sink.held c.args.sink.now) (g.K.Sink.held c.emit.new.sink) (log_text c.args.log.now) =
    writing_cut _ _ _ _ _ c.args.log.now c.loop-done.done c.min-end.result c.deref.result.now c.loop-done.invariant (omega arith) (omega arith)
    (c.deref.ensures.value ∙ c.fill.ensures) c.in_err-emit.ensures.prefix in
    search rules
