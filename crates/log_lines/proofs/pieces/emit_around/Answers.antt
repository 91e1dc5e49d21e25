use Rattle.std.proofs.Common.{◌++◌, rules}
use Rattle.outside.specs.Told.{GainedPrefix}
use Rattle.outside.proofs.Gains.{gained-then, prefix-then, prefix-longer}
use Rattle.step_log.specs.Grammar.{log_text}
use Rattle.log_lines.proofs.Writing.{on_err}
use Rattle.log_lines.proofs.pieces.emit_around.Goals as goal

pub returns-in_err-emit_lines-clause-prefix : goal.returns-in_err-emit_lines-clause-prefix
returns-in_err-emit_lines-clause-prefix g c =
    let cut : GainedPrefix (g.K.Sink.held c.args.sink.now) (g.K.Sink.held c.emit_lines.new.sink)
    (c.args.head.now ++ log_text c.args.log.now ++ c.args.tail.now) =
    prefix-longer _ _ (c.args.head.now ++ log_text c.args.log.now) c.args.tail.now
    (prefix-then _ _ _ c.args.head.now (log_text c.args.log.now) c.in_ok-emit.ensures.whole c.in_err-emit_lines.ensures.prefix) in
    search rules

pub returns-clause-prefix : goal.returns-clause-prefix
returns-clause-prefix g c =
    on_err c.emit-2.result
    (prefix-then _ _ _ (c.args.head.now ++ log_text c.args.log.now) c.args.tail.now
    (gained-then _ _ _ c.args.head.now (log_text c.args.log.now) c.in_ok-emit.ensures.whole c.in_ok-emit_lines.ensures.whole))
    c.emit-2.ensures.prefix
