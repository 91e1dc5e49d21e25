use Rattle.std.proofs.Common.{[], ◌∷◌, take, get_or, subst, sym, ◌∙◌}
use Rattle.std.proofs.lemmas.List.{take_more}
use Rattle.percpu_lib.proofs.Emitting.{emitted_labels, emitted_more}
use Rattle.percpu_lib.specs.declared.lines.Line.TheVariants as line
use Rattle.percpu_lib.specs.Lines.{IsEmitted}
use Rattle.percpu_lib.proofs.lines.emit_lines.Goals as goal

-- src/lines.rt:52:5
pub loop-line-preserved : goal.loop-line-preserved
loop-line-preserved c =
    let one : IsEmitted (get_or c.args.lines.now c.loop-line.line-index (line.Label 0) ∷ []) c.loop-line.asm
    c.emit_line.new.asm = c.in_ok-emit_line.ensures.ok in
    record {
      emitted = record {
        are = subst (λ xs. IsEmitted xs c.args.asm.now c.emit_line.new.asm)
            (sym (take_more c.args.lines.now c.loop-line.line-index (line.Label 0) c.loop-line-test.true))
            (emitted_more (take c.loop-line.line-index c.args.lines.now)
            (get_or c.args.lines.now c.loop-line.line-index (line.Label 0)) c.args.asm.now c.loop-line.asm
            c.emit_line.new.asm
            c.loop-line.invariant.emitted.are one);
      };
      labels = emitted_labels (get_or c.args.lines.now c.loop-line.line-index (line.Label 0) ∷ [])
          c.loop-line.asm c.emit_line.new.asm one ∙ c.loop-line.invariant.labels;
    }
