use Rattle.std.proofs.Common.{sym, subst, [], ◌∷◌}
use Rattle.percpu_lib.specs.Lines.{IsEmitted}
use Rattle.percpu_lib.proofs.Emitting.{label_done}
use Rattle.percpu_lib.proofs.lines.emit_line.Goals as goal

-- src/lines.rt:25:1
pub returns-in-Label-clause-ok : goal.returns-in-Label-clause-ok
returns-in-Label-clause-ok c =
    subst (λ l. IsEmitted (l ∷ []) c.args.asm.now c.label.new.self) (sym c.in-Label.is)
    (label_done c.args.asm.now c.label.new.self c.in-Label.n c.label.result c.label.ensures.free
    c.label.ensures.bound c.label.ensures.refused)
