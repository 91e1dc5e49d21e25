use Rattle.std.proofs.Common.{length, All, subst, sym, ◌∙◌}
use Rattle.percpu_lib.specs.BlockKinds.{kind_of}
use Rattle.percpu_lib.specs.Lines.{AreEmitted, IsEmittable}
use Rattle.percpu_lib.proofs.KindLines.{kind_emittable, kind_labelled}
use Rattle.percpu_lib.proofs.blocks.emit_block.Goals as goal

pub emit_lines-requires : goal.emit_lines-requires
emit_lines-requires c =
    subst (λ xs. All (IsEmittable (length c.args.asm.now.labels)) xs)
    (sym (c.deref.ensures.value ∙ c.in_ok-lines.ensures))
    (kind_emittable (kind_of c.args.kind) c.args.slots.now c.args.base (length c.args.asm.now.labels)
    c.requires.slots
    c.requires.low c.if-not-has_room.ensures.within)

pub returns-clause-labelled : goal.returns-clause-labelled
returns-clause-labelled c =
    kind_labelled (kind_of c.args.kind) c.args.slots.now c.args.base c.args.asm.now c.emit_lines.new.asm
    (subst (λ xs. AreEmitted xs c.args.asm.now c.emit_lines.new.asm)
    (c.deref.ensures.value ∙ c.in_ok-lines.ensures)
    c.in_ok-emit_lines.ensures.ok)
    (c.has_room.ensures.exact.0 c.if-not-has_room.false)
