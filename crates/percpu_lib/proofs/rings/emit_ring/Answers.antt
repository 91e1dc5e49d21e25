use Rattle.std.proofs.Common.{length, All, List, subst, sym, ◌∙◌}
use Rattle.percpu_lib.specs.BlockKinds.{ring_kind_of}
use Rattle.percpu_lib.specs.Lines.{AreEmitted, IsEmittable}
use Rattle.percpu_lib.specs.declared.lines.Line.{Line}
use Rattle.percpu_lib.proofs.RingLines.{ring_emittable, ring_labelled, way_made}
use Rattle.percpu_lib.proofs.rings.emit_ring.Goals as goal

pub emit_lines-requires : goal.emit_lines-requires
emit_lines-requires c =
    let lines = way_made (ring_kind_of c.args.way) c.args.count c.args.slots.now c.args.base c.deref-2.result.now
    c.deref.result.now (c.deref-2.ensures.value ∙ c.in_ok-lines.ensures)
    (c.deref.ensures.value ∙ c.in_ok-steps.ensures) in
    subst (λ (xs : List Line). All (IsEmittable (length c.args.asm.now.labels)) xs) (sym lines)
    (ring_emittable (ring_kind_of c.args.way) c.args.slots.now c.args.base (length c.args.asm.now.labels)
    c.requires.slots c.requires.low c.if-not-has_room.ensures.within c.args.count c.requires.few)

pub returns-clause-ok : goal.returns-clause-ok
returns-clause-ok c =
    let lines = way_made (ring_kind_of c.args.way) c.args.count c.args.slots.now c.args.base c.deref-2.result.now
    c.deref.result.now (c.deref-2.ensures.value ∙ c.in_ok-lines.ensures)
    (c.deref.ensures.value ∙ c.in_ok-steps.ensures) in
    subst (λ (xs : List Line). AreEmitted xs c.args.asm.now c.emit_lines.new.asm) lines
    c.in_ok-emit_lines.ensures.ok

pub returns-clause-labelled : goal.returns-clause-labelled
returns-clause-labelled c =
    let lines = way_made (ring_kind_of c.args.way) c.args.count c.args.slots.now c.args.base c.deref-2.result.now
    c.deref.result.now (c.deref-2.ensures.value ∙ c.in_ok-lines.ensures)
    (c.deref.ensures.value ∙ c.in_ok-steps.ensures) in
    ring_labelled (ring_kind_of c.args.way) c.args.count c.args.slots.now c.args.base c.args.asm.now
    c.emit_lines.new.asm
    (subst (λ (xs : List Line). AreEmitted xs c.args.asm.now c.emit_lines.new.asm) lines
    c.in_ok-emit_lines.ensures.ok)
    (c.has_room.ensures.exact.0 c.if-not-has_room.false)
