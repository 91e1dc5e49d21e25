use Rattle.std.proofs.Common.{◌+◌, ◌++◌, take, slice_index_or, sym, ap, ◌∙◌, arith, zero-add}
use Rattle.std.proofs.lemmas.Option.{slice_get-get_or}
use Rattle.std.proofs.lemmas.List.{take_more, length-take-le}
use Rattle.rv_asm.specs.declared.item.Item.TheVariants as item
use Rattle.rv_asm.specs.Assembly.{far_label}
use Rattle.rv_asm.proofs.Items.{unbound_label-at, far_label-at, assembled_more}
use Rattle.rv_asm.proofs.code.assemble.Goals as goal

pub word_of-word-requires-clause-bound : goal.word_of-word-requires-clause-bound
word_of-word-requires-clause-bound c =
    unbound_label-at c.args.labels.now c.args.items.now c.loop-index.index (slice_index_or c.args.items.now c.loop-index.index (item.Word 0)) c.requires.bound
    (slice_get-get_or c.args.items.now c.loop-index.index (item.Word 0) c.loop-index-test.true)

pub word_of-word-requires-clause-near : goal.word_of-word-requires-clause-near
word_of-word-requires-clause-near c =
    let entry = slice_index_or c.args.items.now c.loop-index.index (item.Word 0) in
    ap (λ n. far_label c.args.labels.now n entry) (sym (zero-add c.loop-index.index))
    ∙ far_label-at c.args.labels.now 0 c.args.items.now c.loop-index.index entry c.requires.near
    (slice_get-get_or c.args.items.now c.loop-index.index (item.Word 0) c.loop-index-test.true)

pub loop-index-preserved : goal.loop-index-preserved
loop-index-preserved c =
    assembled_more c.args.labels.now (take c.loop-index.index c.args.items.now) (take (c.loop-index.index + 1) c.args.items.now) c.loop-index.bytes.items c.extend_from_slice.new.self.items c.loop-index.index
    (slice_index_or c.args.items.now c.loop-index.index (item.Word 0)) c.word_of-word.result c.loop-index.invariant
    (length-take-le c.loop-index.index c.args.items.now (omega arith)) (omega arith) c.word_of-word.ensures
    (take_more c.args.items.now c.loop-index.index (item.Word 0) c.loop-index-test.true)
    (c.in_ok-extend_from_slice.ensures.items ∙ ap (λ bs. c.loop-index.bytes.items ++ bs) c.to_le_bytes.ensures)
