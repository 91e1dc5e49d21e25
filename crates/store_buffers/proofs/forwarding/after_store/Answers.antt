use Rattle.std.proofs.Common.{◌∙◌, ◌-◌, ap, arith}
use Rattle.mach_types.specs.Bytes.{byte_of}
use Rattle.store_buffers.proofs.Overlays.{over_from, over_within, put_fits}
use Rattle.store_buffers.proofs.forwarding.after_store.Goals as goal

pub returns-else-skipped-from-clause-fits : goal.returns-else-skipped-from-clause-fits
returns-else-skipped-from-clause-fits c =
    let fits = put_fits c.args.word 0 c.min.result c.split-bits.result.1 c.args.size (omega arith) c.requires.fits in
    omega arith

pub returns-else-skipped-from-clause-bytes : goal.returns-else-skipped-from-clause-bytes
returns-else-skipped-from-clause-bytes c = λ k within.
    ap (λ n. byte_of n k) c.put.ensures
    ∙ over_from c.args.word c.args.at c.args.size c.args.store c.min.result c.split-bits.result.1 c.if-store-at.true (omega arith) c.min.ensures
    c.split-bits.ensures.high k within

pub returns-else-before-from-clause-fits : goal.returns-else-before-from-clause-fits
returns-else-before-from-clause-fits c =
    let fits = put_fits c.args.word (c.args.store.at - c.args.at) c.min-else-store-at.result c.args.store.value c.args.size (omega arith) c.requires.fits in
    omega arith

pub returns-else-before-from-clause-bytes : goal.returns-else-before-from-clause-bytes
returns-else-before-from-clause-bytes c = λ k within.
    ap (λ n. byte_of n k) c.put-else-store-at.ensures
    ∙ over_within c.args.word c.args.at c.args.size c.args.store c.min-else-store-at.result c.if-store-at.false (omega arith) c.min-else-store-at.ensures k within
