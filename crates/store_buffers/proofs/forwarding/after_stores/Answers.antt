use Rattle.std.proofs.Common.{◌+◌}
use Rattle.mach_types.specs.Bytes.{byte_of}
use Rattle.store_buffers.proofs.WordsSeen.{size_le_8, sized, one_more}
use Rattle.store_buffers.proofs.forwarding.after_stores.Goals as goal

pub after_store-word-requires-clause-store : goal.after_store-word-requires-clause-store
after_store-word-requires-clause-store c =
    size_le_8 _ (sized c.args.stores.now c.loop-store.store-index (record { at = 0; size = 0; value = 0 }) c.requires.stores c.loop-store-test.true)

pub loop-store-preserved : goal.loop-store-preserved
loop-store-preserved c = (
  c.after_store-word.ensures.fits,
  λ k within.
      one_more c.args.stores.now c.loop-store.store-index (c.args.at + k) (byte_of c.after_store-word.result k) (byte_of c.args.word k)
      (byte_of c.loop-store.word k) (record { at = 0; size = 0; value = 0 }) c.loop-store-test.true (c.after_store-word.ensures.bytes k within)
      (c.loop-store.invariant.1 k within),
)
