use Rattle.std.proofs.Common.{◌∙◌, sym}
use Rattle.store_buffers.proofs.WordsSeen.{looked, sized_back}
use Rattle.store_buffers.proofs.buffer.StoreBuffer.look.Goals as goal

pub after_stores-requires-clause-stores : goal.after_stores-requires-clause-stores
after_stores-requires-clause-stores g c =
    sized_back c.as_slices.result.0.now c.as_slices.result.1.now (rw c.as_slices.ensures c.self.invariant.sizes)

pub returns-clause-seen : goal.returns-clause-seen
returns-clause-seen g c =
    looked (g.M.UserMem.byte c.args.mem.now) (λ a b e. g.met.M.UserMem.bytes_are_small c.args.mem.now a b e) c.args.self.now
    c.as_slices.result.0.now c.as_slices.result.1.now c.args.at c.args.size c.in_ok-word.word c.after_stores-word.result c.after_stores.result
    (c.as_slices.ensures ∙ c.self.view_is) (sym c.get-2.ensures ∙ c.in_ok-word.was) c.after_stores.ensures.fits c.after_stores-word.ensures.bytes
    c.after_stores.ensures.bytes
