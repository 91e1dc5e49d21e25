use Rattle.store_buffers.proofs.PagesTouched.{in_one}
use Rattle.store_buffers.proofs.buffer.StoreBuffer.touches.Goals as goal

pub returns : goal.returns
returns c = in_one c.args.page c.args.self.now c.touches_any.result c.touches_any.ensures
