use Rattle.std.proofs.Common.{◌^◌, ◌<◌, arith}
use Rattle.frame_pool.proofs.LaidOut.{free-fits, free_count-is}
use Rattle.frame_pool.proofs.pool.FramePool.free.Goals as goal

pub overflow_cast-result : goal.overflow_cast-result
overflow_cast-result c =
    let p = c.self.inside in
    let fits = free-fits c.self.view_is c.self.invariant.0 in
    let numbers : p.frames < 2 ^ 32 = c.self.invariant.0.numbers in
    omega (arith, p.free.ok.0, c.len-2.ensures)

pub overflow_add-result : goal.overflow_add-result
overflow_add-result c =
    let p = c.self.inside in
    let fits = free-fits c.self.view_is c.self.invariant.0 in
    let numbers : p.frames < 2 ^ 32 = c.self.invariant.0.numbers in
    omega (arith, p.free.ok.0, p.taken.ok.0, c.self.invariant.0.marks, c.len.ensures, c.len-2.ensures)

pub returns : goal.returns
returns c =
    let p = c.self.inside in
    let counted = free_count-is c.self.view_is c.self.invariant.0 in
    omega (arith, p.free.ok.0, p.taken.ok.0, c.self.invariant.0.marks, c.len.ensures, c.len-2.ensures)
