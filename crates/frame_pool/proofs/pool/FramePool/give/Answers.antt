use Rattle.std.proofs.Common.{◌≡◌, ◌<◌, ◌≤◌, true, length, is_ok, arith}
use Rattle.std.specs.Vec.{vec_len, vec_capacity}
use Rattle.frame_pool.proofs.LaidOut.{given-laid, given-shown, held-room, held-within}
use Rattle.frame_pool.proofs.pool.FramePool.give.Goals as goal

pub index_mut-requires : goal.index_mut-requires
index_mut-requires c =
    let p = c.self.inside in
    let within : c.args.frame < length p.taken.items = held-within c.self.view_is c.self.invariant.0 c.args.frame c.requires in
    omega (arith, p.taken.ok.0)

pub invariant_of-self : goal.invariant_of-self
invariant_of-self c =
    let p = c.self.inside in
    let roomy : length p.free.items < p.frames = held-room c.self.view_is c.self.invariant.0 c.args.frame c.requires in
    let enough : p.frames ≤ vec_capacity p.free = c.self.invariant.1.stack in
    let space : vec_len p.free < vec_capacity p.free = omega (arith, p.free.ok.0) in
    let ok : is_ok c.push.result ≡ true = c.push.ensures.succeeds space in
    let pushed = rw ok at c.push.ensures.items in (
      given-laid c.self.view_is c.self.invariant.0 c.args.frame c.requires c.into_number-number.result c.push.new.self.items
          c.into_number-number.ensures pushed,
      record {
        bytes = c.self.invariant.1.bytes;
        written = c.self.invariant.1.written;
        marks = c.self.invariant.1.marks;
        stack = omega (arith, c.push.ensures.capacity);
      },
      c.self.invariant.2,
    )

pub returns : goal.returns
returns c = given-shown c.self.view_is c.self.invariant.0 c.args.frame c.requires c.into_number-number.result c.into_number-number.ensures
