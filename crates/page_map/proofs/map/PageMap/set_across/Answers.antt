-- A number whose bytes are written one by one.
use Rattle.std.proofs.Common.{◌≡◌, ◌∙◌, ◌+◌, sym, ap, arith}
use Rattle.page_map.specs.Map.{byte_in, can_write_in, held_in}
use Rattle.page_map.proofs.Accesses.{each_byte-at}
use Rattle.page_map.proofs.Readings.{can_write_in-below}
use Rattle.page_map.proofs.Stores.{next_rest}
use Rattle.page_map.proofs.Writings.{step_across, writes_one}
use Rattle.page_map.proofs.map.PageMap.set_across.Goals as goal

pub overflow_add-at : goal.overflow_add-at
overflow_add-at c =
    let all = c.if-not-writable_across.ensures in
    let low = can_write_in-below c.args.self.now (c.args.at + c.loop-k.k) (each_byte-at (can_write_in c.args.self.now) c.args.at c.args.size c.loop-k.k (sym all) c.loop-k-test.true) in
    omega (arith, low)

pub loop-k-preserved : goal.loop-k-preserved
loop-k-preserved c =
    let all = c.if-not-writable_across.ensures in
    let m = c.args.self.now in
    let k = c.loop-k.k in
    let was = c.loop-k.invariant in
    let set = c.set_in_page.ensures.stored in
    let next : c.args.at + c.from.result ≡ c.args.at + k = ap (λ j. c.args.at + j) c.from.ensures in
    let done = writes_one m c.loop-k.self c.args.at k c.args.size (c.args.at + c.from.result) c.set_in_page.result next c.loop-k-test.true (sym all) was.permissions c.set_in_page.ensures.answer in
    record {
      rest = next_rest c.args.value k c.loop-k.rest was.rest;
      bytes = step_across (byte_in m) (byte_in c.loop-k.self) (byte_in c.set_in_page.new.self) c.args.at k c.args.value c.loop-k.rest (c.args.at + c.from.result) c.set_in_page.result next done was.rest was.bytes set.bytes;
      held = step_across (held_in m) (held_in c.loop-k.self) (held_in c.set_in_page.new.self) c.args.at k c.args.value c.loop-k.rest (c.args.at + c.from.result) c.set_in_page.result next done was.rest was.held set.held;
      permissions = λ n. set.permissions n ∙ was.permissions n;
      code = λ a. set.code a ∙ was.code a;
      free = set.free ∙ was.free;
      break_at = set.break_at ∙ was.break_at;
      break_start = set.break_start ∙ was.break_start;
    }
