use Rattle.std.proofs.Common.{◌≡◌, ◌+◌, ◌≤◌, ◌<◌, ◌*◌, arith}
use Rattle.page_map.specs.declared.listing.TheConstants.{ALL_PAGES}
use Rattle.place_keys.proofs.Codes.{then_ok}
use Rattle.place_keys.proofs.PageCodes.{memory_end, memory_first, memory_step}
use Rattle.place_keys.proofs.pages.write_memory.Goals as goal

pub loop-number-init : goal.loop-number-init
loop-number-init c = record {
  within = c.next_written-number.ensures.within;
  order = omega arith;
  written = memory_first c.args.start.now c.args.pages.now c.next_written-number.result c.args.words.now.items c.next_written-number.ensures.same;
}

pub loop-number-smaller : goal.loop-number-smaller
loop-number-smaller c =
    let above : c.loop-number.number + 1 ≤ c.next_written-number-in-loop-number.result = c.next_written-number-in-loop-number.ensures.from (omega arith) in
    let within = c.next_written-number-in-loop-number.ensures.within in
    omega arith

pub loop-number-preserved : goal.loop-number-preserved
loop-number-preserved c =
    let above : c.loop-number.number + 1 ≤ c.next_written-number-in-loop-number.result = c.next_written-number-in-loop-number.ensures.from (omega arith) in
    let order : c.in_ok-past.past ≤ 512 * c.loop-number.number + 512 = c.in_ok-past.ensures.order in
    record {
      within = c.next_written-number-in-loop-number.ensures.within;
      order = omega arith;
      written =
          memory_step c.args.start.now c.args.pages.now c.loop-number.number c.next_written-number-in-loop-number.result c.args.words.now.items c.loop-number.words.items c.write_page.new.words.items
          c.loop-number.past c.in_ok-past.past above order c.next_written-number-in-loop-number.ensures.same c.loop-number.invariant.written c.in_ok-past.ensures.written;
    }

pub returns : goal.returns
returns c =
    let whole : c.loop-number.number ≡ ALL_PAGES = let within = c.loop-number.invariant.within in omega arith in
    then_ok c.write_word.result _ _ (λ is. memory_end c.args.start.now c.args.pages.now c.loop-number.number c.args.words.now.items c.loop-number.words.items c.write_word.new.words.items
    c.loop-number.past whole c.loop-number.invariant.written is) c.write_word.ensures
