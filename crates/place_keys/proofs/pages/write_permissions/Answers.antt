use Rattle.std.proofs.Common.{◌≤◌, ◌<◌, ◌+◌, ◌++◌, ◌∙◌, List, ℕ, ap, sym, arith}
use Rattle.std.specs.Option.{option_map_or}
use Rattle.std.proofs.lemmas.Bool.{OnTrue_at}
use Rattle.page_map.specs.declared.listing.TheConstants.{ALL_PAGES}
use Rattle.place_keys.specs.PageWords.{permission_word}
use Rattle.place_keys.proofs.Codes.{then_ok}
use Rattle.place_keys.proofs.DifferenceCodes.{nothing_differs}
use Rattle.place_keys.proofs.PageCodes.{permission_step, permissions_end}
use Rattle.place_keys.proofs.pages.write_permissions.Goals as goal

pub returns-then-has_pages_of : goal.returns-then-has_pages_of
returns-then-has_pages_of c =
    let start = c.args.start.now in
    let m = c.args.pages.now in
    let none = nothing_differs (permission_word start) (permission_word m) 0 0 ALL_PAGES (λ j low high.
    ap (λ o. option_map_or (λ permission. permission + 1) o 0) (OnTrue_at c.if-has_pages_of.true c.has_pages_of.ensures j)) in
    then_ok c.write_word.result _ _ (λ is. is ∙ ap (λ (ws : List ℕ). c.args.words.now.items ++ ws) (sym none)) c.write_word.ensures

pub write_change-requires-clause-order : goal.write_change-requires-clause-order
write_change-requires-clause-order c =
    let low : c.loop-number.from ≤ c.in-Some.number = c.in-Some.ensures.from in
    let order : c.loop-number.past ≤ c.loop-number.from = c.loop-number.invariant.order in
    omega arith

pub write_change-requires-clause-room : goal.write_change-requires-clause-room
write_change-requires-clause-room c = let within : c.in-Some.number < ALL_PAGES = c.in-Some.ensures.within in omega arith

pub overflow_add-from : goal.overflow_add-from
overflow_add-from c = let within : c.in-Some.number < ALL_PAGES = c.in-Some.ensures.within in omega arith

pub loop-number-smaller : goal.loop-number-smaller
loop-number-smaller c =
    let low : c.loop-number.from ≤ c.in-Some.number = c.in-Some.ensures.from in
    let within : c.in-Some.number < ALL_PAGES = c.in-Some.ensures.within in
    omega arith

pub loop-number-preserved : goal.loop-number-preserved
loop-number-preserved c =
    let within : c.in-Some.number < ALL_PAGES = c.in-Some.ensures.within in
    record {
      within = omega arith;
      order = c.in_ok-past.ensures.order;
      written =
          permission_step c.args.start.now c.args.pages.now c.loop-number.from c.in-Some.number c.args.words.now.items c.loop-number.words.items c.write_change.new.words.items
          c.loop-number.past c.in_ok-past.past c.loop-number.invariant.within c.in-Some.ensures.first c.loop-number.invariant.written
          (c.in_ok-past.ensures.written (permission_word c.args.start.now) (permission_word c.args.pages.now) (sym c.permission_word-old.ensures) (sym c.permission_word-now.ensures));
    }

pub returns : goal.returns
returns c =
    then_ok c.write_word-2.result _ _ (λ is. permissions_end c.args.start.now c.args.pages.now c.loop-number.from c.args.words.now.items c.loop-number.words.items c.write_word-2.new.words.items
    c.loop-number.past c.loop-number.invariant.within c.in_default.ensures.first c.loop-number.invariant.written is) c.write_word-2.ensures
