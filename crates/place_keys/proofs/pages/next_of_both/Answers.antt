use Rattle.std.proofs.Common.{◌-◌}
use Rattle.page_map.specs.declared.listing.TheConstants.{ALL_PAGES}
use Rattle.place_keys.specs.MappedPages.{is_page}
use Rattle.place_keys.proofs.FirstPages.{first_both, first_here, first_left, first_right}
use Rattle.place_keys.proofs.pages.next_of_both.Goals as goal

pub returns-in_default-clause-first : goal.returns-in_default-clause-first
returns-in_default-clause-first c =
    first_right (is_page c.args.pages.now) (is_page c.args.start.now) c.args.from (ALL_PAGES - c.args.from) c.next_page-in_default.result (c.in_default.ensures.first)
    (c.next_page-in_default.ensures.first)

pub returns-then-number-from-clause-first : goal.returns-then-number-from-clause-first
returns-then-number-from-clause-first c =
    first_here (is_page c.args.pages.now) (is_page c.args.start.now) c.args.from (ALL_PAGES - c.args.from) c.in-Some.number (c.in-Some.ensures.first) c.if-number-from.true

pub returns-in-Some-next_page-clause-first : goal.returns-in-Some-next_page-clause-first
returns-in-Some-next_page-clause-first c =
    first_both (is_page c.args.pages.now) (is_page c.args.start.now) c.args.from (ALL_PAGES - c.args.from) c.in-Some.number c.in-Some-next_page.other c.min.result
    (c.in-Some.ensures.first) (c.in-Some-next_page.ensures.first) c.min.ensures

pub returns-in-None-clause-first : goal.returns-in-None-clause-first
returns-in-None-clause-first c =
    first_left (is_page c.args.pages.now) (is_page c.args.start.now) c.args.from (ALL_PAGES - c.args.from) c.in-Some.number (c.in-Some.ensures.first) (c.in-None.ensures.first)
