use Rattle.std.proofs.Common.{◌≡◌, ◌∙◌, ◌-◌}
use Rattle.mach_types.specs.Kernel.Pages.{first_page}
use Rattle.page_map.specs.declared.listing.TheConstants.{ALL_PAGES}
use Rattle.place_keys.specs.MappedPages.{is_page}
use Rattle.place_keys.proofs.FirstPages.{first_past}
use Rattle.place_keys.proofs.FoundPages.{found_from, found_mapped, found_within}
use Rattle.place_keys.proofs.pages.next_page.Goals as goal

-- the page that is found past the gap is the first one
first : (c : goal.After-next_page) → c.next_page.result ≡ first_page (is_page c.args.pages.now) c.args.from (ALL_PAGES - c.args.from)
first c =
    c.next_page.ensures
    ∙ first_past (is_page c.args.pages.now) c.args.from c.past_gap.result ALL_PAGES c.past_gap.ensures.from c.past_gap.ensures.unmapped

pub returns-clause-from : goal.returns-clause-from
returns-clause-from c = found_from c.args.pages.now c.args.from (ALL_PAGES - c.args.from) c.next_page.result (first c)

pub returns-clause-within : goal.returns-clause-within
returns-clause-within c = found_within c.args.pages.now c.args.from (ALL_PAGES - c.args.from) c.next_page.result (first c)

pub returns-clause-mapped : goal.returns-clause-mapped
returns-clause-mapped c = found_mapped c.args.pages.now c.args.from (ALL_PAGES - c.args.from) c.next_page.result (first c)

pub returns-clause-first : goal.returns-clause-first
returns-clause-first c = first c
