use Rattle.std.proofs.Common.{ℕ, ◌<◌, Some, [], cond, get_or, nat_eq, ap, sym, subst, ◌∙◌, arith}
use Rattle.std.specs.Option.{option_map}
use Rattle.mach_types.specs.Kernel.Pages.{pages_of}
use Rattle.page_map.proofs.Maps.{can_lie-low}
use Rattle.elf_load.specs.declared.image.ImagePage.{ImagePage}
use Rattle.page_map.specs.Map.{break_in, break_start_in, page_in}
use Rattle.page_map.specs.Starting.{mapped_page}
use Rattle.page_map.proofs.Starts.{get_or-default, image_page-next, next-unmapped, small-next}
use Rattle.page_map.proofs.map.PageMap.add_image.Goals as goal

pub add-requires-clause-unmapped : goal.add-requires-clause-unmapped
add-requires-clause-unmapped c =
    let pages = c.args.pages.now in
    let i = c.loop-page.page-index in
    let page : ImagePage = get_or pages i (record { number = 0; perm = 0; bytes = [] }) in
    c.loop-page.invariant.pages page.number
    ∙ ap (option_map mapped_page) (next-unmapped pages i page c.requires.rising (get_or-default pages i (record { number = 0; perm = 0; bytes = [] }) c.loop-page-test.true) c.loop-page-test.true)

pub loop-page-preserved : goal.loop-page-preserved
loop-page-preserved c =
    let pages = c.args.pages.now in
    let i = c.loop-page.page-index in
    let page : ImagePage = get_or pages i (record { number = 0; perm = 0; bytes = [] }) in
    let was = c.loop-page.invariant in
    let added = c.add.ensures in
    record {
      pages = λ n.
          added.pages n ∙ (λ j. cond (nat_eq n page.number) (Some (record { permission = page.perm; bytes = page.bytes })) (was.pages n j))
          ∙ image_page-next pages i page c.requires.rising (get_or-default pages i (record { number = 0; perm = 0; bytes = [] }) c.loop-page-test.true) c.loop-page-test.true n;
      small = λ n. small-next (page_in c.loop-page.self n) (page_in c.add.new.self n) (nat_eq n page.number) page.perm page.bytes (added.pages n) (was.small n) added.small;
      free = let one = added.free in let before = was.free in omega arith;
      break_at = added.break_at ∙ was.break_at;
      break_start = added.break_start ∙ was.break_start;
    }

pub add-requires-clause-number : goal.add-requires-clause-number
add-requires-clause-number c =
    let pages = c.args.pages.now in
    let i = c.loop-page.page-index in
    let page : ImagePage = get_or pages i (record { number = 0; perm = 0; bytes = [] }) in
    let lt = c.loop-page-test.true in
    let was = c.loop-page.invariant in
    let small : page.number < 33554432 = c.requires.below i (record { number = 0; perm = 0; bytes = [] }) lt in
    let below : page.number < pages_of (break_in c.args.self.now) = c.requires.below_break i (record { number = 0; perm = 0; bytes = [] }) lt in
    let start : page.number < pages_of (break_start_in c.args.self.now) = c.requires.below_start i (record { number = 0; perm = 0; bytes = [] }) lt in
    can_lie-low (break_start_in c.loop-page.self) (break_in c.loop-page.self) page.number page.perm small
    (subst (λ (at : ℕ). page.number < pages_of at) (sym was.break_at) below) (subst (λ (at : ℕ). page.number < pages_of at) (sym was.break_start) start)
